-- `shifts::crumbs::insert_crumb` meets its contract: what falls off the first word comes into the bytes behind it.
use Rattle.std.proofs.Common.{ℕ, [], ◌∷◌, sym, ap, ◌∙◌}
use Rattle.multiset.specs.Digits.{grouped, spread}
use Rattle.shifts.specs.Steps.Shifts.{inserted, crumb_inserted}
use Rattle.shifts.proofs.CrumbLaws.{crumbs-stored, crumbs-written, crumb-inserted}
use Rattle.shifts.proofs.crumbs.insert_crumb.Goals as goal

pub returns : goal.returns
unfolding crumb_inserted
returns c =
    let a = c.args in
    let s = a.s.now in
    let low = c.open_lane-new_low.result in
    let high = c.open_lane-new_high.result in
    let w = c.word_at-high.result in
    let v = c.word_at-low.result in
    let halves = crumb-inserted s v w c.requires.0 c.word_at-low.ensures c.word_at-high.ensures
    a.slot a.crumb c.carried.result c.low_lanes-n.result low high c.low_lanes-n.ensures
    c.carried.ensures.1 c.open_lane-new_low.ensures c.open_lane-new_high.ensures in
    let bytes = crumbs-stored low high s c.put_at.new.s c.put_at-2.new.s c.requires.0 c.put_at.ensures c.put_at-2.ensures in
    crumbs-written low high c.put_at-2.new.s (inserted a.slot (a.crumb ∷ []) (spread 16 2 s)) bytes halves
    ∙ ap (λ (n : ℕ). grouped 16 2 n (inserted a.slot (a.crumb ∷ []) (spread 16 2 s))) (sym c.requires.0)
