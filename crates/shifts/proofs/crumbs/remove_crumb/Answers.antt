-- `shifts::crumbs::remove_crumb` meets its contract: the first crumb behind the first word comes into it.
use Rattle.std.proofs.Common.{ℕ, sym, ap, ◌∙◌, arith}
use Rattle.multiset.specs.Digits.{grouped, spread}
use Rattle.shifts.specs.Steps.Shifts.{taken_out, crumb_removed}
use Rattle.shifts.proofs.CrumbLaws.{crumbs-stored, crumbs-written, crumb-removed}
use Rattle.shifts.proofs.crumbs.remove_crumb.Goals as goal

pub returns : goal.returns
unfolding crumb_removed
returns c =
    let a = c.args in
    let s = a.s.now in
    let low = c.blend-new_low.result in
    let high = c.blend-new_high.result in
    let w = c.word_at-high.result in
    let v = c.word_at-low.result in
    let halves = crumb-removed s v w c.requires.0 c.word_at-low.ensures c.word_at-high.ensures
    a.slot c.low_lanes-n.result low high c.requires.1 c.low_lanes-n.ensures (omega arith) (omega arith)
    c.blend-new_low.ensures c.blend-new_high.ensures in
    let bytes = crumbs-stored low high s c.put_at.new.s c.put_at-2.new.s c.requires.0 c.put_at.ensures c.put_at-2.ensures in
    crumbs-written low high c.put_at-2.new.s (taken_out a.slot 1 (spread 16 2 s)) bytes halves
    ∙ ap (λ (n : ℕ). grouped 16 2 n (taken_out a.slot 1 (spread 16 2 s))) (sym c.requires.0)
