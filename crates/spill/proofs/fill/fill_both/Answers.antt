-- `spill::fill::fill_both` meets its contract. What stays of both lists, merged, is what stays when the second is put in after the first
-- (`settled-front`).
use mathlib.Core.Path.{◌≡◌}
use Prim.Native.Nat.{◌+◌}
use native.Mathlib.Omega.{arith}
use lib.ListN.{take}
use Rattle.crumbmap.specs.Layouts.{layout1}
use Rattle.machine.specs.Steps.Spills.{stays}
use Rattle.machine.proofs.StayLaws.{stays-list}
use Rattle.spill.proofs.SettleLaws.{settled-mergeable, settled-front}
use Rattle.spill.proofs.fill.fill_both.Goals.{After-merge_into}
use Rattle.spill.proofs.fill.fill_both.Goals as goal

-- the keys that are written
written : (c : After-merge_into) →
    take (c.settle-split.result.kept + c.settle-split.result.taken) c.merge_into.new.out
    ≡ stays layout1.front_slots c.args.b.now c.args.a.now
written c = settled-front c.settle-split.ensures _ _ c.merge_into.ensures

pub merge_into-requires : goal.merge_into-requires
merge_into-requires c =
    let p = c.requires.0 in
    let m = settled-mergeable c.settle-split.ensures p.front.order p.after.order in
    (m.0, m.1, omega (arith, m.2))

pub fill_front_at-requires : goal.fill_front_at-requires
fill_front_at-requires c =
    (c.requires.1, rw (written (goal.at.fill_front_at-requires c).After-merge_into) (stays-list layout1 c.args.b.now c.args.a.now c.requires.0.front c.requires.0.after.range))
