-- What holds at each turn of the loop: `zeros` are the word's zeros from slot 2 × `pair` on, the answer for all slots is the answer for those from there
-- on, behind `last`, and the slots below `sought` are `below` and those from there on.
use Rattle.std.proofs.Common.{◌≡◌, ◌+◌, ◌*◌, ◌≤◌, drop}
use Rattle.multiset.specs.Multisets as M
use Rattle.crumbmap.specs.Layouts.{layout1}
use Rattle.minifilter.specs.Steps.Slots.{end_of, slot_minis, slot_members, in_order}
use Rattle.buckets.proofs.GapLaws.{gaps}
use Rattle.minifilter.proofs.PassLaws.{from_slot}
use Rattle.minifilter.proofs.read.ascends.Given as goal

abbrev pub invariant-loop-pair : goal.invariant-loop-pair
invariant-loop-pair l =
    let slot = 2 * l.pair in
    let held = slot_members layout1 l.crumbs l.w l.b in
    (l.zeros ≡ gaps slot (drop slot (slot_minis layout1 l.crumbs l.w)))
    × (in_order layout1 l.crumbs l.w l.b ≡ from_slot (end_of layout1 l.crumbs) l.last slot held)
    × (l.below ≤ slot) × (M.below l.sought held ≡ l.below + M.below l.sought (drop slot held))
