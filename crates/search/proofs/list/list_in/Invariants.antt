-- What holds at each turn of the loop: `zeros` are the word's zeros from `slot` on, and the keys asked for of the slots passed stand in front of what
-- `out` held.
use Rattle.std.proofs.Common.{◌≡◌, ◌≤◌, drop}
use Rattle.crumbmap.specs.Layouts.{layout1}
use Rattle.minifilter.specs.Steps.Readings.{members_of}
use Rattle.minifilter.specs.Steps.Slots.{slot_minis}
use Rattle.buckets.proofs.GapLaws.{gaps}
use Rattle.search.proofs.ListLaws.{Listed}
use Rattle.search.proofs.list.list_in.Given as goal

abbrev pub invariant-loop-slot : goal.invariant-loop-slot
invariant-loop-slot l =
    (l.n ≤ l.slot) × (l.zeros ≡ gaps l.slot (drop l.slot (slot_minis layout1 l.crumbs l.word)))
    × Listed l.crumbs l.crumb l.slot l.n (members_of layout1 l.crumbs l.b) l.out l.initial.out
