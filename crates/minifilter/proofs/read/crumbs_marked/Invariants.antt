-- What holds at each turn of the loop: the answer for all crumbs is the answer for those from `slot` on.
use Rattle.std.proofs.Common.{◌≡◌, true, take, drop}
use Rattle.crumbmap.specs.Layouts.{layout1}
use Rattle.minifilter.specs.Steps.Slots.{slot_crumbs, marked}
use Rattle.minifilter.proofs.read.crumbs_marked.Given as goal

abbrev pub invariant-loop-slot : goal.invariant-loop-slot
invariant-loop-slot l = let cs = take l.members (slot_crumbs layout1 true l.b) in marked l.marks cs ≡ marked l.marks (drop l.slot cs)
