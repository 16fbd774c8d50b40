-- What holds at each turn of the loop: `zeros` are the word's zeros from `slot` on, and no slot passed holds the crumb.
use Rattle.std.proofs.Common.{◌≡◌, ℕ, ◌<◌, true, drop}
use Rattle.crumbmap.specs.Layouts.{layout1}
use Rattle.minifilter.specs.Steps.Slots.{slot_minis, crumb_at}
use Rattle.buckets.proofs.GapLaws.{gaps}
use Rattle.search.proofs.list.first_carrying.Given as goal

abbrev pub invariant-loop-slot : goal.invariant-loop-slot
invariant-loop-slot l =
    (l.zeros ≡ gaps l.slot (drop l.slot (slot_minis layout1 true l.word))) × ((i : ℕ) → i < l.slot → crumb_at layout1 l.b i ≡ l.crumb → ⊥)
