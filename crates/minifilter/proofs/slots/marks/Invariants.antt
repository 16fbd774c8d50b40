-- What holds at each turn of the loop: the slots passed are marked.
use Rattle.std.proofs.Common.{◌≡◌, ℕ, ◌*◌}
use Rattle.minifilter.specs.Steps.Marks.{marks_of, Tells}
use Rattle.minifilter.proofs.slots.marks.Given as goal

abbrev pub invariant-loop-slot : goal.invariant-loop-slot
invariant-loop-slot g l = (f : ℕ → ℕ) (t : ℕ) → Tells (goal.F-post g l.marked) f t l.slots → l.marks ≡ 2 * marks_of f t 0 l.slot
