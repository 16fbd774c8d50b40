-- The bytes up to `at` have led to the image and the bytes held; those that are left get less.
use Rattle.std.proofs.Common.{◌≤◌, ◌-◌, take}
use Rattle.frames.specs.Steps.Runs.{Took}
use Rattle.frames.proofs.take_in.Given as goal

abbrev pub invariant-loop-at : goal.invariant-loop-at
invariant-loop-at l =
    (l.at ≤ l.n) × (l.h ≤ 19) × Took l.initial.image (take l.held l.initial.line) (take l.n l.buffer) l.at l.image (take l.h l.line)

abbrev pub decreases-loop-at : goal.decreases-loop-at
decreases-loop-at l = l.n - l.at
