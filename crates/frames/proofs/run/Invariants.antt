-- Pieces of the input have led to the image and the bytes held.
use Rattle.std.proofs.Common.{◌≤◌, take}
use Rattle.frames.specs.Steps.Runs.{Came}
use Rattle.frames.proofs.run.Given as goal

abbrev pub invariant-loop : goal.invariant-loop
invariant-loop l = (l.held ≤ 19) × Came l.image (take l.held l.line)
