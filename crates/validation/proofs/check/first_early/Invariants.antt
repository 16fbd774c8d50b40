-- What holds at each turn of the loop.
use mathlib.Core.Path.{◌≡◌}
use Prim.Native.Nat.{◌-◌}
use Rattle.crumbmap.specs.Layouts.{layout1, backyards}
use Rattle.machine.specs.Checks.{early}
use Rattle.validation.proofs.check.first_early.Given as goal

abbrev pub invariant-loop-j : goal.invariant-loop-j
invariant-loop-j l = early layout1 l.size (backyards l.size) 0 l.image ≡ early layout1 l.size (backyards l.size - l.j) l.j l.image
