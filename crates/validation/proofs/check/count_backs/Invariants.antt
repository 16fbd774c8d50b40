-- What holds at each turn of the loop.
use mathlib.Core.Path.{◌≡◌}
use Prim.Native.Nat.{ℕ, ◌-◌}
use Rattle.crumbmap.specs.Layouts.{layout1, backyards}
use Rattle.machine.specs.Images.{back_at}
use Rattle.machine.specs.Checks.{unsound_back}
use Rattle.validation.specs.Steps.Passes.{Counts}
use Rattle.validation.proofs.check.count_backs.Given as goal

abbrev pub invariant-loop-j : goal.invariant-loop-j
invariant-loop-j l =
    (unsound_back layout1 l.size (backyards l.size) 0 l.image ≡ unsound_back layout1 l.size (backyards l.size - l.j) l.j l.image)
    × Counts (λ (e : ℕ). back_at layout1 l.size e l.image) layout1.back_slots l.j l.members
