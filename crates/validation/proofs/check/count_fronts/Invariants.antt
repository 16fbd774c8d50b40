-- What holds at each turn of the loop.
use mathlib.Core.Path.{◌≡◌}
use Prim.Native.Nat.{ℕ, ◌*◌, ◌-◌, ◌≤◌}
use Rattle.crumbmap.specs.Layouts.{layout1, fronts}
use Rattle.machine.specs.Images.{front_at}
use Rattle.machine.specs.Checks.{unsound_front}
use Rattle.validation.specs.Steps.Passes.{Counts}
use Rattle.validation.proofs.check.count_fronts.Given as goal

abbrev pub invariant-loop-f : goal.invariant-loop-f
invariant-loop-f l =
    (l.free ≤ l.f * layout1.front_slots) × (unsound_front layout1 (fronts l.size) 0 l.image ≡ unsound_front layout1 (fronts l.size - l.f) l.f l.image)
    × Counts (λ (e : ℕ). front_at layout1 e l.image) layout1.front_slots l.f (l.f * layout1.front_slots - l.free)
