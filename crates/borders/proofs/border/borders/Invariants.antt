-- What holds at each turn of the loop.
use mathlib.Core.Path.{◌≡◌}
use Prim.Native.Nat.{◌-◌, ◌*◌, ◌/◌, ◌^◌}
use Rattle.borders.specs.Steps.Borders.{borders_in}
use Rattle.borders.proofs.border.borders.Given as goal

abbrev pub invariant-loop-turn : goal.invariant-loop-turn
invariant-loop-turn l = l.bits ≡ borders_in (7 * (9 - l.turn)) (l.w / 2 ^ (7 * l.turn))
