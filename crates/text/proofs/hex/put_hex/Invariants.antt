-- All digits are those still to write and those that stand.
use mathlib.Core.Path.{◌≡◌}
use lib.ListN.{length, drop}
use mathlib.Core.List.{◌++◌}
use Rattle.text.specs.Texts.{hex}
use Rattle.text.proofs.hex.put_hex.Given as goal

abbrev pub invariant-loop-i : goal.invariant-loop-i
invariant-loop-i l = hex (length l.initial.out) l.number ≡ hex l.i l.v ++ drop l.i l.out
