-- What is left decides.
use mathlib.Core.Path.{◌≡◌}
use Prim.Native.Nat.{◌*◌}
use lib.ListN.{drop}
use Rattle.multiset.specs.Multisets.{all_zero}
use Rattle.tails.proofs.tail.rest_zero.Given as goal

abbrev pub invariant-loop-i : goal.invariant-loop-i
invariant-loop-i l = all_zero (drop 24 l.b) ≡ all_zero (drop (8 * l.i) l.b)
