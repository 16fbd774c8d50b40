-- The number of all is that of the rest behind what is read.
use mathlib.Core.Path.{◌≡◌}
use Prim.Native.Nat.{◌<◌, ◌^◌}
use lib.ListN.{drop}
use Rattle.text.specs.Texts.{unhex}
use Rattle.text.proofs.hex.number_of.Given as goal

abbrev pub invariant-loop-byte : goal.invariant-loop-byte
invariant-loop-byte l = (l.v < 16 ^ l.byte-index) × (unhex 0 l.text ≡ unhex l.v (drop l.byte-index l.text))
