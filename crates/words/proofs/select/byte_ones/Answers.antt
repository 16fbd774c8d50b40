-- `words::select::byte_ones` meets its contract: three stages, each over all bytes at once.
use mathlib.Core.Path.{refl}
use Prim.Native.Nat.{ℕ, ◌+◌, ◌/◌}
use native.Mathlib.Omega.{arith}
use lib.Bits.{bit_and}
use Rattle.words.proofs.ByteLaws.{byte-ones-word}
use Rattle.words.proofs.select.byte_ones.Goals as goal

-- the sums of pairs and of fours
abbrev pairs : ℕ → ℕ
pairs w = bit_and w 6148914691236517205 + bit_and w 12297829382473034410 / 2

abbrev fours : ℕ → ℕ
fours w = bit_and (pairs w) 3689348814741910323 + bit_and (pairs w) 14757395258967641292 / 4

pub returns : goal.returns
returns c = let w = c.args.word in byte-ones-word w (pairs w) (fours w) (omega arith) refl refl
