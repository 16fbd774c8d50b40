-- The word as one u64 (layout 1): the sum of its 8 bytes, each times its power of 256. Main result: `word_sum`.
use mathlib.Core.Path.{◌≡◌, refl}
use Prim.Native.Nat.{ℕ, zero, suc, ◌+◌, ◌*◌}
use mathlib.Core.List.{List, [], ◌∷◌}
use native.Mathlib.Omega.{arith}
use lib.ListN.{take, drop, get_or}
use lib.Seq.{take-nil}
use Rattle.multiset.specs.Digits.{value}

value-from : (k n : ℕ) (l : List ℕ) → value 256 (take (suc n) (drop k l)) ≡ get_or l k 0 + 256 * value 256 (take n (drop (suc k) l))
unfolding value
value-from zero n [] = rw take-nil
value-from zero n (d ∷ l) = refl
value-from (suc k) n [] = rw take-nil
value-from (suc k) n (d ∷ l) = value-from k n l

-- "bytes 0 to 7: a little-endian word"
pub word_sum : (l : List ℕ) → value 256 (take 8 l)
    ≡ get_or l 0 0 + 256 * get_or l 1 0 + 65536 * get_or l 2 0 + 16777216 * get_or l 3 0 + 4294967296 * get_or l 4 0
    + 1099511627776 * get_or l 5 0 + 281474976710656 * get_or l 6 0 + 72057594037927936 * get_or l 7 0
unfolding value
word_sum l =
    omega (
      arith,
      value-from 0 7 l,
      value-from 1 6 l,
      value-from 2 5 l,
      value-from 3 4 l,
      value-from 4 3 l,
      value-from 5 2 l,
      value-from 6 1 l,
      value-from 7 0 l,
    )
