-- Upper-case hex digits, both ways.
use Rattle.std.specs.Prelude.{ℕ, zero, suc, ◌+◌, ◌*◌, ◌/◌, ◌%◌, ◌-◌, cond, ◌&&◌, List, [], ◌∷◌, ◌++◌, length, take, drop, leb, ltb}
use Rattle.std.proofs.Math.Option.{Option, none, some, bind}

-- the ASCII byte of a digit
unfoldable pub letter : ℕ → ℕ
letter d = cond (ltb d 10) (48 + d) (55 + d)

-- the digit of an ASCII byte, none where it is no "upper-case hex" digit
unfoldable pub digit_of : ℕ → Option ℕ
digit_of b = cond (leb 48 b && leb b 57) (some (b - 48)) (cond (leb 65 b && leb b 70) (some (b - 55)) none)

-- the n lowest digits of a number, the highest first
unfoldable pub hex : ℕ → ℕ → List ℕ
hex zero v = []
hex (suc n) v = hex n (v / 16) ++ (letter (v % 16) ∷ [])

-- the number v with digits written behind it, none where one of the bytes is no digit
unfoldable pub unhex : ℕ → List ℕ → Option ℕ
unhex v [] = some v
unhex v (b ∷ bs) = bind (digit_of b) (λ d. unhex (v * 16 + d) bs)

-- xs with ys written over it from `at`, the rest kept
unfoldable pub over : ℕ → List ℕ → List ℕ → List ℕ
over at ys xs = take at xs ++ (ys ++ drop (length ys) (drop at xs))
