-- Numbers as digits, lists of numbers as digits, and lists of pairs as lists of numbers: bytes of words, tags and crumbs.
use Rattle.std.specs.Prelude.{ℕ, zero, suc, ◌+◌, ◌*◌, ◌/◌, ◌%◌, ◌-◌, List, [], ◌∷◌, ◌++◌, map, length, take, drop, replicate}

-- "little-endian": the n lowest digits of a number, the lowest first
unfoldable pub digits : ℕ → ℕ → ℕ → List ℕ
digits base zero v = []
digits base (suc n) v = v % base ∷ digits base n (v / base)

-- the number that digits stand for
unfoldable pub value : ℕ → List ℕ → ℕ
value base [] = 0
value base (d ∷ ds) = d + base * value base ds

-- "two bytes each": each number as `size` digits
unfoldable pub spread : ℕ → ℕ → List ℕ → List ℕ
spread base size [] = []
spread base size (v ∷ vs) = digits base size v ++ spread base size vs

-- the first n numbers of `size` digits each
unfoldable pub grouped : ℕ → ℕ → ℕ → List ℕ → List ℕ
grouped base size zero ds = []
grouped base size (suc n) ds = value base (take size ds) ∷ grouped base size n (drop size ds)

-- "the rest is 0": zeros up to n places
unfoldable pub padded : ℕ → List ℕ → List ℕ
padded n l = l ++ replicate (n - length l) 0

-- the numbers m × k + r of two lists, as far as both go
unfoldable pub joined : ℕ → List ℕ → List ℕ → List ℕ
joined k [] rs = []
joined k (m ∷ ms) [] = []
joined k (m ∷ ms) (r ∷ rs) = (m * k + r) ∷ joined k ms rs

-- the m and the r of numbers m × k + r
abbrev pub highs : ℕ → List ℕ → List ℕ
highs k xs = map (λ (x : ℕ). x / k) xs

abbrev pub lows : ℕ → List ℕ → List ℕ
lows k xs = map (λ (x : ℕ). x % k) xs
