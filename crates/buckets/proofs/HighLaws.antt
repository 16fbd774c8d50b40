-- Numbers of a list by their high and low parts: a member is a mini-bucket and what is below it, a backyard key has a crumb below it.
-- Main results: `get_d-highs`, `padded-low`, `highs-from`, `highs-past`, `parts-lt`, `parts-le`, and of two parts below `low_parts`, `key-parts`.
use mathlib.Core.Path.{◌≡◌, refl, sym, ap, ap₂, ◌∙◌}
use Prim.Native.Nat.{ℕ, zero, suc, ◌+◌, ◌*◌, ◌/◌, ◌%◌, ◌≤◌, ◌<◌, ◌-◌}
use mathlib.Core.List.{List, [], ◌∷◌, ◌++◌}
use native.Mathlib.Nat.{zero-div, mul_comm, mul_assoc, mul-le-mul_right, div-add-mod', div-mul-le_self, le-div_iff_mul-le, div-div-eq-div-mul, zero-mod}
use native.Mathlib.Decide.{dec_le}
use native.Mathlib.Omega.{arith}
use lib.ListN.{length, get_or, replicate}
use Rattle.multiset.specs.Multisets.{below}
use Rattle.multiset.specs.Digits.{padded, highs, lows}
use Rattle.multiset.proofs.RankLaws.{below-smaller, below_other}

-- ---- one number

pub parts-lt : (k y m r : ℕ) → y / k < suc m → y % k < r → y < m * k + r
parts-lt k y m r h l = omega (arith, mul-le-mul_right {m = y / k} {n = m} k (omega arith), div-add-mod' y k)

pub parts-le : (k y m r : ℕ) → m ≤ y / k → r ≤ y % k → m * k + r ≤ y
parts-le k y m r h l = omega (arith, mul-le-mul_right {m = m} {n = y / k} k h, div-add-mod' y k)

-- a crumb below a tag below a mini-bucket
pub high_parts : (t y : ℕ) → y / 16 / t ≡ y / (t * 16)
high_parts t y = rw (mul_comm t 16) (div-div-eq-div-mul y 16 t)

pub low_parts : (t y : ℕ) → y / 16 % t * 16 + y % 16 ≡ y % (t * 16)
low_parts t y =
    let n : ℕ = y / (t * 16) in
    omega (
      arith,
      div-add-mod' (y / 16) t,
      div-add-mod' y (t * 16),
      mul_assoc n t 16,
      ap (λ (x : ℕ). x * t) (high_parts t y),
    )

pub crumb-parts : (t y r c : ℕ) → r * 16 + c ≡ y % (t * 16) → c < 16 → c ≡ y % 16
crumb-parts t y r c e h = omega (arith, low_parts t y)

pub key-parts : (t y r c : ℕ) → r * 16 + c ≡ y % (t * 16) → c < 16 → y / (t * 16) * t + r ≡ y / 16
key-parts t y r c e h = omega (arith, low_parts t y, div-add-mod' (y / 16) t, ap (λ (x : ℕ). x * t) (high_parts t y))

-- ---- lists

pub get_d-highs : (k i : ℕ) (ys : List ℕ) → get_or (highs k ys) i 0 ≡ get_or ys i 0 / k
get_d-highs k i [] = sym (zero-div k)
get_d-highs k zero (y ∷ ys) = refl
get_d-highs k (suc i) (y ∷ ys) = get_d-highs k i ys

pub highs-highs : (j k : ℕ) (ys : List ℕ) → highs k (highs j ys) ≡ highs (j * k) ys
highs-highs j k [] = refl
highs-highs j k (y ∷ ys) = ap₂ ◌∷◌ (div-div-eq-div-mul y j k) (highs-highs j k ys)

zeros-at : (m i : ℕ) → get_or (replicate {A = ℕ} m 0) i 0 ≡ 0
zeros-at zero i = refl
zeros-at (suc m) zero = refl
zeros-at (suc m) (suc i) = zeros-at m i

low-at : (k m i : ℕ) (xs : List ℕ) → get_or (lows k xs ++ replicate {A = ℕ} m 0) i 0 ≡ get_or xs i 0 % k
low-at k m i [] = zeros-at m i ∙ sym (zero-mod k)
low-at k m zero (x ∷ xs) = refl
low-at k m (suc i) (x ∷ xs) = low-at k m i xs

pub padded-low : (k n i : ℕ) (ys : List ℕ) → get_or (padded n (lows k ys)) i 0 ≡ get_or ys i 0 % k
unfolding padded
padded-low k n i ys = low-at k (n - length (lows k ys)) i ys

below-nil : (x : ℕ) → below x [] ≡ 0
unfolding below
below-nil x = refl

below-cons-le : (x y : ℕ) (ys : List ℕ) → below x ys ≤ below x (y ∷ ys)
below-cons-le x y ys = elim (dec_le x y) [ yes e ↦ omega (arith, below_other x y ys e) | no n ↦ omega (arith, below-smaller x y ys (omega arith)) ]

below-cons-suc : (x y : ℕ) (ys : List ℕ) → below x (y ∷ ys) ≤ suc (below x ys)
below-cons-suc x y ys = elim (dec_le x y) [ yes e ↦ omega (arith, below_other x y ys e) | no n ↦ omega (arith, below-smaller x y ys (omega arith)) ]

div_mono : (k x y : ℕ) → 0 < k → x ≤ y → x / k ≤ y / k
div_mono k x y p h = (le-div_iff_mul-le p).1 (omega (arith, div-mul-le_self x k))

-- members smaller than y, and than the next one, by their high parts
pub highs-from : (k y : ℕ) (ys : List ℕ) → 0 < k → below (y / k) (highs k ys) ≤ below y ys
highs-from k y [] p = omega (arith, below-nil (y / k))
highs-from k y (x ∷ ys) p = elim (dec_le y x) [
  | yes e ↦ omega (arith, below_other (y / k) (x / k) (highs k ys) (div_mono k y x p e), below_other y x ys e, highs-from k y ys p)
  | no n ↦ omega (arith, below-smaller y x ys (omega arith), below-cons-suc (y / k) (x / k) (highs k ys), highs-from k y ys p)
]

pub highs-past : (k y : ℕ) (ys : List ℕ) → 0 < k → below (suc y) ys ≤ below (suc (y / k)) (highs k ys)
highs-past k y [] p = omega (arith, below-nil (suc y))
highs-past k y (x ∷ ys) p = elim (dec_le x y) [
  | yes e ↦
      let s : x / k < suc (y / k) = omega (arith, div_mono k x y p e) in
      omega (arith, below-smaller (suc (y / k)) (x / k) (highs k ys) s, below-cons-suc (suc y) x ys, highs-past k y ys p)
  | no n ↦ omega (arith, below_other (suc y) x ys (omega arith), below-cons-le (suc (y / k)) (x / k) (highs k ys), highs-past k y ys p)
]
