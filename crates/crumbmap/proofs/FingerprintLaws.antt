-- Every number of a fingerprint is in range, and a fingerprint settles its front bucket and key.
-- Main results: `front_of-lt`, `key_of-lt`, `fingerprint-lt`, `fingerprint-unique`.
use mathlib.Core.Path.{◌≡◌, sym, ◌∙◌, ap}
use Prim.Native.Nat.{ℕ, ◌+◌, ◌*◌, ◌/◌, ◌%◌, ◌^◌, ◌<◌}
use native.Mathlib.Nat.{div-lt_iff_lt-mul, mul-lt-mul_of_pos_right, mul_comm, mod-lt, mul-add-div_right, mul-add-mod_self_right, div-eq_of_lt, mod-eq_of_lt, add-zero}
use native.Mathlib.Omega.{arith}
use lib.Arith.{digits_lt}
use lib.Pow.{pow_pos}
use Rattle.crumbmap.specs.Layouts.{Layout, tags, keys, fronts}
use Rattle.crumbmap.specs.Fingerprints.{front_of, tag_of, mini_of, key_of, fingerprint}

-- a part of n, taken in 2 ^ j steps and rounded down, is below n
scaled-lt : (j q n : ℕ) → q < 2 ^ j → 0 < n → q * n / 2 ^ j < n
scaled-lt j q n h p = (div-lt_iff_lt-mul (pow_pos j)).1 (rw (mul_comm n (2 ^ j)) (mul-lt-mul_of_pos_right h p))

pub front_of-lt : (B k : ℕ) → 0 < B → k < 2 ^ 64 → front_of B k < fronts B
unfolding front_of fronts
front_of-lt B k p h = scaled-lt 32 (k / 2 ^ 32) (8 * B) (omega arith) (omega arith)

pub mini_of-lt : (L : Layout) (k : ℕ) → 0 < L.minis → mini_of L k < L.minis
unfolding mini_of
mini_of-lt L k p = scaled-lt 16 (k / 65536 % 65536) L.minis (omega arith) p

pub tag_of-lt : (L : Layout) (k : ℕ) → tag_of L k < tags L
unfolding tag_of
tag_of-lt L k = mod-lt k (pow_pos (8 * L.tag_bytes))

pub key_of-lt : (L : Layout) (k : ℕ) → 0 < L.minis → key_of L k < keys L
unfolding key_of
key_of-lt L k p = digits_lt (mini_of-lt L k p) (tag_of-lt L k)

pub fingerprint-lt : (L : Layout) (n f x : ℕ) → f < n → x < keys L → fingerprint L f x < n * keys L
unfolding fingerprint
fingerprint-lt L n f x h k = digits_lt h k

-- the digits of a × k + r
pub parts-high : (k a r : ℕ) → r < k → (a * k + r) / k ≡ a
parts-high k a r h = mul-add-div_right {m = k} (omega arith) a r ∙ rw (div-eq_of_lt h) (add-zero a)

pub parts_low : (k a r : ℕ) → r < k → (a * k + r) % k ≡ r
parts_low k a r h = mul-add-mod_self_right a k r ∙ mod-eq_of_lt h

pub fingerprint-unique : (L : Layout) (e f x y : ℕ) → x < keys L → y < keys L → fingerprint L e x ≡ fingerprint L f y → (e ≡ f) × (x ≡ y)
unfolding fingerprint
fingerprint-unique L e f x y h k q = (
  sym (parts-high (keys L) e x h) ∙ ap (λ (n : ℕ). n / keys L) q ∙ parts-high (keys L) f y k,
  sym (parts_low (keys L) e x h) ∙ ap (λ (n : ℕ). n % keys L) q ∙ parts_low (keys L) f y k,
)
