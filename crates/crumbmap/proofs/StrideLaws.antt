-- A number t + e × K with t below K: its whole strides are e, and its rest is t. The b0 of a front bucket has fewer than eight.
-- Main results: `second-quotient`, `second-remainder`, `few-strides`.
use mathlib.Core.Path.{◌≡◌, ◌∙◌, ap}
use Prim.Native.Nat.{ℕ, ◌+◌, ◌*◌, ◌/◌, ◌%◌, ◌<◌}
use native.Mathlib.Nat.{add-mul-div_right, add-mul-mod_self_right, div-eq_of_lt, mod-eq_of_lt, div-lt_iff_lt-mul}
use native.Mathlib.Omega.{arith}
use Rattle.crumbmap.specs.CrumbMap.{stride}

pub second-quotient : (K t e : ℕ) → t < K → (t + e * K) / K ≡ e
second-quotient K t e h = add-mul-div_right t e {z = K} (omega arith) ∙ ap (λ (n : ℕ). n + e) (div-eq_of_lt h) ∙ omega arith

pub second-remainder : (K t e : ℕ) → t < K → (t + e * K) % K ≡ t
second-remainder K t e h = add-mul-mod_self_right t e K ∙ mod-eq_of_lt h

pub few-strides : (B j : ℕ) → j < B → j / stride B < 8
unfolding stride
few-strides B j h = (div-lt_iff_lt-mul {k = stride B} (omega arith)).1 (omega arith)
