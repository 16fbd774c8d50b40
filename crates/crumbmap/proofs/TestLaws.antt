-- Two tests of which both hold: `true-both`, `both_true`, and either alone, `left-true`, `right-true`. What a `match` leaves for its last line:
-- `none_below`.
use mathlib.Core.Path.{◌≡◌, refl}
use Prim.Native.Nat.{ℕ, zero, suc, ◌≤◌, zero-le}
use mathlib.Core.Bool.{Bool, true, false, ◌&&◌}
use native.Mathlib.Omega.{arith}

pub true-both : (a b : Bool) → a ≡ true → b ≡ true → (a && b) ≡ true
true-both true b p q = q
true-both false b p q = p

pub both_true : (a b : Bool) → (a && b) ≡ true → (a ≡ true) × (b ≡ true)
both_true true b e = (refl, e)
both_true false b e = let z : ◌≡◌ {A = ℕ} 0 1 = cc in absurd (omega arith)

pub left-true : (a b : Bool) → (a && b) ≡ true → a ≡ true
left-true a b e = (both_true a b e).0

pub right-true : (a b : Bool) → (a && b) ≡ true → b ≡ true
right-true a b e = (both_true a b e).1

-- x is none of the first n numbers
abbrev pub None : ℕ → ℕ → Type 0
None x zero = Unit
None x (suc n) = None x n × (x ≡ n → ⊥)

pub none_below : (n x : ℕ) → None x n → n ≤ x
none_below zero x h = zero-le
none_below (suc n) x h = omega (arith, none_below n x h.0, h.1)
