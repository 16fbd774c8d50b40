-- `second_digits` counts the valid digits of choice 1: none where e is too large, else the lowest B − 8t of eight.
use mathlib.Core.Path.{◌≡◌, refl}
use Prim.Native.Nat.{ℕ, ◌+◌, ◌*◌, ◌-◌, ◌<◌, zero-le}
use native.Mathlib.Nat.{le_refl}
use native.Mathlib.Omega.{arith}
use mathlib.Core.Bool.{Bool, true, false}
use lib.Dec.{ltb}
use borrow.Author.Tests.{lt-ltb, le-ltb, ltb-true, ltb-false}
use Rattle.crumbmap.proofs.valid.second_digits.Goals as goal

pub returns-then-strides-ge8 : goal.returns-then-strides-ge8
returns-then-strides-ge8 c = (zero-le, λ d l. rw (le-ltb _ 8 c.if-strides-ge8.true, le-ltb d 0 zero-le))

pub returns-then-left-ge8 : goal.returns-then-left-ge8
returns-then-left-ge8 c = (
  le_refl 8,
  λ d l.
      let a = c.args in
      let inside : 8 * a.strides.rest + d < a.size = omega arith in
      rw (lt-ltb _ 8 c.if-strides-ge8.false, lt-ltb _ _ inside, lt-ltb d 8 l),
)

-- a digit is among the lowest B − 8t exactly where it is valid
same_test : (B t d : ℕ) → ltb (8 * t + d) B ≡ ltb d (B - 8 * t)
same_test B t d = go (ltb d (B - 8 * t)) refl
  where
    go : (p : Bool) → ltb d (B - 8 * t) ≡ p → ltb (8 * t + d) B ≡ p
    go true e = lt-ltb (8 * t + d) B (omega (arith, ltb-true d (B - 8 * t) e))
    go false e = le-ltb (8 * t + d) B (omega (arith, ltb-false d (B - 8 * t) e))

pub returns-else-left-ge8 : goal.returns-else-left-ge8
returns-else-left-ge8 c = (
  omega arith,
  λ d l.
      let a = c.args in
      rw (lt-ltb _ 8 c.if-strides-ge8.false) (same_test a.size a.strides.rest d),
)
