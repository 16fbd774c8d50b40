-- Two bags together, through `copies`, and that order and range are kept; which bag a value is taken from.
-- Main results: `copies-added_all`, `length-added_all`, `ascending-added_all`, `below-added_all`, `added_all-nil`, `from_first-has`.
use mathlib.Core.Path.{◌≡◌, refl}
use Prim.Native.Nat.{ℕ, ◌+◌, ◌<◌}
use mathlib.Core.Bool.{Bool, true, false, cond, not, ◌&&◌, ◌||◌}
use mathlib.Core.List.{List, [], ◌∷◌}
use native.Mathlib.Omega.{arith}
use lib.ListN.{length}
use lib.Dec.{T, ltb}
use borrow.Author.Tests.{ltb-true, ltb-false, lt-ltb, le-ltb}
use Rattle.multiset.specs.Multisets.{copies, ascending, Below}
use Rattle.multiset.proofs.MultisetLaws.{copies-cons, copies-added, length-added, below-added}
use Rattle.multiset.proofs.OrderLaws.{ascending-added, ascending-unique}
use Rattle.machine.specs.Bags.{added_all, has, from_first}

pub copies-added_all : (z : ℕ) (xs ys : List ℕ) → copies z (added_all xs ys) ≡ copies z xs + copies z ys
unfolding copies added_all
copies-added_all z [] ys = omega arith
copies-added_all z (x ∷ xs) ys = omega (arith, copies-added_all z xs ys, copies-added z x (added_all xs ys), copies-cons z x xs)

pub length-added_all : (xs ys : List ℕ) → length (added_all xs ys) ≡ length xs + length ys
unfolding added_all
length-added_all [] ys = omega arith
length-added_all (x ∷ xs) ys = omega (arith, length-added_all xs ys, length-added x (added_all xs ys))

pub ascending-added_all : (xs ys : List ℕ) → T (ascending ys) → T (ascending (added_all xs ys))
unfolding added_all
ascending-added_all [] ys a = a
ascending-added_all (x ∷ xs) ys a = ascending-added x (added_all xs ys) (ascending-added_all xs ys a)

pub below-added_all : (k : ℕ) (xs ys : List ℕ) → Below k xs → Below k ys → Below k (added_all xs ys)
unfolding added_all
below-added_all k [] ys a b = b
below-added_all k (x ∷ xs) ys a b = below-added k x (added_all xs ys) a.0 (below-added_all k xs ys a.1 b)

-- nothing added to an ascending list
pub added_all-nil : (xs : List ℕ) → T (ascending xs) → added_all xs [] ≡ xs
unfolding ascending copies
added_all-nil xs a = ascending-unique (added_all xs []) xs (ascending-added_all xs [] tt) a (λ z. omega (arith, copies-added_all z xs []))

pub has-yes : (x : ℕ) (xs : List ℕ) → 0 < copies x xs → has x xs ≡ true
unfolding has
has-yes x xs c = lt-ltb 0 (copies x xs) c

pub has_no : (x : ℕ) (xs : List ℕ) → copies x xs ≡ 0 → has x xs ≡ false
unfolding has
has_no x xs n = le-ltb 0 (copies x xs) (omega arith)

-- the bag that a value is taken from has it, where either has
pub from_first-has : (v : ℕ) (first second : List ℕ) (n0 n1 : ℕ) → 0 < copies v first + copies v second
    → 0 < copies v (cond (from_first v first second n0 n1) first second)
unfolding from_first has
from_first-has v first second n0 n1 h = go (ltb 0 (copies v first)) (ltb 0 (copies v second)) (ltb n1 n0) refl refl
  where
    go : (a b c : Bool) → ltb 0 (copies v first) ≡ a → ltb 0 (copies v second) ≡ b → 0 < copies v (cond (a && (not b || c)) first second)
    go true true true p q = ltb-true 0 (copies v first) p
    go true true false p q = ltb-true 0 (copies v second) q
    go true false c p q = ltb-true 0 (copies v first) p
    go false b c p q = omega (arith, ltb-false 0 (copies v first) p)
