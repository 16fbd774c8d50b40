-- Multisets of numbers (document 01: bags) as ascending lists, "equal ones allowed".
use Rattle.std.specs.Prelude.{ℕ, zero, suc, ◌+◌, ◌<◌, Bool, true, cond, ◌&&◌, List, [], ◌∷◌, leb, ltb, eqb}
use Rattle.std.proofs.Math.Option.{Option, none, some, map}

-- "each copy is a member of its own": the multiset with x added
unfoldable pub added : ℕ → List ℕ → List ℕ
added x [] = x ∷ []
added x (y ∷ ys) = cond (leb x y) (x ∷ y ∷ ys) (y ∷ added x ys)

-- "one copy goes": the multiset with one x less
unfoldable pub removed : ℕ → List ℕ → List ℕ
removed x [] = []
removed x (y ∷ ys) = cond (eqb x y) ys (y ∷ removed x ys)

-- "copies": how often x stands in the multiset
unfoldable pub copies : ℕ → List ℕ → ℕ
copies x [] = 0
copies x (y ∷ ys) = cond (eqb x y) (suc (copies x ys)) (copies x ys)

-- how many members are smaller than x
unfoldable pub below : ℕ → List ℕ → ℕ
below x [] = 0
below x (y ∷ ys) = cond (ltb y x) (suc (below x ys)) (below x ys)

-- "the lowest slot" of x; "slots count from 0"
unfoldable pub slot_of : ℕ → List ℕ → Option ℕ
slot_of x [] = none
slot_of x (y ∷ ys) = cond (eqb x y) (some 0) (map (λ (i : ℕ). suc i) (slot_of x ys))

-- "the lowest slot and the number of equal copies there": where x stands in the multiset
pub record Found : Type 0 where
  pub slot : ℕ
  pub copies : ℕ

unfoldable pub found_in : ℕ → List ℕ → Option Found
found_in x xs = map (λ (i : ℕ). record { slot = i; copies = copies x xs }) (slot_of x xs)

-- "the largest": the last of an ascending list; 0 where there is none
unfoldable pub largest : List ℕ → ℕ
largest [] = 0
largest (x ∷ []) = x
largest (x ∷ y ∷ ys) = largest (y ∷ ys)

-- x is at most the first of the list
unfoldable pub at_least : ℕ → List ℕ → Bool
at_least x [] = true
at_least x (y ∷ ys) = leb x y

-- "members ascend (equal ones allowed)": each is at most the next
unfoldable pub ascending : List ℕ → Bool
ascending [] = true
ascending (x ∷ xs) = at_least x xs && ascending xs

-- every member is below k
abbrev pub Below : ℕ → List ℕ → Type 0
Below k [] = Unit {0}
Below k (x ∷ xs) = (x < k) × Below k xs

-- "unused bytes and halves are 0"
unfoldable pub all_zero : List ℕ → Bool
all_zero [] = true
all_zero (x ∷ xs) = eqb x 0 && all_zero xs

-- "the sum of N(h)": N from + N (from + 1) + .., n of them
abbrev pub sum : (ℕ → ℕ) → ℕ → ℕ → ℕ
sum N from zero = 0
sum N from (suc n) = N from + sum N (suc from) n
