-- A change of a multiset as a change at a slot: what stands in front of slot p stays, what stands behind it moves one on or back.
-- Main results: `added-at`, `removed-at`; which slots hold smaller members: `slot-below`, `slot-above`, and what a member less changes in
-- that: `below-without`, `below-past`; the first slots: `ascending-take`, `first-le`, `largest-first`; the last: `largest-at`.
use mathlib.Core.Path.{◌≡◌, refl, ap, ◌∙◌}
use Prim.Native.Nat.{ℕ, zero, suc, ◌-◌, ◌≤◌, ◌<◌}
use mathlib.Core.List.{List, [], ◌∷◌, ◌++◌}
use native.Mathlib.Decide.{dec_le, ℕ_discrete}
use native.Mathlib.Omega.{arith}
use lib.ListN.{length, take, drop, get_or}
use lib.Seq.{take-nil, drop-nil}
use lib.Dec.{T}
use Rattle.multiset.specs.Multisets.{added, removed, below, copies, largest, ascending}
use Rattle.multiset.proofs.MultisetLaws.{hit_same, hit_other, hit-equal, added-front, added-behind, removed-here, removed-later, copies-cons}
use Rattle.multiset.proofs.OrderLaws.{ascending-tail, ascending-le, ascending-cons, head-least}
use Rattle.multiset.proofs.RankLaws.{below-smaller, below_other, below_none, below_suc, below-lt-length}

added-head : (x y : ℕ) (ys : List ℕ) → T (ascending (y ∷ ys)) → x ≤ y → added x ys ≡ x ∷ ys
unfolding added
added-head x y [] a h = refl
added-head x y (z ∷ zs) a h = added-front x z zs (omega (arith, ascending-le y z zs a))

-- where some member is at most x, so is the head
head-le : (x y : ℕ) (ys : List ℕ) → T (ascending (y ∷ ys)) → 0 < below (suc x) (y ∷ ys) → y ≤ x
head-le x y ys a h = elim (dec_le y x) [ yes l ↦ l | no n ↦ absurd (omega (arith, below_none (suc x) y ys a (omega arith))) ]

-- a list with x in it and nothing smaller begins with x
removed-head : (x : ℕ) (ys : List ℕ) → T (ascending ys) → below x ys ≡ 0 → 0 < below (suc x) ys → ys ≡ x ∷ removed x ys
unfolding below
removed-head x [] a l h = absurd (omega arith)
removed-head x (y ∷ ys) a l h = elim (dec_le x y) [
  | yes g ↦
      let e : x ≡ y = omega (arith, head-le x y ys a h) in
      rw (removed-here x y ys e, e)
  | no n ↦ absurd (omega (arith, below-smaller x y ys (omega arith)))
]

pub added-at : (x p : ℕ) (ys : List ℕ) → T (ascending ys) → below x ys ≤ p → p ≤ below (suc x) ys → added x ys ≡ take p ys ++ (x ∷ drop p ys)
unfolding added
added-at x p [] a l h = rw (take-nil p, drop-nil p)
added-at x zero (y ∷ ys) a l h = elim (dec_le x y) [
  | yes g ↦ added-front x y ys g
  | no n ↦ absurd (omega (arith, below-smaller x y ys (omega arith)))
]
added-at x (suc p) (y ∷ ys) a l h = elim (dec_le x y) [
  | yes g ↦
      let e : x ≡ y = omega (arith, head-le x y ys a (omega arith)) in
      cc (
        added-front x y ys g,
        added-head x y ys a g,
        added-at x p ys (ascending-tail y ys a)
            (omega (arith, below_none x y ys a g, below_other x y ys g)) (omega (arith, below-smaller (suc x) y ys (omega arith))),
      )
  | no n ↦ cc (
    added-behind x y ys (omega arith),
    added-at x p ys (ascending-tail y ys a) (omega (arith, below-smaller x y ys (omega arith)))
        (omega (arith, below-smaller (suc x) y ys (omega arith))),
  )
]

pub removed-at : (x p : ℕ) (ys : List ℕ) → T (ascending ys) → below x ys ≤ p → p < below (suc x) ys → removed x ys ≡ take p ys ++ drop (suc p) ys
unfolding below
removed-at x p [] a l h = absurd (omega arith)
removed-at x zero (y ∷ ys) a l h = cc (removed-head x (y ∷ ys) a (omega arith) h)
removed-at x (suc p) (y ∷ ys) a l h = elim (dec_le x y) [
  | yes g ↦
      let none : below x ys ≡ 0 = omega (arith, below_none x y ys a g, below_other x y ys g) in
      let some : p < below (suc x) ys = omega (arith, below-smaller (suc x) y ys (omega (arith, head-le x y ys a (omega arith)))) in
      cc (
        removed-head x (y ∷ ys) a (below_none x y ys a g) (omega arith),
        removed-head x ys (ascending-tail y ys a) none (omega arith),
        removed-at x p ys (ascending-tail y ys a) (omega arith) some,
      )
  | no n ↦ cc (
    removed-later x y ys (omega arith),
    removed-at x p ys (ascending-tail y ys a) (omega (arith, below-smaller x y ys (omega arith)))
        (omega (arith, below-smaller (suc x) y ys (omega arith))),
  )
]

-- the slots of x are those from below x up to below (suc x)
pub slot-below : (x i : ℕ) (ys : List ℕ) → T (ascending ys) → i < below x ys → get_or ys i 0 < x
unfolding below
slot-below x i [] a h = absurd (omega arith)
slot-below x zero (y ∷ ys) a h = elim (dec_le x y) [ yes l ↦ absurd (omega (arith, below_none x y ys a l)) | no n ↦ omega arith ]
slot-below x (suc i) (y ∷ ys) a h = elim (dec_le x y) [
  | yes l ↦ absurd (omega (arith, below_none x y ys a l))
  | no n ↦ slot-below x i ys (ascending-tail y ys a) (omega (arith, below-smaller x y ys (omega arith)))
]

pub slot-above : (x i : ℕ) (ys : List ℕ) → T (ascending ys) → below x ys ≤ i → i < length ys → x ≤ get_or ys i 0
slot-above x i [] a l h = absurd (omega arith)
slot-above x zero (y ∷ ys) a l h = elim (dec_le x y) [ yes g ↦ g | no n ↦ absurd (omega (arith, below-smaller x y ys (omega arith))) ]
slot-above x (suc i) (y ∷ ys) a l h = elim (dec_le x y) [
  | yes g ↦ slot-above x i ys (ascending-tail y ys a) (omega (arith, below_none x y ys a g, below_other x y ys g)) (omega arith)
  | no n ↦ slot-above x i ys (ascending-tail y ys a) (omega (arith, below-smaller x y ys (omega arith))) (omega arith)
]

-- the slot behind the members below x holds x, where x is there
module _ (x : ℕ) (ys : List ℕ) (a : T (ascending ys)) (there : 0 < copies x ys) where
  pub slot-inside : below x ys < length ys
  slot-inside = below-lt-length x x ys there (omega arith)

  pub slot-holds : get_or ys (below x ys) 0 ≡ x
  slot-holds = omega (
    arith,
    slot-above x (below x ys) ys a (omega arith) slot-inside,
    slot-below (suc x) (below x ys) ys a (omega (arith, below_suc x ys)),
  )

-- a slot that holds x is among the slots of x
module _ (x p : ℕ) (ys : List ℕ) (a : T (ascending ys)) (h : p < length ys) (there : get_or ys p 0 ≡ x) where
  pub holds-from : below x ys ≤ p
  holds-from = elim (dec_le (below x ys) p) [ yes l ↦ l | no n ↦ absurd (omega (arith, slot-below x p ys a (omega arith))) ]

  pub holds-past : p < below (suc x) ys
  holds-past = elim (dec_le (below (suc x) ys) p) [ yes l ↦ absurd (omega (arith, slot-above (suc x) p ys a l h)) | no n ↦ omega arith ]

  pub holds-copy : 0 < copies x ys
  holds-copy = omega (arith, holds-from, holds-past, below_suc x ys)

-- one y less: as many are below x, and one less where y was below x
pub below-without : (x y : ℕ) (ys : List ℕ) → x ≤ y → below x (removed y ys) ≡ below x ys
unfolding removed
below-without x y [] l = refl
below-without x y (z ∷ zs) l = elim (ℕ_discrete y z) [
  | yes e ↦ rw (removed-here y z zs e, below_other x z zs (omega arith))
  | no n ↦ elim (dec_le x z) [
    | yes g ↦ rw (removed-later y z zs n, below_other x z (removed y zs) g, below_other x z zs g) (below-without x y zs l)
    | no g ↦ rw (removed-later y z zs n, below-smaller x z (removed y zs) (omega arith), below-smaller x z zs (omega arith), below-without x y zs l)
  ]
]

pub below-past : (x y : ℕ) (ys : List ℕ) → y < x → 0 < copies y ys → suc (below x (removed y ys)) ≡ below x ys
unfolding copies
below-past x y [] l c = absurd (omega arith)
below-past x y (z ∷ zs) l c = elim (ℕ_discrete y z) [
  | yes e ↦ rw (removed-here y z zs e, below-smaller x z zs (omega arith))
  | no n ↦
      let d : 0 < copies y zs = omega (arith, copies-cons y z zs, hit_other y z n) in
      elim (dec_le x z) [
        | yes g ↦ rw (removed-later y z zs n, below_other x z (removed y zs) g, below_other x z zs g) (below-past x y zs l d)
        | no g ↦ omega (
          arith,
          ap (below x) (removed-later y z zs n),
          below-smaller x z (removed y zs) (omega arith),
          below-smaller x z zs (omega arith),
          below-past x y zs l d,
        )
      ]
]

-- ---- the first members of an ascending list

pub copies-take : (z k : ℕ) (xs : List ℕ) → 0 < copies z (take k xs) → 0 < copies z xs
unfolding copies
copies-take z zero xs c = absurd (omega arith)
copies-take z (suc k) [] c = c
copies-take z (suc k) (x ∷ xs) c = elim (ℕ_discrete z x) [
  | yes e ↦ omega (arith, copies-cons z x xs, hit-equal z x e)
  | no n ↦ omega (arith, copies-cons z x xs, copies-take z k xs (omega (arith, copies-cons z x (take k xs), hit_other z x n)))
]

pub ascending-take : (k : ℕ) (xs : List ℕ) → T (ascending xs) → T (ascending (take k xs))
unfolding ascending
ascending-take zero xs a = tt
ascending-take (suc k) [] a = tt
ascending-take (suc k) (x ∷ xs) a =
    ascending-cons x (take k xs) (λ z c. head-least z x xs a (omega (arith, copies-cons z x xs, copies-take z k xs c)))
    (ascending-take k xs (ascending-tail x xs a))

pub ascending-drop : (k : ℕ) (xs : List ℕ) → T (ascending xs) → T (ascending (drop k xs))
ascending-drop zero xs a = a
ascending-drop (suc k) [] a = a
ascending-drop (suc k) (x ∷ xs) a = ascending-drop k xs (ascending-tail x xs a)

pub copies_at : (i : ℕ) (xs : List ℕ) → i < length xs → 0 < copies (get_or xs i 0) xs
copies_at i [] l = absurd (omega arith)
copies_at zero (x ∷ xs) l = omega (arith, copies-cons x x xs, hit_same x)
copies_at (suc i) (x ∷ xs) l = omega (arith, copies-cons (get_or xs i 0) x xs, copies_at i xs (omega arith))

pub ascending-at : (i j : ℕ) (xs : List ℕ) → T (ascending xs) → i ≤ j → j < length xs → get_or xs i 0 ≤ get_or xs j 0
ascending-at i j [] a l h = absurd (omega arith)
ascending-at zero j (x ∷ xs) a l h = head-least (get_or (x ∷ xs) j 0) x xs a (copies_at j (x ∷ xs) h)
ascending-at (suc i) zero (x ∷ xs) a l h = absurd (omega arith)
ascending-at (suc i) (suc j) (x ∷ xs) a l h = ascending-at i j xs (ascending-tail x xs a) (omega arith) (omega arith)

-- the first k are at most the member behind them
pub first-le : (z k i : ℕ) (xs : List ℕ) → T (ascending xs) → k ≤ i → i < length xs → 0 < copies z (take k xs) → z ≤ get_or xs i 0
unfolding copies
first-le z k i [] a l h c = absurd (omega arith)
first-le z zero i (x ∷ xs) a l h c = absurd (omega arith)
first-le z (suc k) zero (x ∷ xs) a l h c = absurd (omega arith)
first-le z (suc k) (suc i) (x ∷ xs) a l h c = elim (ℕ_discrete z x) [
  | yes e ↦ omega (arith, ascending-at 0 (suc i) (x ∷ xs) a (omega arith) h)
  | no n ↦ first-le z k i xs (ascending-tail x xs a) (omega arith) (omega arith) (omega (arith, copies-cons z x (take k xs), hit_other z x n))
]

-- ---- the largest stands last

pub largest-at : (xs : List ℕ) (i : ℕ) → length xs ≡ suc i → largest xs ≡ get_or xs i 0
unfolding largest
largest-at [] i e = absurd (omega arith)
largest-at (x ∷ []) zero e = refl
largest-at (x ∷ []) (suc i) e = absurd (omega arith)
largest-at (x ∷ y ∷ ys) zero e = absurd (omega arith)
largest-at (x ∷ y ∷ ys) (suc i) e = largest-at (y ∷ ys) i (omega arith)

-- the largest of the first is the last of them
largest-take : (k : ℕ) (xs : List ℕ) → k < length xs → largest (take (suc k) xs) ≡ get_or xs k 0
unfolding largest
largest-take k [] h = absurd (omega arith)
largest-take zero (x ∷ xs) h = refl
largest-take (suc k) (x ∷ []) h = absurd (omega arith)
largest-take (suc k) (x ∷ y ∷ ys) h = largest-take k (y ∷ ys) (omega arith)

pub largest-first : (k : ℕ) (xs : List ℕ) → 0 < k → k ≤ length xs → largest (take k xs) ≡ get_or xs (k - 1) 0
largest-first k xs p h =
    let e : k ≡ suc (k - 1) = omega arith in
    ap (λ (n : ℕ). largest (take n xs)) e ∙ largest-take (k - 1) xs (omega arith)
