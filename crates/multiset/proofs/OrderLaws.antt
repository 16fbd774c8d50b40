-- Ascending lists: what keeps the order, the largest member, and that two ascending lists of the same copies are one list.
-- Main results: `ascending-added`, `ascending-removed`, `ascending-append`, `ascending-unique`; `largest-max`, `largest-added`, `largest-is`.
use mathlib.Core.Path.{◌≡◌, refl, ap, ap₂}
use Prim.Native.Nat.{ℕ, ◌≤◌, ◌<◌, max}
use mathlib.Core.List.{List, [], ◌∷◌, ◌++◌}
use native.Mathlib.Decide.{dec_le, ℕ_discrete}
use native.Mathlib.Omega.{arith}
use lib.ListN.{length}
use lib.Dec.{leb, T, leb→le, le→leb}
use mir.Facts.{and_yes, yes_and}
use Rattle.multiset.specs.Multisets.{added, removed, copies, largest, at_least, ascending}
use Rattle.multiset.proofs.MultisetLaws.{hit, hit_same, hit_other, equal-of-hit, added-front, added-behind, removed-here, removed-later, copies-cons, copies-one, copies-append, copies-added, copies-removed, copies-removed-le}

pub ascending-tail : (y : ℕ) (ys : List ℕ) → T (ascending (y ∷ ys)) → T (ascending ys)
unfolding ascending
ascending-tail y ys a = (and_yes (at_least y ys) (ascending ys) a).1

pub ascending-le : (y z : ℕ) (zs : List ℕ) → T (ascending (y ∷ z ∷ zs)) → y ≤ z
unfolding ascending at_least
ascending-le y z zs a = leb→le y z (and_yes (leb y z) (ascending (z ∷ zs)) a).0

-- the head of an ascending list is its smallest member
pub head-least : (x y : ℕ) (ys : List ℕ) → T (ascending (y ∷ ys)) → 0 < copies x (y ∷ ys) → y ≤ x
unfolding copies
head-least x y [] a h = elim (ℕ_discrete x y) [
  | yes e ↦ omega arith
  | no n ↦ absurd (omega (arith, copies-cons x y [], hit_other x y n))
]
head-least x y (z ∷ zs) a h = elim (ℕ_discrete x y) [
  | yes e ↦ omega arith
  | no n ↦ omega (
    arith,
    ascending-le y z zs a,
    head-least x z zs (ascending-tail y (z ∷ zs) a) (omega (arith, copies-cons x y (z ∷ zs), hit_other x y n)),
  )
]

-- a list ascends where its tail does and no member is smaller than its head
pub ascending-cons : (y : ℕ) (ys : List ℕ) → ((z : ℕ) → 0 < copies z ys → y ≤ z) → T (ascending ys) → T (ascending (y ∷ ys))
unfolding ascending at_least
ascending-cons y [] least a = tt
ascending-cons y (z ∷ zs) least a = yes_and (leb y z) (ascending (z ∷ zs)) (le→leb y z (least z (omega (arith, copies-cons z z zs, hit_same z)))) a

pub ascending-added : (x : ℕ) (ys : List ℕ) → T (ascending ys) → T (ascending (added x ys))
unfolding added copies
ascending-added x [] a = ascending-cons x [] (λ z h. absurd (omega arith)) a
ascending-added x (y ∷ ys) a = elim (dec_le x y) [
  | yes l ↦ rw (added-front x y ys l) (ascending-cons x (y ∷ ys) (λ z h. omega (arith, head-least z y ys a h)) a)
  | no n ↦ rw (added-behind x y ys (omega arith)) (ascending-cons y (added x ys) (least n) (ascending-added x ys (ascending-tail y ys a)))
]
  where
    least : (x ≤ y → ⊥) → (z : ℕ) → 0 < copies z (added x ys) → y ≤ z
    least n z h = elim (ℕ_discrete z x) [
      | yes e ↦ omega arith
      | no d ↦ head-least z y ys a (omega (arith, copies-cons z y ys, copies-added z x ys, hit_other z x d))
    ]

pub ascending-removed : (x : ℕ) (ys : List ℕ) → T (ascending ys) → T (ascending (removed x ys))
unfolding removed
ascending-removed x [] a = a
ascending-removed x (y ∷ ys) a = elim (ℕ_discrete x y) [
  | yes e ↦ rw (removed-here x y ys e) (ascending-tail y ys a)
  | no n ↦ rw (removed-later x y ys n) (ascending-cons y (removed x ys)
      (λ z h. head-least z y ys a (omega (arith, copies-cons z y ys, copies-removed-le z x ys))) (ascending-removed x ys (ascending-tail y ys a)))
]

pub ascending-append : (xs ys : List ℕ) → T (ascending xs) → T (ascending ys) → ((x y : ℕ) → 0 < copies x xs → 0 < copies y ys → x ≤ y)
    → T (ascending (xs ++ ys))
ascending-append [] ys a b l = b
ascending-append (x ∷ xs) ys a b l =
    ascending-cons x (xs ++ ys)
    (λ z c. elim (ℕ_discrete (copies z xs) 0) [
      | yes n ↦ l x z (omega (arith, copies-cons x x xs, hit_same x)) (omega (arith, copies-append z xs ys))
      | no n ↦ head-least z x xs a (omega (arith, copies-cons z x xs))
    ])
    (ascending-append xs ys (ascending-tail x xs a) b (λ y z c d. l y z (omega (arith, copies-cons y x xs)) d))

-- two ascending lists of the same copies are one list
pub ascending-unique : (xs ys : List ℕ) → T (ascending xs) → T (ascending ys) → ((z : ℕ) → copies z xs ≡ copies z ys) → xs ≡ ys
unfolding copies
ascending-unique [] [] a b e = refl
ascending-unique [] (y ∷ ys) a b e = absurd (omega (arith, e y, copies-cons y y ys, hit_same y))
ascending-unique (x ∷ xs) [] a b e = absurd (omega (arith, e x, copies-cons x x xs, hit_same x))
ascending-unique (x ∷ xs) (y ∷ ys) a b e =
    let l : x ≤ y = head-least y x xs a (omega (arith, e y, copies-cons y y ys, hit_same y)) in
    let g : y ≤ x = head-least x y ys b (omega (arith, e x, copies-cons x x xs, hit_same x)) in
    let s : x ≡ y = omega arith in
    ap₂ ◌∷◌ s (ascending-unique xs ys (ascending-tail x xs a) (ascending-tail y ys b)
    (λ z. omega (arith, e z, copies-cons z x xs, copies-cons z y ys, ap (hit z) s)))

-- an order of two changes that does not matter: x joins before v leaves, or after
pub removed-added-other : (v x : ℕ) (ys : List ℕ) → T (ascending ys) → 0 < copies v ys → removed v (added x ys) ≡ added x (removed v ys)
removed-added-other v x ys a h =
    ascending-unique (removed v (added x ys)) (added x (removed v ys)) (ascending-removed v (added x ys) (ascending-added x ys a))
    (ascending-added x (removed v ys) (ascending-removed v ys a))
    (λ z. omega (
      arith,
      copies-removed z v (added x ys) (omega (arith, copies-added v x ys)),
      copies-added z x ys,
      copies-added z x (removed v ys),
      copies-removed z v ys h,
    ))

-- ---- the largest member: it is a member, and no member is larger

pub copies-largest : (ys : List ℕ) → 0 < length ys → 0 < copies (largest ys) ys
unfolding largest
copies-largest [] h = absurd (omega arith)
copies-largest (x ∷ []) h = omega (arith, copies-cons x x [], hit_same x)
copies-largest (x ∷ y ∷ ys) h = omega (arith, copies-cons (largest (y ∷ ys)) x (y ∷ ys), copies-largest (y ∷ ys) (omega arith))

head-le-largest : (y : ℕ) (ys : List ℕ) → T (ascending (y ∷ ys)) → y ≤ largest (y ∷ ys)
unfolding largest
head-le-largest y [] a = omega arith
head-le-largest y (z ∷ zs) a = omega (arith, ascending-le y z zs a, head-le-largest z zs (ascending-tail y (z ∷ zs) a))

pub largest-cons : (y : ℕ) (ys : List ℕ) → T (ascending (y ∷ ys)) → largest (y ∷ ys) ≡ max y (largest ys)
unfolding largest
largest-cons y [] a = omega arith
largest-cons y (z ∷ zs) a = omega (arith, ascending-le y z zs a, head-le-largest z zs (ascending-tail y (z ∷ zs) a))

pub largest-max : (x : ℕ) (ys : List ℕ) → T (ascending ys) → 0 < copies x ys → x ≤ largest ys
unfolding copies
largest-max x [] a h = absurd (omega arith)
largest-max x (y ∷ ys) a h = elim (ℕ_discrete x y) [
  | yes e ↦ omega (arith, largest-cons y ys a)
  | no n ↦ omega (
    arith,
    largest-cons y ys a,
    largest-max x ys (ascending-tail y ys a) (omega (arith, copies-cons x y ys, hit_other x y n)),
  )
]

pub largest-added : (x : ℕ) (ys : List ℕ) → T (ascending ys) → largest (added x ys) ≡ max x (largest ys)
unfolding added largest
largest-added x [] a = omega arith
largest-added x (y ∷ ys) a = elim (dec_le x y) [
  | yes l ↦ rw (added-front x y ys l) (omega (arith, head-le-largest y ys a))
  | no n ↦
      let step : added x (y ∷ ys) ≡ y ∷ added x ys = added-behind x y ys (omega arith) in
      rw step (omega (
        arith,
        largest-added x ys (ascending-tail y ys a),
        largest-cons y ys a,
        largest-cons y (added x ys) (rw step at (ascending-added x (y ∷ ys) a)),
      ))
]

-- what no member exceeds, the largest does not
pub largest-le : (k : ℕ) (xs : List ℕ) → ((z : ℕ) → 0 < copies z xs → z ≤ k) → largest xs ≤ k
unfolding largest
largest-le k [] m = omega arith
largest-le k (x ∷ xs) m = m (largest (x ∷ xs)) (copies-largest (x ∷ xs) (omega arith))

-- a member that no member exceeds is the largest
pub largest-is : (m : ℕ) (xs : List ℕ) → T (ascending xs) → 0 < copies m xs → ((z : ℕ) → 0 < copies z xs → z ≤ m) → largest xs ≡ m
largest-is m xs a c l = omega (arith, largest-max m xs a c, largest-le m xs l)

-- x joins a list in which none is larger: it is the largest and stands last
pub largest-added-most : (x : ℕ) (xs : List ℕ) → T (ascending xs) → ((z : ℕ) → 0 < copies z xs → z ≤ x) → largest (added x xs) ≡ x
largest-added-most x xs a l = omega (arith, largest-added x xs a, largest-le x xs l)

pub added-last : (x : ℕ) (xs : List ℕ) → T (ascending xs) → ((z : ℕ) → 0 < copies z xs → z ≤ x) → added x xs ≡ xs ++ (x ∷ [])
unfolding ascending at_least
added-last x xs a l =
    ascending-unique (added x xs) (xs ++ (x ∷ [])) (ascending-added x xs a)
    (ascending-append xs (x ∷ []) a tt (λ z y c d. omega (arith, l z c, equal-of-hit y x (omega (arith, copies-one y x)))))
    (λ z. omega (arith, copies-added z x xs, copies-append z xs (x ∷ []), copies-one z x))
