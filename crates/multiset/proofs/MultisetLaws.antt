-- Multisets through `copies`: how often each number stands in a list after a change, lengths, and ranges.
-- `hit x y`, 1 where x is y and else 0, keeps every law linear, so that `omega` closes what follows from them.
-- Main results: `copies-added`, `copies-removed`, `length-added`, `length_removed`, `below-added`, `below-removed`.
use mathlib.Core.Path.{◌≡◌, refl, sym, ap, ◌∙◌}
use Prim.Native.Nat.{ℕ, zero, suc, ◌+◌, ◌≤◌, ◌<◌}
use mathlib.Core.Bool.{cond}
use mathlib.Core.List.{List, [], ◌∷◌, ◌++◌}
use native.Mathlib.Nat.{add-zero}
use native.Mathlib.Decide.{dec_le, ℕ_discrete}
use native.Mathlib.Omega.{arith}
use lib.ListN.{length, take, drop, get_or, replicate}
use lib.Dec.{eqb}
use borrow.Author.Tests.{eq-eqb, ne_eqb, le-leb, lt-leb}
use Rattle.multiset.specs.Multisets.{Below, added, removed, copies}

-- 1 where x is y, else 0
unfoldable pub hit : ℕ → ℕ → ℕ
hit x y = cond (eqb x y) 1 0

pub hit_same : (x : ℕ) → hit x x ≡ 1
unfolding hit
hit_same x = rw (eq-eqb x x refl)

pub hit_other : (x y : ℕ) → (x ≡ y → ⊥) → hit x y ≡ 0
unfolding hit
hit_other x y h = rw (ne_eqb x y h)

pub hit-equal : (x y : ℕ) → x ≡ y → hit x y ≡ 1
hit-equal x y e = rw e (hit_same y)

pub hit-le-one : (x y : ℕ) → hit x y ≤ 1
hit-le-one x y = elim (ℕ_discrete x y) [ yes e ↦ omega (arith, hit-equal x y e) | no n ↦ omega (arith, hit_other x y n) ]

pub equal-of-hit : (x y : ℕ) → 0 < hit x y → x ≡ y
equal-of-hit x y h = elim (ℕ_discrete x y) [ yes e ↦ e | no n ↦ absurd (omega (arith, hit_other x y n)) ]

-- `hit` of two pairs of which each is equal where the other is
pub hit-alike : (a b c d : ℕ) → (a ≡ b → c ≡ d) → (c ≡ d → a ≡ b) → hit a b ≡ hit c d
hit-alike a b c d to from = elim (ℕ_discrete a b) [
  | yes e ↦ hit-equal a b e ∙ sym (hit-equal c d (to e))
  | no n ↦ hit_other a b n ∙ sym (hit_other c d (λ e. n (from e)))
]

-- ---- each definition at a member, by cases that `rw` can use

pub added-front : (x y : ℕ) (ys : List ℕ) → x ≤ y → added x (y ∷ ys) ≡ x ∷ y ∷ ys
unfolding added
added-front x y ys h = rw (le-leb x y h)

pub added-behind : (x y : ℕ) (ys : List ℕ) → y < x → added x (y ∷ ys) ≡ y ∷ added x ys
unfolding added
added-behind x y ys h = rw (lt-leb x y h)

pub removed-here : (x y : ℕ) (ys : List ℕ) → x ≡ y → removed x (y ∷ ys) ≡ ys
unfolding removed
removed-here x y ys h = rw (eq-eqb x y h)

pub removed-later : (x y : ℕ) (ys : List ℕ) → (x ≡ y → ⊥) → removed x (y ∷ ys) ≡ y ∷ removed x ys
unfolding removed
removed-later x y ys h = rw (ne_eqb x y h)

pub copies-cons : (z x : ℕ) (xs : List ℕ) → copies z (x ∷ xs) ≡ hit z x + copies z xs
unfolding copies hit
copies-cons z x xs = elim (ℕ_discrete z x) [ yes e ↦ rw (eq-eqb z x e) (omega arith) | no h ↦ rw (ne_eqb z x h) (omega arith) ]

pub copies-one : (z x : ℕ) → copies z (x ∷ []) ≡ hit z x
unfolding copies
copies-one z x = copies-cons z x [] ∙ add-zero (hit z x)

-- a list without any member
pub copies-none : (xs : List ℕ) → ((z : ℕ) → copies z xs ≡ 0) → xs ≡ []
copies-none [] h = refl
copies-none (x ∷ xs) h = absurd (omega (arith, h x, copies-cons x x xs, hit_same x))

-- ---- copies and lengths

pub copies-append : (z : ℕ) (xs ys : List ℕ) → copies z (xs ++ ys) ≡ copies z xs + copies z ys
unfolding copies
copies-append z [] ys = omega arith
copies-append z (x ∷ xs) ys = omega (arith, copies-cons z x (xs ++ ys), copies-cons z x xs, copies-append z xs ys)

pub copies-added : (z x : ℕ) (ys : List ℕ) → copies z (added x ys) ≡ hit z x + copies z ys
unfolding added
copies-added z x [] = copies-cons z x []
copies-added z x (y ∷ ys) = elim (dec_le x y) [
  | yes l ↦ rw (added-front x y ys l) (copies-cons z x (y ∷ ys))
  | no n ↦ rw (added-behind x y ys (omega arith)) (omega (arith, copies-cons z y (added x ys), copies-cons z y ys, copies-added z x ys))
]

pub copies-removed : (z x : ℕ) (ys : List ℕ) → 0 < copies x ys → copies z ys ≡ hit z x + copies z (removed x ys)
unfolding copies
copies-removed z x [] h = absurd (omega arith)
copies-removed z x (y ∷ ys) h = elim (ℕ_discrete x y) [
  | yes e ↦ rw (removed-here x y ys e, e) (copies-cons z y ys)
  | no n ↦ rw (removed-later x y ys n) (omega (
    arith,
    copies-cons z y ys,
    copies-cons z y (removed x ys),
    copies-removed z x ys (omega (arith, copies-cons x y ys, hit_other x y n)),
  ))
]

pub copies-removed-le : (z x : ℕ) (ys : List ℕ) → copies z (removed x ys) ≤ copies z ys
unfolding copies removed
copies-removed-le z x [] = omega arith
copies-removed-le z x (y ∷ ys) = elim (ℕ_discrete x y) [
  | yes e ↦ rw (removed-here x y ys e) (omega (arith, copies-cons z y ys))
  | no n ↦ rw (removed-later x y ys n) (omega (arith, copies-cons z y ys, copies-cons z y (removed x ys), copies-removed-le z x ys))
]

pub copies-le-length : (x : ℕ) (ys : List ℕ) → copies x ys ≤ length ys
unfolding copies
copies-le-length x [] = omega arith
copies-le-length x (y ∷ ys) = omega (arith, copies-cons x y ys, hit-le-one x y, copies-le-length x ys)

pub length-added : (x : ℕ) (ys : List ℕ) → length (added x ys) ≡ suc (length ys)
unfolding added
length-added x [] = refl
length-added x (y ∷ ys) = elim (dec_le x y) [
  | yes l ↦ rw (added-front x y ys l)
  | no n ↦ rw (added-behind x y ys (omega arith)) (ap suc (length-added x ys))
]

pub length_removed : (x : ℕ) (ys : List ℕ) → 0 < copies x ys → length ys ≡ suc (length (removed x ys))
unfolding copies
length_removed x [] h = absurd (omega arith)
length_removed x (y ∷ ys) h = elim (ℕ_discrete x y) [
  | yes e ↦ rw (removed-here x y ys e)
  | no n ↦ rw (removed-later x y ys n) (ap suc (length_removed x ys (omega (arith, copies-cons x y ys, hit_other x y n))))
]

pub removed-absent : (x : ℕ) (ys : List ℕ) → copies x ys ≡ 0 → removed x ys ≡ ys
unfolding removed
removed-absent x [] h = refl
removed-absent x (y ∷ ys) h = elim (ℕ_discrete x y) [
  | yes e ↦ absurd (omega (arith, copies-cons x y ys, hit-equal x y e))
  | no n ↦ rw (removed-later x y ys n, removed-absent x ys (omega (arith, copies-cons x y ys)))
]

pub removed-added : (x : ℕ) (ys : List ℕ) → removed x (added x ys) ≡ ys
unfolding added
removed-added x [] = removed-here x x [] refl
removed-added x (y ∷ ys) = elim (dec_le x y) [
  | yes l ↦ rw (added-front x y ys l) (removed-here x x (y ∷ ys) refl)
  | no n ↦ rw (added-behind x y ys (omega arith), removed-later x y (added x ys) (omega arith), removed-added x ys)
]

-- ---- range: every member is below k

pub below-added : (k x : ℕ) (ys : List ℕ) → x < k → Below k ys → Below k (added x ys)
unfolding added
below-added k x [] h b = (h, tt)
below-added k x (y ∷ ys) h b = elim (dec_le x y) [
  | yes l ↦ rw (added-front x y ys l) (h, b)
  | no n ↦ rw (added-behind x y ys (omega arith)) (b.0, below-added k x ys h b.1)
]

pub below-removed : (k x : ℕ) (ys : List ℕ) → Below k ys → Below k (removed x ys)
unfolding removed
below-removed k x [] b = tt
below-removed k x (y ∷ ys) b = elim (ℕ_discrete x y) [
  | yes e ↦ rw (removed-here x y ys e) b.1
  | no n ↦ rw (removed-later x y ys n) (b.0, below-removed k x ys b.1)
]

pub below-copies : (k x : ℕ) (ys : List ℕ) → Below k ys → 0 < copies x ys → x < k
unfolding copies
below-copies k x [] b h = absurd (omega arith)
below-copies k x (y ∷ ys) b h = elim (ℕ_discrete x y) [
  | yes e ↦ omega (arith, b.0)
  | no n ↦ below-copies k x ys b.1 (omega (arith, copies-cons x y ys, hit_other x y n))
]

-- every member below k is what Below says
pub below-of-copies : (k : ℕ) (ys : List ℕ) → ((x : ℕ) → 0 < copies x ys → x < k) → Below k ys
below-of-copies k [] h = tt
below-of-copies k (y ∷ ys) h =
    (h y (omega (arith, copies-cons y y ys, hit_same y)), below-of-copies k ys (λ x l. h x (omega (arith, copies-cons x y ys))))

pub below-append : (k : ℕ) (xs ys : List ℕ) → Below k xs → Below k ys → Below k (xs ++ ys)
below-append k [] ys a b = b
below-append k (x ∷ xs) ys a b = (a.0, below-append k xs ys a.1 b)

pub below-take : (k n : ℕ) (xs : List ℕ) → Below k xs → Below k (take n xs)
below-take k zero xs b = tt
below-take k (suc n) [] b = tt
below-take k (suc n) (x ∷ xs) b = (b.0, below-take k n xs b.1)

pub below-drop : (k n : ℕ) (xs : List ℕ) → Below k xs → Below k (drop n xs)
below-drop k zero xs b = b
below-drop k (suc n) [] b = tt
below-drop k (suc n) (x ∷ xs) b = below-drop k n xs b.1

pub below-replicate : (k n : ℕ) → 0 < k → Below k (replicate {A = ℕ} n 0)
below-replicate k zero p = tt
below-replicate k (suc n) p = (p, below-replicate k n p)

pub below-of-at : (k : ℕ) (xs : List ℕ) → ((i : ℕ) → get_or xs i 0 < k) → Below k xs
below-of-at k [] h = tt
below-of-at k (x ∷ xs) h = (h 0, below-of-at k xs (λ i. h (suc i)))

pub below_at : (k i : ℕ) (xs : List ℕ) → Below k xs → i < length xs → get_or xs i 0 < k
below_at k i [] b h = absurd (omega arith)
below_at k zero (x ∷ xs) b h = b.0
below_at k (suc i) (x ∷ xs) b h = below_at k i xs b.1 (omega arith)
