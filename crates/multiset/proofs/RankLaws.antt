-- How many members are smaller than a number: `below`, member by member and as a sum of copies, and where a member stands.
-- Main results: `below_suc`, `below_all`, `below-lt-length`, `found_none`, `found_some`, `found-copies`, `sum-copies`.
use mathlib.Core.Path.{◌≡◌, refl, sym, ap, ◌∙◌}
use mathlib.Core.Logic.{⊎_elim}
use Prim.Native.Nat.{ℕ, zero, suc, ◌+◌, ◌≤◌, ◌<◌}
use mathlib.Core.List.{List, [], ◌∷◌}
use mathlib.Core.Option.{none, some}
use native.Mathlib.Nat.{zero-add, eq-zero-or-pos}
use native.Mathlib.Decide.{dec_le, ℕ_discrete}
use native.Mathlib.Omega.{arith}
use lib.ListN.{length}
use lib.Dec.{T}
use borrow.Author.Tests.{eq-eqb, ne_eqb, lt-ltb, le-ltb}
use Rattle.multiset.specs.Multisets.{Below, copies, below, slot_of, Found, found_in, largest, ascending, sum}
use Rattle.multiset.proofs.MultisetLaws.{hit_other, hit-equal, copies-cons}
use Rattle.multiset.proofs.OrderLaws.{ascending-tail, ascending-le, head-least, largest-cons}
use Rattle.multiset.proofs.SumLaws.{sum-last}

pub below-smaller : (x y : ℕ) (ys : List ℕ) → y < x → below x (y ∷ ys) ≡ suc (below x ys)
unfolding below
below-smaller x y ys h = rw (lt-ltb y x h)

pub below_other : (x y : ℕ) (ys : List ℕ) → x ≤ y → below x (y ∷ ys) ≡ below x ys
unfolding below
below_other x y ys h = rw (le-ltb y x h)

pub below_suc : (x : ℕ) (ys : List ℕ) → below (suc x) ys ≡ below x ys + copies x ys
unfolding below copies
below_suc x [] = omega arith
below_suc x (y ∷ ys) = elim (dec_le y x) [
  | yes l ↦ elim (ℕ_discrete x y) [
    | yes e ↦ omega (
      arith,
      below-smaller (suc x) y ys (omega arith),
      below_other x y ys (omega arith),
      copies-cons x y ys,
      hit-equal x y e,
      below_suc x ys,
    )
    | no n ↦ omega (
      arith,
      below-smaller (suc x) y ys (omega arith),
      below-smaller x y ys (omega arith),
      copies-cons x y ys,
      hit_other x y n,
      below_suc x ys,
    )
  ]
  | no g ↦ omega (
    arith,
    below_other (suc x) y ys (omega arith),
    below_other x y ys (omega arith),
    copies-cons x y ys,
    hit_other x y (omega arith),
    below_suc x ys,
  )
]

pub below-le-length : (x : ℕ) (ys : List ℕ) → below x ys ≤ length ys
unfolding below
below-le-length x [] = omega arith
below-le-length x (y ∷ ys) = elim (dec_le x y) [
  | yes l ↦ omega (arith, below_other x y ys l, below-le-length x ys)
  | no n ↦ omega (arith, below-smaller x y ys (omega arith), below-le-length x ys)
]

-- all members are smaller than x: they are all counted, and the other way round
pub below_all : (x : ℕ) (ys : List ℕ) → T (ascending ys) → 0 < length ys → largest ys < x → below x ys ≡ length ys
unfolding below largest
below_all x [] a p h = refl
below_all x (y ∷ []) a p h = below-smaller x y [] h
below_all x (y ∷ z ∷ zs) a p h = omega (
  arith,
  below-smaller x y (z ∷ zs) (omega (arith, largest-cons y (z ∷ zs) a)),
  below_all x (z ∷ zs) (ascending-tail y (z ∷ zs) a) (omega arith) h,
)

-- every member is below k
pub below-bounded : (k : ℕ) (xs : List ℕ) → Below k xs → below k xs ≡ length xs
unfolding below
below-bounded k [] b = refl
below-bounded k (x ∷ xs) b = rw (lt-ltb x k b.0) (ap suc (below-bounded k xs b.1))

-- a member that is not smaller than x is not counted
pub below-lt-length : (x v : ℕ) (ys : List ℕ) → 0 < copies v ys → x ≤ v → below x ys < length ys
unfolding copies
below-lt-length x v [] c h = absurd (omega arith)
below-lt-length x v (y ∷ ys) c h = elim (dec_le x y) [
  | yes l ↦ omega (arith, below_other x y ys l, below-le-length x ys)
  | no n ↦ omega (
    arith,
    below-smaller x y ys (omega arith),
    below-lt-length x v ys (omega (arith, copies-cons v y ys, hit_other v y (omega arith))) h,
  )
]

pub below_none : (x y : ℕ) (ys : List ℕ) → T (ascending (y ∷ ys)) → x ≤ y → below x (y ∷ ys) ≡ 0
unfolding below
below_none x y [] a h = below_other x y [] h
below_none x y (z ∷ zs) a h =
    below_other x y (z ∷ zs) h ∙ below_none x z zs (ascending-tail y (z ∷ zs) a) (omega (arith, ascending-le y z zs a))

slot_of-none : (x : ℕ) (ys : List ℕ) → copies x ys ≡ 0 → slot_of x ys ≡ none
unfolding slot_of
slot_of-none x [] h = refl
slot_of-none x (y ∷ ys) h = elim (ℕ_discrete x y) [
  | yes e ↦ absurd (omega (arith, copies-cons x y ys, hit-equal x y e))
  | no n ↦ rw (ne_eqb x y n, slot_of-none x ys (omega (arith, copies-cons x y ys)))
]

slot_of-some : (x : ℕ) (ys : List ℕ) → T (ascending ys) → 0 < copies x ys → slot_of x ys ≡ some (below x ys)
unfolding slot_of copies
slot_of-some x [] a h = absurd (omega arith)
slot_of-some x (y ∷ ys) a h = elim (ℕ_discrete x y) [
  | yes e ↦ rw (eq-eqb x y e, below_none x y ys a (omega arith))
  | no n ↦ rw (
    ne_eqb x y n,
    slot_of-some x ys (ascending-tail y ys a) (omega (arith, copies-cons x y ys, hit_other x y n)),
    below-smaller x y ys (omega (arith, head-least x y ys a h)),
  )
]

pub found_none : (x : ℕ) (ys : List ℕ) → copies x ys ≡ 0 → found_in x ys ≡ none
unfolding found_in
found_none x ys h = rw (slot_of-none x ys h)

pub found_some : (x : ℕ) (ys : List ℕ) → T (ascending ys) → 0 < copies x ys → found_in x ys ≡ some (record { slot = below x ys; copies = copies x ys })
unfolding found_in
found_some x ys a h = rw (slot_of-some x ys a h)

-- and the other way round
pub absent-copies : (x : ℕ) (ys : List ℕ) → T (ascending ys) → found_in x ys ≡ none → copies x ys ≡ 0
absent-copies x ys a e = ⊎_elim
    (λ z. z)
    (λ p. let q = sym (found_some x ys a p) ∙ e in let z : ◌≡◌ {A = ℕ} 0 1 = cc in absurd (omega arith))
    (eq-zero-or-pos (copies x ys))

pub found-copies : (x : ℕ) (ys : List ℕ) (s : Found) → T (ascending ys) → found_in x ys ≡ some s
    → (s.slot ≡ below x ys) × (s.copies ≡ copies x ys) × (0 < copies x ys)
found-copies x ys s a e = ⊎_elim
    (λ z. let q = sym (found_none x ys z) ∙ e in let z : ◌≡◌ {A = ℕ} 0 1 = cc in absurd (omega arith))
    (λ p. let q = sym (found_some x ys a p) ∙ e in let r : record { slot = below x ys; copies = copies x ys } ≡ s = cc in (rw (sym r), rw (sym r), p))
    (eq-zero-or-pos (copies x ys))

-- ---- `below` is a sum of copies

pub below-zero : (ys : List ℕ) → below 0 ys ≡ 0
unfolding below
below-zero [] = refl
below-zero (y ∷ ys) = below_other 0 y ys (omega arith) ∙ below-zero ys

pub sum-copies : (x : ℕ) (ys : List ℕ) → sum (λ (z : ℕ). copies z ys) 0 x ≡ below x ys
sum-copies zero ys = sym (below-zero ys)
sum-copies (suc x) ys = omega (arith, sum-last (λ (z : ℕ). copies z ys) 0 x, sum-copies x ys, below_suc x ys, ap (λ (z : ℕ). copies z ys) (zero-add x))
