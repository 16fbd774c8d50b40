-- The members that carry a crumb: how often each key stands among them, that order and range are kept, and how many there are.
-- Main results: `copies-carrying`, `ascending-carrying`, `below-carrying`, `length-carrying`; slot by slot, `carrying-on`; `carrying-append`.
use mathlib.Core.Path.{◌≡◌, refl, ap}
use Prim.Native.Nat.{ℕ, zero, suc, ◌+◌, ◌*◌, ◌/◌, ◌%◌, ◌≤◌, ◌<◌}
use mathlib.Core.Bool.{Bool, true, false}
use mathlib.Core.List.{List, [], ◌∷◌, ◌++◌}
use native.Mathlib.Omega.{arith}
use lib.ListN.{length, take, get_or}
use lib.Dec.{T, eqb, leb→le, le→leb}
use mir.Facts.{and_yes, yes_and}
use borrow.Author.Tests.{eqb-true, eqb-false, eq-eqb, ne_eqb}
use Rattle.multiset.specs.Multisets.{copies, at_least, ascending, Below}
use Rattle.multiset.proofs.MultisetLaws.{hit, hit-equal, hit_other, hit-le-one, hit-alike, copies-cons}
use Rattle.buckets.specs.Buckets.{carrying}

-- the first member carries the crumb, or not
data Carries (c y : ℕ) (ys : List ℕ) : Type 0 where
  kept : y % 16 ≡ c → carrying c (y ∷ ys) ≡ y / 16 ∷ carrying c ys → Carries c y ys
  passed : (y % 16 ≡ c → ⊥) → carrying c (y ∷ ys) ≡ carrying c ys → Carries c y ys

carries : (c y : ℕ) (ys : List ℕ) → Carries c y ys
unfolding carrying
carries c y ys = go (eqb (y % 16) c) refl
  where
    go : (b : Bool) → eqb (y % 16) c ≡ b → Carries c y ys
    go true e = kept (eqb-true (y % 16) c e) (rw e)
    go false e = passed (eqb-false (y % 16) c e) (rw e)

pub copies-carrying : (x c : ℕ) (ys : List ℕ) → c < 16 → copies x (carrying c ys) ≡ copies (x * 16 + c) ys
unfolding copies carrying
copies-carrying x c [] h = refl
copies-carrying x c (y ∷ ys) h =
    let ih : copies x (carrying c ys) ≡ copies (x * 16 + c) ys = copies-carrying x c ys h in
    elim (carries c y ys) [
      | kept p e ↦ rw e (omega (
        arith,
        ih,
        copies-cons x (y / 16) (carrying c ys),
        copies-cons (x * 16 + c) y ys,
        hit-alike (x * 16 + c) y x (y / 16) (omega arith) (omega arith),
      ))
      | passed p e ↦ rw e (omega (arith, ih, copies-cons (x * 16 + c) y ys, hit_other (x * 16 + c) y (omega arith)))
    ]

at_least-trans : (x y : ℕ) (ys : List ℕ) → x ≤ y → T (at_least y ys) → T (at_least x ys)
unfolding at_least
at_least-trans x y [] h a = tt
at_least-trans x y (z ∷ zs) h a = le→leb x z (omega (arith, leb→le y z a))

at_least-carrying : (x c : ℕ) (ys : List ℕ) → T (at_least x ys) → T (ascending ys) → T (at_least (x / 16) (carrying c ys))
unfolding at_least ascending carrying
at_least-carrying x c [] l a = tt
at_least-carrying x c (y ∷ ys) l a =
    let k : x ≤ y = leb→le x y l in
    let p : T (at_least y ys) × T (ascending ys) = and_yes (at_least y ys) (ascending ys) a in
    let ih : T (at_least (x / 16) (carrying c ys)) = at_least-carrying x c ys (at_least-trans x y ys k p.0) p.1 in
    elim (carries c y ys) [ kept q e ↦ rw e (le→leb (x / 16) (y / 16) (omega arith)) | passed q e ↦ rw e ih ]

pub ascending-carrying : (c : ℕ) (ys : List ℕ) → T (ascending ys) → T (ascending (carrying c ys))
unfolding ascending carrying
ascending-carrying c [] a = tt
ascending-carrying c (y ∷ ys) a =
    let p : T (at_least y ys) × T (ascending ys) = and_yes (at_least y ys) (ascending ys) a in
    let ih : T (ascending (carrying c ys)) = ascending-carrying c ys p.1 in
    elim (carries c y ys) [
      | kept q e ↦ rw e (yes_and (at_least (y / 16) (carrying c ys)) (ascending (carrying c ys)) (at_least-carrying y c ys p.0 p.1) ih)
      | passed q e ↦ rw e ih
    ]

pub below-carrying : (k c : ℕ) (ys : List ℕ) → Below (k * 16) ys → Below k (carrying c ys)
unfolding carrying
below-carrying k c [] b = tt
below-carrying k c (y ∷ ys) b =
    let ih : Below k (carrying c ys) = below-carrying k c ys b.1 in
    elim (carries c y ys) [ kept q e ↦ rw e (omega arith, ih) | passed q e ↦ rw e ih ]

-- ---- how many there are

-- a member put before a list counts where it carries the crumb
carrying-cons : (c y : ℕ) (ys : List ℕ) → length (carrying c (y ∷ ys)) ≡ hit (y % 16) c + length (carrying c ys)
carrying-cons c y ys = elim (carries c y ys) [
  | kept p e ↦ rw e (omega (arith, hit-equal (y % 16) c p))
  | passed p e ↦ rw e (omega (arith, hit_other (y % 16) c p))
]

pub length-carrying : (c : ℕ) (ys : List ℕ) → length (carrying c ys) ≤ length ys
unfolding carrying
length-carrying c [] = omega arith
length-carrying c (y ∷ ys) = omega (arith, carrying-cons c y ys, hit-le-one (y % 16) c, length-carrying c ys)

pub carrying-on : (c slot : ℕ) (ys : List ℕ) → slot < length ys
    → length (carrying c (take (suc slot) ys)) ≡ length (carrying c (take slot ys)) + hit (get_or ys slot 0 % 16) c
carrying-on c slot [] l = absurd (omega arith)
carrying-on c zero (y ∷ ys) l = unfold carrying in omega (arith, carrying-cons c y [])
carrying-on c (suc slot) (y ∷ ys) l =
    omega (arith, carrying-cons c y (take (suc slot) ys), carrying-cons c y (take slot ys), carrying-on c slot ys (omega arith))

-- ---- of a list in two parts

pub carrying-append : (c : ℕ) (xs ys : List ℕ) → carrying c (xs ++ ys) ≡ carrying c xs ++ carrying c ys
unfolding carrying
carrying-append c [] ys = refl
carrying-append c (x ∷ xs) ys = elim (carries c x xs) [
  | kept p e ↦ rw (eq-eqb (x % 16) c p) (ap (λ (l : List ℕ). x / 16 ∷ l) (carrying-append c xs ys))
  | passed p e ↦ rw (ne_eqb (x % 16) c p) (carrying-append c xs ys)
]
