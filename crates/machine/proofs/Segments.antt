-- Segments: the ascending list of every number g of a range, N(g) times each. Segments of neighbouring ranges append.
-- Main results: `segment-append`, `segment-shifted` (a front bucket's keys as fingerprints), `length-sum`.
use mathlib.Core.Path.{◌≡◌, refl, sym, ◌∙◌}
use Prim.Native.Nat.{ℕ, suc, ◌+◌, ◌-◌, ◌≤◌, ◌<◌}
use mathlib.Core.Bool.{Bool, true, false}
use mathlib.Core.List.{List, [], ◌∷◌, ◌++◌, map}
use native.Mathlib.Omega.{arith, by_contra}
use lib.ListN.{length}
use lib.Dec.{leb, ltb, T, leb→le, le→leb}
use lib.Ieee.Fits.{and_i, and_l, and_r}
use borrow.Author.Tests.{ltb-true, ltb-false}
use Rattle.multiset.specs.Multisets.{copies, ascending, at_least, sum, Below}
use Rattle.multiset.proofs.MultisetLaws.{hit_other, hit-alike, copies-cons, copies-append}
use Rattle.multiset.proofs.OrderLaws.{ascending-append}
use Rattle.multiset.proofs.RankLaws.{sum-copies, below-bounded}
use Rattle.multiset.proofs.SumLaws.{sum_alike, sum_shifted}

pub record Segment (N : ℕ → ℕ) (lo hi : ℕ) (gs : List ℕ) : Type 0 where
  pub order : T (ascending gs)
  pub inside : (g : ℕ) → lo ≤ g → g < hi → copies g gs ≡ N g
  pub before : (g : ℕ) → g < lo → copies g gs ≡ 0
  pub past : (g : ℕ) → hi ≤ g → copies g gs ≡ 0

-- ---- segments

pub segment-none : (N : ℕ → ℕ) (lo : ℕ) → Segment N lo lo []
unfolding copies ascending
segment-none N lo = record { order = tt; inside = λ g a b. absurd (omega arith); before = λ g a. refl; past = λ g a. refl }

pub segment-append : (N : ℕ → ℕ) (lo mid hi : ℕ) (gs hs : List ℕ) → lo ≤ mid → mid ≤ hi → Segment N lo mid gs → Segment N mid hi hs
    → Segment N lo hi (gs ++ hs)
segment-append N lo mid hi gs hs a b p q =
    record {
      order = ascending-append gs hs p.order q.order apart;
      inside = λ g l h. within g l h (ltb g mid) refl;
      before = λ g l. omega (arith, copies-append g gs hs, p.before g l, q.before g (omega arith));
      past = λ g l. omega (arith, copies-append g gs hs, p.past g (omega arith), q.past g l);
    }
  where
    apart : (x y : ℕ) → 0 < copies x gs → 0 < copies y hs → x ≤ y
    apart x y c d =
        omega (
          arith,
          by_contra (suc x) mid (λ l. omega (arith, p.past x (omega arith))),
          by_contra mid y (λ l. omega (arith, q.before y l)),
        )

    within : (g : ℕ) → lo ≤ g → g < hi → (t : Bool) → ltb g mid ≡ t → copies g (gs ++ hs) ≡ N g
    within g l h true e = let m : g < mid = ltb-true _ _ e in omega (arith, copies-append g gs hs, p.inside g l m, q.before g m)
    within g l h false e = let m : mid ≤ g = ltb-false _ _ e in omega (arith, copies-append g gs hs, p.past g m, q.inside g m h)

-- ---- a list of small numbers, shifted

copies-shifted : (d y : ℕ) (xs : List ℕ) → copies (d + y) (map (λ (x : ℕ). d + x) xs) ≡ copies y xs
unfolding copies
copies-shifted d y [] = refl
copies-shifted d y (x ∷ xs) =
    omega (arith, copies-cons (d + y) (d + x) (map (λ (x : ℕ). d + x) xs), copies-cons y x xs, hit-alike (d + y) (d + x) y x (omega arith) (omega arith), copies-shifted d y xs)

shifted-before : (d g : ℕ) (xs : List ℕ) → g < d → copies g (map (λ (x : ℕ). d + x) xs) ≡ 0
shifted-before d g [] l = unfold copies in refl
shifted-before d g (x ∷ xs) l =
    omega (arith, copies-cons g (d + x) (map (λ (x : ℕ). d + x) xs), hit_other g (d + x) (λ e. omega arith), shifted-before d g xs l)

shifted_past : (d k g : ℕ) (xs : List ℕ) → Below k xs → d + k ≤ g → copies g (map (λ (x : ℕ). d + x) xs) ≡ 0
shifted_past d k g [] b l = unfold copies in refl
shifted_past d k g (x ∷ xs) b l =
    omega (arith, copies-cons g (d + x) (map (λ (x : ℕ). d + x) xs), hit_other g (d + x) (λ e. omega (arith, b.0)), shifted_past d k g xs b.1 l)

ascending-shifted : (d : ℕ) (xs : List ℕ) → T (ascending xs) → T (ascending (map (λ (x : ℕ). d + x) xs))
unfolding ascending at_least
ascending-shifted d [] a = tt
ascending-shifted d (x ∷ []) a = tt
ascending-shifted d (x ∷ y ∷ ys) a =
    and_i (leb (d + x) (d + y)) _ (le→leb (d + x) (d + y) (omega (arith, leb→le x y (and_l (leb x y) _ a))))
    (ascending-shifted d (y ∷ ys) (and_r (leb x y) _ a))

pub segment-shifted : (N : ℕ → ℕ) (d k : ℕ) (xs : List ℕ) → T (ascending xs) → Below k xs → ((y : ℕ) → y < k → copies y xs ≡ N (d + y))
    → Segment N d (d + k) (map (λ (x : ℕ). d + x) xs)
segment-shifted N d k xs a b e =
    record {
      order = ascending-shifted d xs a;
      inside = λ g l h. at g (g - d) (omega arith) (omega arith);
      before = λ g l. shifted-before d g xs l;
      past = λ g l. shifted_past d k g xs b l;
    }
  where
    at : (g y : ℕ) → d + y ≡ g → y < k → copies g (map (λ (x : ℕ). d + x) xs) ≡ N g
    at g y q l = rw (← q) (copies-shifted d y xs ∙ e y l)

pub length-sum : (N : ℕ → ℕ) (d k : ℕ) (xs : List ℕ) → Below k xs → ((y : ℕ) → y < k → copies y xs ≡ N (d + y)) → length xs ≡ sum N (d + 0) k
length-sum N d k xs b e =
    sym (below-bounded k xs b) ∙ sym (sum-copies k xs) ∙ sum_alike (λ (y : ℕ). copies y xs) (λ (y : ℕ). N (d + y)) 0 k (λ y l h. e y (omega arith))
    ∙ sym (sum_shifted N d 0 k)
