-- A tail by words: that its layout is 1 and its rest is 0 is told by the number in bytes 16 to 23 and by those behind it (`tail-tests`).
-- Main results: `word-zero`; `tail-over`, `tail-marked`, `tail-spoilt`, `tail-fit`, what the tests of a tail say of its reading.
use mathlib.Core.Path.{◌≡◌, refl, sym, ◌∙◌}
use Prim.Native.Nat.{ℕ, zero, suc, ◌+◌, ◌*◌, ◌≤◌, ◌<◌}
use mathlib.Core.Bool.{Bool, true, false, cond, ◌&&◌}
use mathlib.Core.List.{List, [], ◌∷◌}
use native.Mathlib.Omega.{arith}
use Rattle.std.specs.Prelude as S
use native.Mathlib.Decide.{ℕ_discrete}
use lib.ListN.{length, take, drop, get_or}
use lib.Seq.{drop-drop, drop-cons}
use lib.Dec.{leb, eqb}
use borrow.Author.Tests.{eq-eqb, ne_eqb, le-leb, lt-leb}
use Rattle.multiset.specs.Multisets.{all_zero}
use Rattle.multiset.specs.Digits.{value}
use Rattle.form.specs.Tails.{tail_in}
use Rattle.answers.specs.declared.Tail.{Tail}
use Rattle.tails.specs.Steps.Openings.{tail_reading_of}

and_assoc : (a b c : Bool) → (a && b) && c ≡ a && (b && c)
and_assoc true b c = refl
and_assoc false b c = refl

and-false : (b : Bool) → (b && false) ≡ false
and-false true = refl
and-false false = refl

-- a number x + 256 × v is e exactly where x is e and v is 0, for e below 256
digit-test : (e x v : ℕ) → e < 256 → eqb (x + 256 * v) e ≡ eqb x e && eqb v 0
digit-test e x v h = elim (ℕ_discrete v 0) [
  | yes p ↦ elim (ℕ_discrete x e) [
    | yes q ↦ rw (eq-eqb (x + 256 * v) e (omega arith), eq-eqb x e q, eq-eqb v 0 p)
    | no q ↦ rw (ne_eqb (x + 256 * v) e (λ z. q (omega arith)), ne_eqb x e q)
  ]
  | no p ↦ rw (ne_eqb (x + 256 * v) e (λ z. p (omega arith)), ne_eqb v 0 p) (sym (and-false (eqb x e)))
]

-- n bytes are 0 where their number is
pub word-zero : (n : ℕ) (l : List ℕ) → all_zero l ≡ eqb (value 256 (take n l)) 0 && all_zero (drop n l)
unfolding all_zero value
word-zero zero l = refl
word-zero (suc n) [] = refl
word-zero (suc n) (x ∷ xs) =
    rw (word-zero n xs, digit-test 0 x (value 256 (take n xs)) (omega arith))
    (sym (and_assoc (eqb x 0) (eqb (value 256 (take n xs)) 0) (all_zero (drop n xs))))

tail-tests : (b : List ℕ) → length b ≡ 64
    → eqb (get_or b 16 0) 1 && all_zero (drop 17 b) ≡ eqb (value 256 (take 8 (drop 16 b))) 1 && all_zero (drop 24 b)
unfolding value
tail-tests b l =
    rw (drop-cons b 16 0 (omega arith), digit-test 1 (get_or b 16 0) (value 256 (take 7 (drop 17 b))) (omega arith), word-zero 7 (drop 17 b), drop-drop 7 17 b)
    (sym (and_assoc (eqb (get_or b 16 0) 1) (eqb (value 256 (take 7 (drop 17 b))) 0) (all_zero (drop 24 b))))

module _ (most : ℕ) (b : List ℕ) where
  abbrev good : S.Option Tail
  good = S.Some (record { total = (tail_in b).total; changes = (tail_in b).changes })

  cased : (z t : Bool) → eqb (get_or b 16 0) 1 && all_zero (drop 17 b) ≡ z → leb (tail_in b).total most ≡ t → cond (z && t) good S.None ≡ tail_reading_of most b
  unfolding tail_reading_of
  cased z t p q = rw (p, q)

  pub tail-over : most < (tail_in b).total → S.None ≡ tail_reading_of most b
  tail-over h = go (eqb (get_or b 16 0) 1 && all_zero (drop 17 b)) refl
    where
      go : (z : Bool) → eqb (get_or b 16 0) 1 && all_zero (drop 17 b) ≡ z → S.None ≡ tail_reading_of most b
      go true p = cased true false p (lt-leb (tail_in b).total most h)
      go false p = cased false false p (lt-leb (tail_in b).total most h)

  module _ (l : length b ≡ 64) where
    pub tail-marked : (value 256 (take 8 (drop 16 b)) ≡ 1 → ⊥) → S.None ≡ tail_reading_of most b
    tail-marked h = cased false (leb (tail_in b).total most) (tail-tests b l ∙ rw (ne_eqb (value 256 (take 8 (drop 16 b))) 1 h)) refl

    pub tail-spoilt : value 256 (take 8 (drop 16 b)) ≡ 1 → all_zero (drop 24 b) ≡ false → S.None ≡ tail_reading_of most b
    tail-spoilt h z = cased false (leb (tail_in b).total most) (tail-tests b l ∙ rw (eq-eqb (value 256 (take 8 (drop 16 b))) 1 h, z)) refl

    pub tail-fit : (tail_in b).total ≤ most → value 256 (take 8 (drop 16 b)) ≡ 1 → all_zero (drop 24 b) ≡ true → good ≡ tail_reading_of most b
    tail-fit m h z = cased true true (tail-tests b l ∙ rw (eq-eqb (value 256 (take 8 (drop 16 b))) 1 h, z)) (le-leb (tail_in b).total most m)
