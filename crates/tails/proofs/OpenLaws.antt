-- An image opened by its length and its tail. Main results: `tail-said`, what the tail of an image says; `open-wrong`, `open_by`, opening by the
-- length; `then-opened` and `then-shut`, what goes on with the header of an image.
use mathlib.Core.Path.{◌≡◌, refl, ◌∙◌}
use Prim.Native.Nat.{ℕ, ◌-◌, ◌≤◌, ◌<◌}
use mathlib.Core.Bool.{Bool, true, false, ◌&&◌}
use mathlib.Core.List.{List}
use mathlib.Core.Option.{none, some}
use native.Mathlib.Omega.{arith}
use Rattle.std.specs.Prelude as S
use lib.ListN.{length, drop}
use lib.Dec.{leb, eqb}
use borrow.Author.Tests.{eqb-true}
use Rattle.multiset.specs.Multisets.{all_zero}
use Rattle.crumbmap.specs.Layouts.{layout1, known}
use Rattle.machine.specs.Results.{Result, accepted, refused, and_then}
use Rattle.machine.specs.Images.{size_of, length_of, sized}
use Rattle.form.specs.Tails.{Header, body, rest, mark_of, tail_in, slots, headed, opened}
use Rattle.form.proofs.TailLaws.{length-body}
use Rattle.answers.specs.Answers.{refusal}
use Rattle.answers.specs.declared.Refusal.{Refusal}
use Rattle.answers.specs.declared.Tail as A
use Rattle.image.specs.Steps.ImageReads.{Whole}
use Rattle.image.proofs.ImageReadLaws.{whole_of, whole-sized}
use Rattle.tails.specs.Steps.Openings.{tail_reading_of, header_of, TailSays, Opens}
use Rattle.tails.specs.declared.Opened.{Opened}

-- ---- lengths

pub short_none : (n : ℕ) → n < 64 → size_of (n - 64) ≡ none
unfolding size_of length_of
short_none n h = let k : n - 64 ≡ 0 = omega arith in rw k

module _ (img : List ℕ) where
  -- an image whose body has a size has more bytes than a tail
  pub whole_long : {B : ℕ} → Whole B (body img) → 64 ≤ length img
  unfolding length_of
  whole_long w = omega (arith, w.long, w.some, length-body img)

  pub form-whole : {B : ℕ} → size_of (length img - 64) ≡ some B → Whole B (body img)
  form-whole e = whole_of (body img) (rw (length-body img) e)

  pub form-none : size_of (length img - 64) ≡ none → sized (body img) ≡ refused 1 0
  form-none e = rw (length-body img, e)

-- ---- the tail of an image of size B

module _ (B : ℕ) (img : List ℕ) where
  unmarked : eqb (mark_of img) 1 ≡ false → headed known B img ≡ refused 11 0
  unfolding headed
  unmarked e = rw e

  -- the layout is 1, and one of the two other tests fails
  spoilt : eqb (mark_of img) 1 ≡ true → all_zero (drop 17 (rest img)) && leb (tail_in (rest img)).total (slots layout1 B) ≡ false
      → headed known B img ≡ refused 11 0
  unfolding headed
  spoilt p e = rw (p, e)

  marked : eqb (mark_of img) 1 ≡ true → all_zero (drop 17 (rest img)) ≡ true → leb (tail_in (rest img)).total (slots layout1 B) ≡ true
      → headed known B img ≡ accepted (header_of B (tail_in (rest img)).total (tail_in (rest img)).changes)
  unfolding headed
  marked p q s = let m = eqb-true (mark_of img) 1 p in rw (m, q, s) (rw m)

  -- by the tests that the code makes
  said : (m z t : Bool) → eqb (mark_of img) 1 ≡ m → all_zero (drop 17 (rest img)) ≡ z → leb (tail_in (rest img)).total (slots layout1 B) ≡ t
      → {r : S.Option A.Tail} → r ≡ tail_reading_of (slots layout1 B) (rest img) → TailSays B img r
  unfolding tail_reading_of mark_of
  said true true true p q s e = rw (e, p, q, s) (marked p q s)
  said true true false p q s e = rw (e, p, q, s) (spoilt p (rw (q, s)))
  said true false t p q s e = rw (e, p, q) (spoilt p (rw q))
  said false z t p q s e = rw (e, p) (unmarked p)

  pub tail-said : {r : S.Option A.Tail} → r ≡ tail_reading_of (slots layout1 B) (rest img) → TailSays B img r
  tail-said e = said (eqb (mark_of img) 1) (all_zero (drop 17 (rest img))) (leb (tail_in (rest img)).total (slots layout1 B)) refl refl refl e

  module _ {r : S.Option A.Tail} (says : TailSays B img r) where
    pub tail-bad : r ≡ S.None → headed known B img ≡ refused 11 0
    tail-bad e = rw e at says

    pub tail-good : {t : A.Tail} → r ≡ S.Some t → headed known B img ≡ accepted (header_of B t.total t.changes)
    tail-good e = rw e at says

-- ---- an image opened

module _ (img : List ℕ) where
  pub open-wrong : size_of (length img - 64) ≡ none → opened known img ≡ refused 1 0
  unfolding opened
  open-wrong e = rw (form-none img e)

  module _ {B : ℕ} (w : Whole B (body img)) where
    pub open_by : opened known img ≡ headed known B img
    unfolding opened
    open_by = rw (whole-sized w)

pub opened-at : {o : Opened} {img : List ℕ} → Opens o img → opened known img ≡ accepted (header_of o.size o.total o.changes)
opened-at {o} {img} s = open_by img s.whole ∙ s.header

-- what goes on with the header is refused where opening is, and else goes on with this one
pub then-shut : {A : Type 0} (img : List ℕ) (why : Refusal) (k : Header → Result A) → opened known img ≡ refusal why → and_then (opened known img) k ≡ refusal why
then-shut img why k e = rw e

pub then-opened : {A : Type 0} {o : Opened} {img : List ℕ} (k : Header → Result A) → Opens o img
    → and_then (opened known img) k ≡ k (header_of o.size o.total o.changes)
then-opened k s = rw (opened-at s)
