-- The steps of a merge: the tails of its sources; for any layout, one front bucket after the other into a fresh target, and what ends the merge
-- before or on the way. Main results: `told_of`; `fronts-start`, `fronts-merging`, `fronts-on`, `fronts-full` and `fronts-end`; `merged-left`,
-- `fill-accepted`, `fill-full`; `check-refuses`.
use mathlib.Core.Path.{◌≡◌, refl, sym, ◌∙◌, ap}
use Prim.Native.Nat.{ℕ, suc, ◌+◌, ◌-◌, ◌≤◌, ◌<◌}
use mathlib.Core.Bool.{Bool, true, false, cond}
use mathlib.Core.List.{List, [], ◌++◌}
use mathlib.Core.Option.{Option, none, some}
use native.Mathlib.Numerals.{add-one}
use native.Mathlib.Nat.{sub-zero}
use native.Mathlib.Omega.{arith}
use lib.ListN.{length, take, drop, get_or, length-append, length-drop}
use lib.Dec.{eqb}
use Rattle.std.specs.Prelude as S
use Rattle.multiset.specs.Multisets.{Below}
use Rattle.multiset.proofs.MultisetLaws.{copies-none}
use Rattle.crumbmap.specs.Layouts.{Layout, layout1, Numbering, known, keys, fronts, backyards}
use Rattle.buckets.specs.Buckets.{Fits64}
use Rattle.machine.specs.Results.{Result, accepted, refused, and_then, number}
use Rattle.machine.specs.Images.{in_front, empty_image}
use Rattle.machine.specs.Machine.{members_at}
use Rattle.machine.specs.Merges.{insert_all, merge_from}
use Rattle.machine.specs.Calls.{written, left_of}
use Rattle.machine.specs.Checks.{unless, unsound_front, unsound_back, early, check_sized}
use Rattle.machine.proofs.AcceptedLaws.{and_then-and_then, never-refused}
use Rattle.machine.proofs.Invariant.{Good, total}
use Rattle.machine.proofs.MergeLaws.{empty-good, empty-total, insert_all-good}
use Rattle.form.specs.Tails.{Header, body, mark_of, members, headed}
use Rattle.form.specs.Calls.{fresh_of, checked_by, merged_by, merge_sized_of, target_of}
use Rattle.form.proofs.TailLaws.{length-body, headed-parts}
use Rattle.form.proofs.MoveLaws.{checked-parts}
use Rattle.answers.specs.Answers.{numbered, refusal, outcome_of, blank, Leaves}
use Rattle.answers.specs.declared.Refusal.{Refusal}
use Rattle.answers.specs.declared.Refusal.TheVariants.{Full}
use Rattle.answers.proofs.PairLaws.{refusal-number}
use Rattle.image.specs.Steps.ImageReads.{Whole}
use Rattle.image.proofs.ImageReadLaws.{whole-sized, whole-alike}
use Rattle.tails.specs.Steps.Openings.{header_of}
use Rattle.tails.proofs.PartLaws.{body-part}
use Rattle.listing.specs.Steps.Listings.{members_in}
use Rattle.listing.proofs.ListingLaws.{members-at, members-range}
use Rattle.spill.specs.Steps.Settling.{reached}
use Rattle.spill.proofs.SpillSteps.{reached-all, reached-full, then-on, then-full}
use Rattle.joining.specs.Steps.Joins.{Checked, Sources, Merging, joined, both_inserted}
use Rattle.joining.proofs.CheckedImages.{Known, checked-of, members-known}
use Rattle.merging.specs.Steps.Targets.{Told, anew, fresh_form, both_merged, MergesInto}

-- ---- the tails of the sources

-- the bodies of two images of one size end at the same byte
pub same_end : {B : ℕ} (a b : List ℕ) → Whole B (body a) → Whole B (body b) → length a - 64 ≡ length b - 64
same_end a b p q = sym (length-body a) ∙ p.long ∙ sym q.long ∙ length-body b

module _ (B : ℕ) (img : List ℕ) {total changes : ℕ} (tail : headed known B img ≡ accepted (header_of B total changes)) where
  pub told_of : {end : ℕ} → end ≡ length img - 64 → Whole B (body img) → Told layout1 B total (take end img)
  told_of e w = record { whole = rw (body-part img e) w; most = (headed-parts known B img _ tail).most }

  pub mark-of : mark_of img ≡ 1
  mark-of = sym (headed-parts known B img _ tail).number

-- ---- from front bucket to front bucket

module _ (L : Layout) (B n f : ℕ) (a b img : List ℕ) where
  merge_on : f < n → members_at L B f a ≡ accepted (members_in L B f a) → members_at L B f b ≡ accepted (members_in L B f b)
      → merge_from L B (n - f) f a b img ≡ and_then (both_inserted L B f a b img) (merge_from L B (n - (f + 1)) (f + 1) a b)
  unfolding merge_from joined
  merge_on l p q =
      let e : n - f ≡ suc (n - (f + 1)) = omega arith in
      rw (e, p, q, add-one f)
      (sym (and_then-and_then (insert_all L B f (members_in L B f a) img) (insert_all L B f (members_in L B f b)) (merge_from L B (n - suc f) (suc f) a b)))

  merge-end : n ≤ f → merge_from L B (n - f) f a b img ≡ accepted img
  unfolding merge_from
  merge-end l = let e : n - f ≡ 0 = omega arith in rw e

-- front buckets from f on hold nothing
abbrev Untouched : Layout → ℕ → ℕ → List ℕ → Type 0
Untouched L B f img = (e y : ℕ) → f ≤ e → e < fronts B → total L B e y img ≡ 0

untouched-front : (L : Layout) (B f : ℕ) (img : List ℕ) → f < fronts B → Untouched L B f img → in_front L f img ≡ []
untouched-front L B f img h u = copies-none (in_front L f img) (λ y. omega (arith, u f y (omega arith) h))

-- a target that took front bucket f of both is good, and untouched past f
both-good : {L : Layout} → Fits64 L → {B f : ℕ} (a b img : List ℕ) {now : List ℕ} → f < fronts B → Below (keys L) (members_in L B f a)
    → Below (keys L) (members_in L B f b) → Good L B img → Untouched L B f img → both_inserted L B f a b img ≡ accepted now
    → Good L B now × Untouched L B (f + 1) now
unfolding joined
both-good {L} fits {B} {f} a b img {now} h range-a range-b good u e = go (insert_all L B f (members_in L B f a) img) refl e
  where
    go : (r : Result (List ℕ)) → insert_all L B f (members_in L B f a) img ≡ r → and_then r (insert_all L B f (members_in L B f b)) ≡ accepted now
        → Good L B now × Untouched L B (f + 1) now
    go (accepted i) p q =
        let x = insert_all-good L fits B f h (members_in L B f a) img good range-a p in
        let y = insert_all-good L fits B f h (members_in L B f b) i x.0 range-b q in
        (y.0, λ d z l k. y.1.elsewhere d z k (omega arith) ∙ x.1.elsewhere d z k (omega arith) ∙ u d z (omega arith) k)
    go (refused n i) p q = absurd (never-refused (sym q))

-- the front buckets of a and b below f are in the target, which was `old`, the others of it are untouched, and what is left is to merge from f on
pub record Reaching (L : Layout) (B : ℕ) (a b old : List ℕ) (f : ℕ) (target : List ℕ) : Type 0 where
  pub upto : f ≤ fronts B
  pub same : length target ≡ length old
  pub good : Good L B target
  pub untouched : Untouched L B f target
  pub bytes : (i : ℕ) → get_or target i 0 < 256
  pub rest : merge_from L B (fronts B) 0 a b old ≡ merge_from L B (fronts B - f) f a b target

pub fronts-start : {L : Layout} → Fits64 L → {B : ℕ} {a b old : List ℕ} → Sources L B a b → old ≡ empty_image L B → ((i : ℕ) → get_or old i 0 < 256)
    → Reaching L B a b old 0 old
fronts-start {L} fits {B} s e bytes = record {
  upto = omega arith;
  same = refl;
  good = rw e (empty-good L fits B s.first.size.some s.first.size.small);
  untouched = λ f y l k. rw e (empty-total L fits B f y k);
  bytes = bytes;
  rest = rw sub-zero;
}

module _ {L : Layout} {B : ℕ} {a b old : List ℕ} {f : ℕ} {target : List ℕ} (r : Reaching L B a b old f target) where
  pub fronts-merging : f < fronts B → Sources L B a b → Merging L B f a b target
  fronts-merging h s =
      record { from = s; into = record { checked = checked-of r.good; front = h; empty = untouched-front L B f target h r.untouched } }

  pub fronts-end : fronts B ≤ f → accepted target ≡ merge_from L B (fronts B) 0 a b old
  fronts-end h = sym (r.rest ∙ merge-end L B (fronts B) f a b target h)

  -- front bucket f of both went in, or not
  module _ (first : Known L B a) (second : Known L B b) (h : f < fronts B) (t : Bool) (now : List ℕ)
      (told : reached t now ≡ both_inserted L B f a b target) where
    left : merge_from L B (fronts B) 0 a b old
        ≡ and_then (both_inserted L B f a b target) (merge_from L B (fronts B - (f + 1)) (f + 1) a b)
    left = r.rest ∙ merge_on L B (fronts B) f a b target h (members-at (members-known first h)) (members-at (members-known second h))

    pub fronts-full : t ≡ false → refused 4 0 ≡ merge_from L B (fronts B) 0 a b old
    fronts-full e = sym (left ∙ then-full t now (merge_from L B (fronts B - (f + 1)) (f + 1) a b) told e)

    pub fronts-on : Fits64 L → t ≡ true → length now ≡ length target → ((i : ℕ) → get_or now i 0 < 256) → Reaching L B a b old (f + 1) now
    fronts-on fits e l bytes =
        let p = members-range (members-known first h) in
        let q = members-range (members-known second h) in
        let g = both-good fits a b target h p q r.good r.untouched (reached-all t now told e) in
        record {
          upto = omega arith;
          same = l ∙ r.same;
          good = g.0;
          untouched = g.1;
          bytes = bytes;
          rest = left ∙ then-on t now (merge_from L B (fronts B - (f + 1)) (f + 1) a b) told e;
        }

-- ---- what is left of the target

-- by the number of a layout
module _ (layouts : Numbering) {L : Layout} (n : ℕ) (there : layouts n ≡ some L) where
  -- what a fresh makes of an image
  pub fresh-whole : {B : ℕ} (img : List ℕ) → Whole B (body img) → written (fresh_of layouts n img) img ≡ fresh_form L n B
  unfolding fresh_of
  fresh-whole img w = rw (whole-sized w, there)

  -- and it is not refused
  pub fresh-taken : {B : ℕ} (img : List ℕ) (why : Refusal) → Whole B (body img) → outcome_of (S.Err why) ≡ blank (fresh_of layouts n img) → ⊥
  unfolding fresh_of
  fresh-taken img why w e = let z : number (refusal {A = Unit {0}} why) ≡ 0 = rw (whole-sized w, there) at (ap number e) in omega (arith, refusal-number (Unit {0}) why)

  -- the target of a merge, by the layout of the first source and by the target's size
  pub target_left : (B : ℕ) (a old : List ℕ) → mark_of a ≡ n → Whole B (body old) → (m : Result (List ℕ))
      → target_of layouts a m old ≡ left_of (fresh_form L n B) m old
  target_left B a old e w m = rw (e, fresh-whole old w)

-- a merge of two images whose tails were read is that of their bodies
pub merged-left : (B : ℕ) (a b old : List ℕ) {t s u v : ℕ} {r : S.Result (Unit {0}) Refusal} {new : List ℕ} → headed known B a ≡ accepted (header_of B t u)
    → headed known B b ≡ accepted (header_of B s v) → Whole B (body old)
    → MergesInto layout1 1 B (merged_by (header_of B t 0) (header_of B s 0) (body a) (body b)) old r new
    → Leaves (merge_sized_of known B a b) (target_of known a (merge_sized_of known B a b) old) r new
unfolding merge_sized_of merged_by checked_by
merged-left B a b old p q w m = rw (target_left known 1 refl B a old (mark-of B a p) w (merge_sized_of known B a b), p, q) m

-- a target has the size that it had, once its body was written
pub still-whole : {B : ℕ} (old now : List ℕ) → Whole B (body old) → length now ≡ length old - 64 → Whole B (body (now ++ drop (length old - 64) old))
still-whole old now w e =
    let end = length old - 64 in
    whole-alike (omega (arith, length-body (now ++ drop end old), length-append now (drop end old), length-drop end old, length-body old)) w

-- the body took all, or was full on the way
module _ (L : Layout) (n B total : ℕ) (a b old : List ℕ) (t : Bool) (now : List ℕ)
    (told : reached t now ≡ merge_from L B (fronts B) 0 a b (empty_image L B)) where
  pub fill-accepted : t ≡ true → {new : List ℕ} → new ≡ anew L n total now → MergesInto L n B (both_merged L n B total a b) old (S.Ok tt) new
  fill-accepted e p = rw (reached-all t now told e) record { answer = refl; bytes = p }

  pub fill-full : t ≡ false → {new : List ℕ} → new ≡ fresh_form L n B → MergesInto L n B (both_merged L n B total a b) old (S.Err Full) new
  fill-full e p = rw (reached-full t now told e) record { answer = refl; bytes = p }

-- ---- what check refuses

-- with another number than 4: 3, 8 and 12 are
abbrev NotFull : Result (Unit {0}) → Type 0
NotFull r = (n i : ℕ) → r ≡ refused n i → eqb n 4 ≡ false

unless-found : (o : Option ℕ) (m : ℕ) (k : Result (Unit {0})) → eqb m 4 ≡ false → NotFull k → NotFull (unless o m k)
unless-found none m k p q n i e = q n i e
unless-found (some j) m k p q n i e = let s : m ≡ n = cc in rw (← s) p

then-tested : (r : Result (Unit {0})) (t : Bool) → NotFull r → NotFull (and_then r (λ _. cond t (accepted tt) (refused 12 0)))
then-tested (accepted u) true p n i e = absurd (never-refused e)
then-tested (accepted u) false p n i e = let s : 12 ≡ n = cc in rw (← s)
then-tested (refused m j) t p n i e = p n i e

check-number : (h : Header) (b : List ℕ) → NotFull (checked_by h b)
unfolding checked_by check_sized
check-number h b =
    let L = h.layout in
    let B = h.size in
    then-tested _ (eqb h.tail.total (members L B b))
    (unless-found (unsound_front L (fronts B) 0 b) 3 _ refl
    (unless-found (unsound_back L B (backyards B) 0 b) 3 _ refl
    (unless-found (early L B (backyards B) 0 b) 8 (accepted tt) refl (λ n i e. absurd (never-refused e)))))

-- a refused check ends the merge, and the target is kept
pub check-refuses : (h : Header) (b fresh old : List ℕ) {why : Refusal} (k : Unit {0} → Result (List ℕ)) → checked_by h b ≡ refusal why
    → Leaves (and_then (checked_by h b) k) (left_of fresh (and_then (checked_by h b) k) old) (S.Err why) old
check-refuses h b fresh old {why} k e =
    let w = numbered why in
    rw e record { answer = refl; bytes = rw (check-number h b w.0 w.1 e) }

-- a body that passes was checked
pub checked-body : (h : Header) (b : List ℕ) → checked_by h b ≡ accepted tt → Whole h.size b → Checked h.layout h.size b
checked-body h b e w = record { size = w; passed = (checked-parts h b e).sound }
