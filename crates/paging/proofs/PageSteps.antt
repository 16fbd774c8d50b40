-- A run of front buckets, for any layout: its entries, how it is measured bucket by bucket, and how it is written.
-- Main results: `measured-start`, `-on`, `-stop`, `-end`, `-unsound`, the turns of a measured run; `bucket-room` and `bucket-written`, the turns of
-- a run that is written; `page-unsound`, `page-no-room`, `page-written`, the endings of a page.
use mathlib.Core.Path.{◌≡◌, refl, sym, ◌∙◌, ap}
use Prim.Native.Nat.{ℕ, zero, suc, ◌+◌, ◌-◌, ◌≤◌, ◌<◌}
use mathlib.Core.Bool.{Bool, true, false, ◌&&◌}
use mathlib.Core.List.{List, [], ◌++◌, map, append_assoc, append-nil}
use native.Mathlib.Numerals.{add-one}
use native.Mathlib.Omega.{arith}
use lib.ListN.{length, take, drop, length-append, length-drop, length-map}
use lib.Seq.{take_all}
use lib.Dec.{ltb, eqb}
use borrow.Author.Tests.{ltb-true, ltb-false, lt-ltb, le-ltb, le-leb, lt-leb, eq-eqb, eqb-true}
use borrow.Rule.Slice.PartMut.{put_mid}
use Rattle.crumbmap.specs.Layouts.{Layout, fronts}
use Rattle.crumbmap.specs.Fingerprints.{fingerprint}
use Rattle.machine.specs.Results.{Result, accepted, refused}
use Rattle.machine.specs.Machine.{members_at}
use Rattle.machine.specs.Pages.{Run, stopped, prepended, run_from, page_from}
use Rattle.answers.specs.Answers.{Writes}
use Rattle.answers.specs.declared.Refusal.TheVariants.{Unsound, NoRoom}
use Rattle.std.specs.Prelude as S
use Rattle.image.specs.Steps.ImageReads.{Whole}
use Rattle.image.specs.Steps.Listed.{Listed}
use Rattle.image.proofs.ListedLaws.{listed_same, listed-joined}
use Rattle.listing.specs.Steps.Listings.{members_in, MembersRead}
use Rattle.paging.specs.Steps.PageRuns.{entries_in, Ran}
use Rattle.listing.proofs.ListingLaws.{members-at}

-- ---- entries

-- put before a run
prepended-nil : (r : Result Run) → prepended [] r ≡ r
prepended-nil (accepted s) = refl
prepended-nil (refused n i) = refl

prepended-append : (gs hs : List ℕ) (r : Result Run) → prepended gs (prepended hs r) ≡ prepended (gs ++ hs) r
prepended-append gs hs (accepted s) = rw append_assoc
prepended-append gs hs (refused n i) = refl

module _ (L : Layout) (B : ℕ) (img : List ℕ) where
  -- n buckets from s are a of them and then b from t
  entries-split : (a b n s t : ℕ) → n ≡ a + b → t ≡ s + a → entries_in L B n s img ≡ entries_in L B a s img ++ entries_in L B b t img
  unfolding entries_in
  entries-split zero b n s t e k = let p : n ≡ b = omega arith in let q : t ≡ s = omega arith in rw (p, q)
  entries-split (suc a) b zero s t e k = absurd (omega arith)
  entries-split (suc a) b (suc n) s t e k =
      rw (entries-split a b n (suc s) t (omega arith) (omega arith)) (sym (append_assoc (map (fingerprint L s) (members_in L B s img)) _ _))

  entries_next : (s f : ℕ) → s ≤ f
      → entries_in L B (f + 1 - s) s img ≡ entries_in L B (f - s) s img ++ map (fingerprint L f) (members_in L B f img)
  entries_next s f h =
      entries-split (f - s) 1 (f + 1 - s) s f (omega arith) (omega arith)
      ∙ ap (λ (l : List ℕ). entries_in L B (f - s) s img ++ l) (unfold entries_in in append-nil (map (fingerprint L f) (members_in L B f img)))

  -- the turns of a run at bucket f, n of them left behind it
  module _ (n f left : ℕ) where
    run_on : MembersRead L B f img → length (members_in L B f img) ≤ left
        → run_from L B (suc n) f left img
        ≡ prepended (map (fingerprint L f) (members_in L B f img)) (run_from L B n (suc f) (left - length (members_in L B f img)) img)
    unfolding run_from
    run_on r h = rw (members-at r, le-leb (length (members_in L B f img)) left h)

    run-stop : MembersRead L B f img → left < length (members_in L B f img) → run_from L B (suc n) f left img ≡ stopped f
    unfolding run_from
    run-stop r h = rw (members-at r, lt-leb (length (members_in L B f img)) left h)

    run-unsound : (i : ℕ) → members_at L B f img ≡ refused 3 i → run_from L B (suc n) f left img ≡ refused 3 i
    unfolding run_from
    run-unsound i e = rw e

-- ---- a run that is measured

-- the run from s is measured up to bucket f, and `left` of its room remains
pub record Measured (L : Layout) (B s end room : ℕ) (img : List ℕ) (f left : ℕ) : Type 0 where
  pub from : s ≤ f
  pub upto : f ≤ end
  pub sound : (g : ℕ) → s ≤ g → g < f → MembersRead L B g img
  pub remains : left + length (entries_in L B (f - s) s img) ≡ room
  pub rest : run_from L B (end - s) s room img ≡ prepended (entries_in L B (f - s) s img) (run_from L B (end - f) f left img)

pub measured-start : (L : Layout) (B s end room : ℕ) (img : List ℕ) → s ≤ end → Measured L B s end room img s room
unfolding entries_in
measured-start L B s end room img h =
    let e : s - s ≡ 0 = omega arith in
    record {
      from = omega arith;
      upto = h;
      sound = λ g l u. absurd (omega arith);
      remains = rw e (omega arith);
      rest = rw e (sym (prepended-nil (run_from L B (end - s) s room img)));
    }

module _ {L : Layout} {B s end room : ℕ} {img : List ℕ} {f left : ℕ} (m : Measured L B s end room img f left) where
  stops : Whole B img → run_from L B (end - f) f left img ≡ stopped f → Ran L B s end room img f
  stops i e = record {
    image = i;
    from = m.from;
    upto = m.upto;
    sound = m.sound;
    fits = omega (arith, m.remains);
    runs = m.rest ∙ rw (e, append-nil);
  }

  pub measured-end : Whole B img → end ≤ f → Ran L B s end room img end
  unfolding run_from
  measured-end i h =
      let k : end - f ≡ 0 = omega arith in
      let e : f ≡ end = omega (arith, m.upto) in
      rw e at (stops i (rw k))

  module _ (h : f < end) where
    more : end - f ≡ suc (end - suc f)
    more = omega arith

    pub measured-stop : Whole B img → MembersRead L B f img → left < length (members_in L B f img) → Ran L B s end room img f
    measured-stop i r l = stops i (rw more (run-stop L B img (end - suc f) f left r l))

    pub measured-unsound : {i : ℕ} → members_at L B f img ≡ refused 3 i → run_from L B (end - s) s room img ≡ refused 3 i
    measured-unsound {i} e = m.rest ∙ rw (more, run-unsound L B img (end - suc f) f left i e)

    pub measured-on : MembersRead L B f img → length (members_in L B f img) ≤ left
        → Measured L B s end room img (f + 1) (left - length (members_in L B f img))
    measured-on r l =
        let e = entries_next L B img s f m.from in
        let gs = map (fingerprint L f) (members_in L B f img) in
        let k : length gs ≡ length (members_in L B f img) = length-map (members_in L B f img) (fingerprint L f) in
        record {
          from = omega (arith, m.from);
          upto = omega arith;
          sound = λ g a u. go g a u (ltb g f) refl;
          remains = rw (e, length-append (entries_in L B (f - s) s img) gs, k) (omega (arith, m.remains));
          rest =
              m.rest ∙ rw (more, run_on L B img (end - suc f) f left r l)
              (prepended-append (entries_in L B (f - s) s img) gs (run_from L B (end - suc f) (suc f) (left - length (members_in L B f img)) img)
              ∙ rw (e, add-one f));
        }
      where
        go : (g : ℕ) → s ≤ g → g < f + 1 → (b : Bool) → ltb g f ≡ b → MembersRead L B g img
        go g a u true e = m.sound g a (ltb-true g f e)
        go g a u false e = let k : g ≡ f = omega (arith, ltb-false g f e) in rw k r

-- ---- a measured run that is written

-- its buckets up to f are written over `old`, n entries
pub record Written (L : Layout) (B s next : ℕ) (img old out : List ℕ) (f n : ℕ) : Type 0 where
  pub from : s ≤ f
  pub upto : f ≤ next
  pub few : n ≤ length old
  pub same : length out ≡ length old
  pub entries : Listed (entries_in L B (f - s) s img) old n out

pub written_start : (L : Layout) (B s next : ℕ) (img old : List ℕ) → s ≤ next → Written L B s next img old old s 0
unfolding entries_in
written_start L B s next img old h =
    let e : s - s ≡ 0 = omega arith in
    record { from = omega arith; upto = h; few = omega arith; same = refl; entries = rw e (record { many = refl; stands = refl }) }

run_room : {L : Layout} {B s end room next : ℕ} {img : List ℕ} → Ran L B s end room img next → (f : ℕ) → s ≤ f → f < next
    → length (entries_in L B (f - s) s img) + length (members_in L B f img) ≤ room
run_room {L} {B} {s} {end} {room} {next} {img} r f h k =
    let gs = map (fingerprint L f) (members_in L B f img) in
    omega (
      arith,
      r.fits,
      ap length (entries-split L B img (f + 1 - s) (next - (f + 1)) (next - s) s (f + 1) (omega arith) (omega arith)),
      length-append (entries_in L B (f + 1 - s) s img) (entries_in L B (next - (f + 1)) (f + 1) img),
      ap length (entries_next L B img s f h),
      length-append (entries_in L B (f - s) s img) gs,
      length-map (members_in L B f img) (fingerprint L f),
    )

-- its next bucket fits, and is written
module _ {L : Layout} {B s end next n f : ℕ} {img old out : List ℕ} (r : Ran L B s end (length old) img next) (w : Written L B s next img old out f n)
    (k : f < next) where
  pub bucket-room : length (members_in L B f img) ≤ length (take (length out - n) (drop n out))
  bucket-room =
      rw (take_all (length out - n) (drop n out) (omega (arith, length-drop n out)))
      (omega (arith, length-drop n out, run_room r f w.from k, w.entries.many, w.same))

  pub bucket-written : {m : ℕ} {last : List ℕ} → Listed (map (fingerprint L f) (members_in L B f img)) (take (length out - n) (drop n out)) m last
      → Written L B s next img old (put_mid n (length out - n) out last) (f + 1) (n + m)
  bucket-written {m} l =
      let fits : n + m ≤ length old =
      omega (arith, run_room r f w.from k, w.entries.many, l.many, length-map (members_in L B f img) (fingerprint L f)) in
      let j = listed-joined w.entries w.same l in
      record {
        from = omega (arith, w.from);
        upto = omega arith;
        few = fits;
        same = listed_same j fits;
        entries = rw (entries_next L B img s f w.from) j;
      }

-- ---- a page

-- a run that moved on, or began at the end
pub moves : (next s F : ℕ) → (next ≡ s → s < F → ⊥) → eqb next s && ltb s F ≡ false
moves next s F h = go (eqb next s) (ltb s F) refl refl
  where
    go : (a b : Bool) → eqb next s ≡ a → ltb s F ≡ b → a && b ≡ false
    go true true e d = absurd (h (eqb-true next s e) (ltb-true s F d))
    go true false e d = refl
    go false b e d = refl

-- a page from bucket s, by what measuring said: an unsound bucket, no room for s, or a run that was written
module _ (L : Layout) (B s : ℕ) (img old : List ℕ) (inside : s ≤ fronts B) where
  pub page-unsound : {i : ℕ} → run_from L B (fronts B - s) s (length old) img ≡ refused 3 i
      → Writes (page_from L B s (length old) img) old (S.Err (Unsound i)) old
  unfolding page_from
  page-unsound e = rw (le-ltb (fronts B) s inside, e) (record { answer = refl; bytes = refl })

  pub page-no-room : {next : ℕ} → Ran L B s (fronts B) (length old) img next → next ≡ s → s < fronts B
      → Writes (page_from L B s (length old) img) old (S.Err NoRoom) old
  unfolding page_from
  page-no-room {next} r e h =
      rw (le-ltb (fronts B) s inside, r.runs, eq-eqb next s e, lt-ltb s (fronts B) h) (record { answer = refl; bytes = refl })

  pub page-written : {next n : ℕ} {new : List ℕ} → Ran L B s (fronts B) (length old) img next → eqb next s && ltb s (fronts B) ≡ false
      → Listed (entries_in L B (next - s) s img) old n new → Writes (page_from L B s (length old) img) old (S.Ok (record { entries = n; next = next })) new
  unfolding page_from
  page-written {next} r h l =
      rw (le-ltb (fronts B) s inside, r.runs, h)
      (record { answer = ap (λ (k : ℕ). accepted (k, next)) l.many; bytes = rw l.many at l.stands })
