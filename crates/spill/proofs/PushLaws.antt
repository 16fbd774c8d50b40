-- Keys put behind a front bucket whose two backyard buckets were read, for any layout: both stay readable when the front bucket or one of them is
-- written, and a push is what the taker of its key says.
-- Main results: `backyard-filled`; `push-stuck`, `push-to` and `push-keeps`.
use mathlib.Core.Path.{◌≡◌, sym, ◌∙◌, ap}
use Prim.Native.Nat.{ℕ, ◌+◌, ◌*◌, ◌≤◌, ◌<◌}
use mathlib.Core.Bool.{Bool, true, false}
use mathlib.Core.List.{List, [], ◌∷◌}
use mathlib.Core.Option.{none, some}
use native.Mathlib.Omega.{arith}
use native.Mathlib.Decide.{ℕ_discrete}
use lib.ListN.{length}
use Rattle.multiset.specs.Multisets.{added}
use Rattle.crumbmap.specs.Layouts.{Layout, keys, fronts}
use Rattle.crumbmap.specs.CrumbMap.{first_bucket, second_bucket, bucket_of, crumb_of}
use Rattle.crumbmap.specs.Steps.Places.{Leads}
use Rattle.crumbmap.specs.declared.Overflow.{Overflow}
use Rattle.buckets.specs.Buckets.{Fits64, back_list, FrontList, BackList}
use Rattle.buckets.proofs.BucketLaws.{length-back_bytes, back_members-back_bytes, back_list-members}
use Rattle.machine.specs.Results.{accepted, refused}
use Rattle.machine.specs.Images.{bucket_at, back_at, in_back, put_front, put_back}
use Rattle.machine.specs.Machine.{taker, take_in}
use Rattle.machine.specs.Steps.Spills.{push_all}
use Rattle.machine.proofs.BucketWrites.{length-put_front, length-put_back, bucket_at-put_back, bucket_at-put_back-other}
use Rattle.machine.proofs.ChoiceLaws.{chosen-allowed}
use Rattle.machine.proofs.Members.{in_back-choice, back_list-added}
use Rattle.machine.proofs.TakeLaws.{taker-fewer, push_at-read}
use Rattle.machine.proofs.SpillLaws.{push_all-one}
use Rattle.image.specs.Steps.ImageReads.{BackIn, BackRead}
use Rattle.image.proofs.ImageReadLaws.{whole-alike, front-in, both-accepts, chosen-read, chosen-way}
use Rattle.image.proofs.ImageWriteLaws.{back-kept}
use Rattle.insertion.proofs.TakerLaws.{taker-room}
use Rattle.listing.specs.Steps.Listings.{BackyardRead}
use Rattle.spill.specs.Steps.Settling.{Joinable}

-- ---- both backyard buckets after a write

-- backyard bucket j written
module _ {L : Layout} (fits : Fits64 L) {B j : ℕ} {img : List ℕ} (within : BackIn B j img) (ys : List ℕ) (list : BackList L B j ys) where
  abbrev now : List ℕ
  now = put_back L B j ys img

  length-now : length now ≡ length img
  length-now = length-put_back L fits B j ys img within.inside list

  inside-now : {k : ℕ} → BackIn B k img → BackIn B k now
  inside-now w = record { small = w.small; bucket = w.bucket; inside = rw length-now w.inside }

  back-put : BackRead L B j now
  unfolding back_at
  back-put =
      let at = bucket_at-put_back L fits B j ys img within.inside list in
      let members = back_members-back_bytes L fits B j ys list in
      let listed = back_list-members L B j _ ys members in record {
        within = inside-now within;
        accepts = rw (at, listed, members);
        sound = rw at (record { size = B; bucket = j; long = length-back_bytes L fits ys list.room; sound = rw listed members });
        list = rw (at, listed) list;
      }

  back-other : {k : ℕ} → (k ≡ j → ⊥) → BackRead L B k img → BackRead L B k now
  unfolding back_at
  back-other {k} n r =
      let e = bucket_at-put_back-other L fits B j ys img within.inside list (fronts B + k) (λ p. n (omega arith)) in record {
        within = inside-now r.within;
        accepts = rw e r.accepts;
        sound = rw e r.sound;
        list = rw e r.list;
      }

  back-still : {k : ℕ} → BackRead L B k img → BackRead L B k now
  back-still {k} r = elim (ℕ_discrete k j) [ yes p ↦ rw p back-put | no n ↦ back-other n r ]

  backyard-put : {f : ℕ} → BackyardRead L B f img → BackyardRead L B f now
  backyard-put r = record {
    within = record { whole = whole-alike length-now r.within.whole; front = r.within.front };
    both = record { first = back-still r.both.first; second = back-still r.both.second };
  }

-- the front bucket written
pub backyard-filled : {L : Layout} → Fits64 L → {B f : ℕ} {img now : List ℕ} (zs : List ℕ) → FrontList L zs → BackyardRead L B f img
    → now ≡ put_front L f zs img → BackyardRead L B f now
backyard-filled {L} fits {B} {f} {img} zs list r e =
    let inside = front-in r.within in
    let h = r.within.front in
    rw e record {
      within = record { whole = whole-alike (length-put_front L fits f zs img inside list) r.within.whole; front = h };
      both = record {
        first = back-kept fits f zs img inside list B (first_bucket f) h r.both.first;
        second = back-kept fits f zs img inside list B (second_bucket B f) h r.both.second;
      };
    }

-- ---- a push

-- both backyard buckets of f were read, and hold n0 and n1 members
pub record Holding (L : Layout) (B f : ℕ) (img : List ℕ) (n0 n1 : ℕ) : Type 0 where
  pub read : BackyardRead L B f img
  pub first : n0 ≡ length (in_back L B (first_bucket f) img)
  pub second : n1 ≡ length (in_back L B (second_bucket B f) img)

-- counted in lent bytes, which are those of the buckets that the choices lead to
pub holding : {L : Layout} {B f n0 n1 : ℕ} {img p q : List ℕ} {w v : Overflow} → BackyardRead L B f img → Leads true B f w → Leads false B f v
    → p ≡ bucket_at (fronts B + w.bucket.0) img → n0 ≡ length (back_list L p)
    → q ≡ bucket_at (fronts B + v.bucket.0) img → n1 ≡ length (back_list L q) → Holding L B f img n0 n1
holding {L} {B} {f} {n0} {n1} {img} r x y d i e k =
    let held : List ℕ → ℕ = λ b. length (back_list L b) in
    let many : ℕ → ℕ = λ j. length (in_back L B j img) in
    record { read = r; first = i ∙ ap held d ∙ ap many x.bucket; second = k ∙ ap held e ∙ ap many y.bucket }

module _ {L : Layout} {B f n0 n1 : ℕ} {img : List ℕ} (h : Holding L B f img n0 n1) where
  pub holding-few : (n0 ≤ L.back_slots) × (n1 ≤ L.back_slots)
  holding-few = (omega (arith, h.first, h.read.both.first.list.room), omega (arith, h.second, h.read.both.second.list.room))

  pub push-stuck : (v : ℕ) → taker L n0 n1 ≡ none → refused 4 0 ≡ push_all L B f (v ∷ []) img
  unfolding take_in
  push-stuck v e =
      sym (rw (push_all-one L B f v img, push_at-read L B f v img _ _ (both-accepts h.read.both), ← h.first, ← h.second, e))

  taker-left : (t : Bool) → taker L n0 n1 ≡ some t → length (in_back L B (bucket_of t B f) img) < L.back_slots
  taker-left true e = omega (arith, h.first, taker-room L n0 n1 holding-few.0 holding-few.1 true e)
  taker-left false e = omega (arith, h.second, taker-room L n0 n1 holding-few.0 holding-few.1 false e)

  -- the key joins the backyard bucket of choice t
  module _ (v : ℕ) (t : Bool) {w : Overflow} (leads : Leads t B f w) (e : taker L n0 n1 ≡ some t) where
    abbrev after : List ℕ
    after = put_back L B w.bucket.0 (added (v * 16 + w.crumb) (in_back L B w.bucket.0 img)) img

    pub push-to : accepted after ≡ push_all L B f (v ∷ []) img
    unfolding take_in
    push-to =
        sym (rw (
          push_all-one L B f v img,
          push_at-read L B f v img _ _ (both-accepts h.read.both),
          ← h.first,
          ← h.second,
          e,
          in_back-choice L B f img t,
          leads.bucket,
          leads.crumb,
        ))

    pub push-joinable : v < keys L → Joinable L B w v img
    push-joinable k = record { read = chosen-way h.read.both t leads; room = rw leads.bucket (taker-left t e); crumb = leads.small; key = k }

    pub push-keeps : Fits64 L → v < keys L → BackyardRead L B f after
    push-keeps fits k =
        let here : BackRead L B (bucket_of t B f) img = chosen-read h.read.both t in
        let ys : List ℕ = in_back L B (bucket_of t B f) img in
        let fewer = rw (h.first, h.second) at (taker-fewer L n0 n1 t e) in
        let ours = chosen-allowed B f (λ (j : ℕ). length (in_back L B j img)) t fewer in
        let list = back_list-added L B f v t ys here.list h.read.within.front ours k (taker-left t e) in
        rw (leads.bucket, leads.crumb) (backyard-put fits here.within (added (v * 16 + crumb_of t f) ys) list h.read)
