-- What the steps of a call hand on, for any layout: a hash's target fits its image, its buckets lie in it, and what a bucket that was read says
-- of the machine.
use mathlib.Core.Path.{◌≡◌, refl, sym, ◌∙◌}
use Prim.Native.Nat.{ℕ, zero, suc, ◌+◌, ◌*◌, ◌-◌, ◌≤◌, ◌<◌}
use mathlib.Core.Bool.{Bool, true, false}
use mathlib.Core.List.{List}
use mathlib.Core.Option.{Option, none, some}
use native.Mathlib.Omega.{arith}
use Rattle.std.specs.Prelude as S
use lib.ListN.{length}
use lib.Dec.{T}
use Rattle.multiset.specs.Multisets.{below, copies, largest, ascending}
use Rattle.multiset.proofs.MultisetLaws.{below-copies}
use Rattle.multiset.proofs.OrderLaws.{copies-largest, largest-max}
use Rattle.multiset.proofs.SlotLaws.{slot-inside, slot-holds, holds-copy, largest-at}
use Rattle.crumbmap.specs.Layouts.{Layout, keys, backyards}
use Rattle.crumbmap.specs.Fingerprints.{front_of, key_of}
use Rattle.crumbmap.specs.CrumbMap.{first_bucket, second_bucket, bucket_of}
use Rattle.crumbmap.specs.Steps.Places.{Leads}
use Rattle.crumbmap.specs.declared.Overflow.{Overflow}
use Rattle.buckets.specs.Buckets.{Fits64}
use Rattle.machine.specs.Results.{Result, accepted, refused}
use Rattle.machine.specs.Images.{size_of, back_at, in_front, in_back}
use Rattle.machine.specs.Machine.{backyard, ask_at}
use Rattle.machine.proofs.AskLaws.{ask_behind, ask-behind}
use Rattle.machine.proofs.ImageLaws.{size_of-some, size_of-length_of, front-inside, back_inside}
use Rattle.image.specs.Steps.ImageReads.{sizing, Locates, Whole, FrontIn, Placed, BackIn, At, FrontRead, BackRead, BothRead, Reads, ReadFor, FrontFull, Exceeds, BagRead}
use Rattle.image.specs.declared.Target.{Target}
use Rattle.image.specs.declared.BackReading.{BackReading}

-- ---- sizes and places

-- a size that was found, and that none was
pub size-some : (o : Option ℕ) {r : S.Option ℕ} {B : ℕ} → r ≡ sizing o → r ≡ S.Some B → o ≡ some B
size-some none e f = cc
size-some (some C) e f = cc

pub size_none : (o : Option ℕ) {r : S.Option ℕ} → r ≡ sizing o → r ≡ S.None → o ≡ none
size_none none e f = refl
size_none (some C) e f = cc

-- an image of size B is one whose length is B's
pub whole_of : {B : ℕ} (img : List ℕ) → size_of (length img) ≡ some B → Whole B img
whole_of {B} img e = let s = size_of-some (length img) B e in record { long = s.0; some = s.1; small = s.2 }

pub whole-sized : {B : ℕ} {img : List ℕ} → Whole B img → size_of (length img) ≡ some B
whole-sized {B} w = rw w.long (size_of-length_of B w.some w.small)

-- and so is another with as many bytes
pub whole-alike : {B : ℕ} {img now : List ℕ} → length now ≡ length img → Whole B img → Whole B now
whole-alike e w = record { long = e ∙ w.long; some = w.some; small = w.small }

-- its buckets lie in it
pub front-in : {B f : ℕ} {img : List ℕ} → FrontIn B f img → 64 * f + 64 ≤ length img
front-in {B} {f} p = rw p.whole.long (front-inside B f p.front)

pub back_in : {B j : ℕ} {img : List ℕ} → Whole B img → j < backyards B → BackIn B j img
back_in {B} {j} p h = record { small = p.small; bucket = h; inside = rw p.long (back_inside B j h) }

-- a call at a hash is the machine's call at the hash's target, which fits the image
module _ {L : Layout} {B k : ℕ} {t : Target} (l : Locates L B k t) where
  pub located : {A : Type 0} (g : ℕ → ℕ → ℕ → Result A) → g t.size t.front.0 t.key ≡ g B (front_of B k) (key_of L k)
  located g = rw (l.size, l.front, l.key)

  pub placed : {img : List ℕ} → Whole B img → Placed L t img
  placed w = record { within = record { whole = rw l.size w; front = rw l.size l.inside }; key = l.low }

-- ---- what was read

-- a backyard bucket that a choice leads to was read: it can be searched for its crumb
pub bag-read : {L : Layout} {t : Bool} {B f : ℕ} {w : Overflow} {img : List ℕ} → Leads t B f w → BackRead L B (bucket_of t B f) img → BagRead L B w img
bag-read leads r = record { read = rw leads.bucket r; crumb = leads.small }

-- a backyard bucket that was read for f's key was read for that key with its crumb
pub read-for : {L : Layout} {t : Bool} {B f x : ℕ} {img : List ℕ} {r : BackReading} → Reads L t B f x img r → x < keys L → ReadFor L B x r img
read-for s k = record {
  read = rw s.leads.bucket s.read;
  crumb = s.leads.small;
  key = k;
  rank = rw (s.leads.bucket, s.leads.crumb) s.rank;
}

-- b1 is unsound where b0 is sound
pub second-unsound : (L : Layout) (B f : ℕ) (img : List ℕ) {i : ℕ} → BackRead L B (first_bucket f) img → back_at L B (second_bucket B f) img ≡ refused 3 i
    → backyard L B f img ≡ refused 3 i
second-unsound L B f img r u = rw (r.accepts, u)

pub both_read : {L : Layout} {B f x : ℕ} {img : List ℕ} {a b : BackReading} → Reads L true B f x img a → Reads L false B f x img b → BothRead L B f img
both_read p q = record { first = p.read; second = q.read }

module _ {L : Layout} {B f : ℕ} {img : List ℕ} (both : BothRead L B f img) where
  pub both-accepts : backyard L B f img ≡ accepted (in_back L B (first_bucket f) img, in_back L B (second_bucket B f) img)
  both-accepts = rw (both.first.accepts, both.second.accepts)

  pub chosen-read : (t : Bool) → BackRead L B (bucket_of t B f) img
  chosen-read true = both.first
  chosen-read false = both.second

  pub chosen-way : (t : Bool) {w : Overflow} → Leads t B f w → BackRead L B w.bucket.0 img
  chosen-way t leads = rw leads.bucket (chosen-read t)

-- ---- a key and a front bucket

-- a key that exceeds the largest is not there
pub exceeds-absent : {L : Layout} {f x : ℕ} {img : List ℕ} → Exceeds L f x img → copies x (in_front L f img) ≡ 0
exceeds-absent {L} {f} {x} {img} e = go (copies x (in_front L f img)) (largest-max x (in_front L f img) e.whole.read.list.order)
  where
    go : (n : ℕ) → (0 < n → x ≤ largest (in_front L f img)) → n ≡ 0
    go zero h = refl
    go (suc n) h = absurd (omega (arith, h (omega arith), e.over))

-- its ask goes on behind the front bucket
pub ask-exceeds : {L : Layout} (B : ℕ) {f x : ℕ} {img : List ℕ} → Exceeds L f x img → ask_at L B f x img ≡ ask_behind L B f x img
ask-exceeds {L} B {f} {x} {img} e = ask-behind L B f x img (in_front L f img) e.whole.read.accepts (exceeds-absent e) e.whole.full e.over

-- a front bucket that was read and holds as many as its slots, or more, holds just as many
pub front-full : {L : Layout} {f n : ℕ} {img : List ℕ} → FrontRead L f img → length (in_front L f img) ≡ n → L.front_slots ≤ n → FrontFull L f img
front-full r e h = record { read = r; full = omega (arith, r.list.room, e) }

-- the largest of a full front bucket is a key in it, and stands at its last slot
module _ {L : Layout} (fits : Fits64 L) {f : ℕ} {img : List ℕ} (w : FrontFull L f img) where
  pub largest-key : (0 < copies (largest (in_front L f img)) (in_front L f img)) × (largest (in_front L f img) < keys L)
  largest-key =
      let xs = in_front L f img in
      let c = copies-largest xs (omega (arith, w.full, fits.slots)) in
      (c, below-copies (keys L) (largest xs) xs w.read.list.range c)

  pub last-at : At (largest (in_front L f img)) (L.front_slots - 1) (in_front L f img)
  last-at =
      let e : length (in_front L f img) ≡ suc (L.front_slots - 1) = omega (arith, w.full, fits.slots) in
      record { inside = omega (arith, e); same = sym (largest-at (in_front L f img) (L.front_slots - 1) e) }

-- a key at a slot is there; one that is there stands behind the members below it
pub at_copies : {x i : ℕ} {xs : List ℕ} → T (ascending xs) → At x i xs → 0 < copies x xs
at_copies {x} {i} {xs} a h = holds-copy x i xs a h.inside h.same

pub rank-at : {x i : ℕ} {xs : List ℕ} → T (ascending xs) → i ≡ below x xs → 0 < copies x xs → At x i xs
rank-at {x} {i} {xs} a e h = rw e (record { inside = slot-inside x xs a h; same = slot-holds x xs a h })
