-- What the steps of the calls ask and say of an image: its size, and a bucket that was read and found sound.
use Rattle.std.specs.Prelude.{◌≡◌, ℕ, ◌+◌, ◌*◌, ◌≤◌, ◌<◌, Bool, true, false, cond, List, length, get_or, eqb}
use Rattle.std.specs.Prelude as S
use Rattle.std.proofs.Math.Option.{Option, none, some}
use Rattle.multiset.specs.Multisets.{below, removed, largest}
use Rattle.crumbmap.specs.Layouts.{Layout, keys, fronts, backyards}
use Rattle.crumbmap.specs.Fingerprints.{front_of, key_of}
use Rattle.crumbmap.specs.CrumbMap.{first_bucket, second_bucket, bucket_of, crumb_of}
use Rattle.crumbmap.specs.Steps.Places.{Leads}
use Rattle.crumbmap.specs.declared.Overflow.{Overflow}
use Rattle.buckets.specs.Buckets.{front_bytes, FrontList, BackList}
use Rattle.minifilter.specs.Steps.Readings.{SoundFront, SoundBack}
use Rattle.minifilter.specs.declared.Reading.{Reading}
use Rattle.answers.specs.declared.UnsoundBucket.{UnsoundBucket}
use Rattle.machine.specs.Results.{accepted, refused}
use Rattle.machine.specs.Images.{length_of, bucket_at, front_at, back_at, in_front, in_back}
use Rattle.machine.specs.Machine.{backyard}
use Rattle.image.specs.declared.Target.{Target}
use Rattle.image.specs.declared.BackReading.{BackReading}

-- ---- where things stand, whatever the layout

-- a size, or none
abbrev pub sizing : Option ℕ → S.Option ℕ
sizing none = S.None
sizing (some B) = S.Some B

-- the bytes of an image of size B
pub record Whole (B : ℕ) (img : List ℕ) : Type 0 where
  pub long : length img ≡ length_of B
  pub some : 0 < B
  pub small : B ≤ 65536

-- an image of size B has a front bucket f
pub record FrontIn (B f : ℕ) (img : List ℕ) : Type 0 where
  pub whole : Whole B img
  pub front : f < fronts B

-- backyard bucket j of an image of size B lies in it
pub record BackIn (B j : ℕ) (img : List ℕ) : Type 0 where
  pub small : B ≤ 65536
  pub bucket : j < backyards B
  pub inside : 64 * (fronts B + j) + 64 ≤ length img

-- x stands at slot i of a list
pub record At (x i : ℕ) (xs : List ℕ) : Type 0 where
  pub inside : i < length xs
  pub same : get_or xs i 0 ≡ x

-- ---- what a hash names, and what was read

module _ (L : Layout) where
  -- what hash k names in an image of size B: its front bucket and its key
  pub record Locates (B k : ℕ) (t : Target) : Type 0 where
    pub size : t.size ≡ B
    pub front : t.front.0 ≡ front_of B k
    pub key : t.key ≡ key_of L k
    pub inside : t.front.0 < fronts B
    pub low : t.key < keys L

  -- a target that fits an image
  pub record Placed (t : Target) (img : List ℕ) : Type 0 where
    pub within : FrontIn t.size t.front.0 img
    pub key : t.key < keys L

  -- front bucket f was read and is sound
  pub record FrontRead (f : ℕ) (img : List ℕ) : Type 0 where
    pub inside : 64 * f + 64 ≤ length img
    pub accepts : front_at L f img ≡ accepted (in_front L f img)
    pub sound : SoundFront L (bucket_at f img)
    pub list : FrontList L (in_front L f img)
    pub same : front_bytes L (in_front L f img) ≡ bucket_at f img

  -- backyard bucket j of B was read and is sound
  pub record BackRead (B j : ℕ) (img : List ℕ) : Type 0 where
    pub within : BackIn B j img
    pub accepts : back_at L B j img ≡ accepted (in_back L B j img)
    pub sound : SoundBack L (bucket_at (fronts B + j) img)
    pub list : BackList L B j (in_back L B j img)

  -- what reading a bucket says: how many members, and how many of them are below x, or the refusal with its table number
  abbrev pub FrontSays : ℕ → ℕ → List ℕ → S.Result Reading UnsoundBucket → Type 0
  FrontSays f x img (S.Ok r) = FrontRead f img × (length (in_front L f img) ≡ r.members) × (r.below ≡ below x (in_front L f img))
  FrontSays f x img (S.Err i) = front_at L f img ≡ refused 3 i.0

  abbrev pub BackSays : ℕ → ℕ → ℕ → List ℕ → S.Result Reading UnsoundBucket → Type 0
  BackSays B j y img (S.Ok r) = BackRead B j img × (length (in_back L B j img) ≡ r.members) × (r.below ≡ below y (in_back L B j img))
  BackSays B j y img (S.Err i) = back_at L B j img ≡ refused 3 i.0

  -- both backyard buckets of f were read and are sound
  pub record BothRead (B f : ℕ) (img : List ℕ) : Type 0 where
    pub first : BackRead B (first_bucket f) img
    pub second : BackRead B (second_bucket B f) img

  -- f's backyard bucket of a choice was read and is sound: where it is, how many members it holds, and how many of them are below key x with
  -- the crumb that it carries there
  pub record Reads (t : Bool) (B f x : ℕ) (img : List ℕ) (r : BackReading) : Type 0 where
    pub leads : Leads t B f r.way
    pub read : BackRead B (bucket_of t B f) img
    pub many : length (in_back L B (bucket_of t B f) img) ≡ r.members
    pub rank : r.below ≡ below (x * 16 + crumb_of t f) (in_back L B (bucket_of t B f) img)

  -- the backyard bucket that w names was read, to be searched for the crumb of w
  pub record BagRead (B : ℕ) (w : Overflow) (img : List ℕ) : Type 0 where
    pub read : BackRead B w.bucket.0 img
    pub crumb : w.crumb < 16

  -- a backyard bucket was read for key x with a crumb that it may carry there
  pub record ReadFor (B x : ℕ) (r : BackReading) (img : List ℕ) : Type 0 where
    pub read : BackRead B r.way.bucket.0 img
    pub crumb : r.way.crumb < 16
    pub key : x < keys L
    pub rank : r.below ≡ below (x * 16 + r.way.crumb) (in_back L B r.way.bucket.0 img)

  -- what reading the backyard bucket at w says for key x: where it is, how many members it holds, and how many of them are below x with the crumb
  -- of w; or the refusal with its table number
  abbrev pub WaySays : ℕ → Overflow → ℕ → List ℕ → S.Result BackReading UnsoundBucket → Type 0
  WaySays B w x img (S.Ok r) =
      (r.way ≡ w) × BackRead B w.bucket.0 img × (length (in_back L B w.bucket.0 img) ≡ r.members)
      × (r.below ≡ below (x * 16 + w.crumb) (in_back L B w.bucket.0 img))
  WaySays B w x img (S.Err i) = back_at L B w.bucket.0 img ≡ refused 3 i.0

  -- what reading both says
  abbrev pub BackyardSays : ℕ → ℕ → ℕ → List ℕ → S.Result (BackReading × BackReading) UnsoundBucket → Type 0
  BackyardSays B f x img (S.Ok r) = Reads true B f x img r.0 × Reads false B f x img r.1
  BackyardSays B f x img (S.Err i) = backyard L B f img ≡ refused 3 i.0

  -- a key can join front bucket f, which was read, at the slot behind the members below it; and a member backyard bucket j
  pub record FrontJoin (f slot x : ℕ) (img : List ℕ) : Type 0 where
    pub read : FrontRead f img
    pub room : length (in_front L f img) < L.front_slots
    pub key : x < keys L
    pub rank : slot ≡ below x (in_front L f img)

  pub record BackJoin (B j slot y : ℕ) (img : List ℕ) : Type 0 where
    pub read : BackRead B j img
    pub room : length (in_back L B j img) < L.back_slots
    pub member : y < keys L * 16
    pub rank : slot ≡ below y (in_back L B j img)

  -- key `from` stands at slot `at` of front bucket f, which was read, and `to` belongs at `slot` once it has left
  pub record FrontSwapAt (f at from slot to : ℕ) (img : List ℕ) : Type 0 where
    pub read : FrontRead f img
    pub stands : At from at (in_front L f img)
    pub key : to < keys L
    pub rank : slot ≡ below to (removed from (in_front L f img))

  -- front bucket f was read and holds all its slots
  pub record FrontFull (f : ℕ) (img : List ℕ) : Type 0 where
    pub read : FrontRead f img
    pub full : length (in_front L f img) ≡ L.front_slots

  -- "Front(f) holds 28 and g exceeds its largest"
  pub record Exceeds (f x : ℕ) (img : List ℕ) : Type 0 where
    pub whole : FrontFull f img
    pub over : largest (in_front L f img) < x

  -- the bytes of whichever front bucket f has members, the first's where it has any
  unfoldable pub occupied : ℕ → List ℕ → List ℕ → List ℕ
  occupied f a b = cond (eqb (length (in_front L f a)) 0) (bucket_at f b) (bucket_at f a)
