-- One entry of a row: what of its group's buckets has been read, and what the entry makes of the state and of itself. An image here is a body,
-- but in `begun`.
use Rattle.std.specs.Prelude.{◌≡◌, ℕ, suc, ◌+◌, ◌-◌, ◌*◌, ◌%◌, ◌^◌, ◌<◌, ◌≤◌, max, cond, List, length, ◌==◌, nat_le, nat_lt, slice_index}
use Rattle.std.specs.Prelude as S
use Rattle.std.proofs.Math.Option.{Option, none, some}
use Rattle.multiset.specs.Multisets.{found_in, largest}
use Rattle.crumbmap.specs.Layouts.{Layout, Numbering, keys, fronts}
use Rattle.crumbmap.specs.Fingerprints.{front_of, key_of}
use Rattle.crumbmap.specs.CrumbMap.{first_bucket, second_bucket, first_crumb}
use Rattle.machine.specs.Results.{Result, accepted, refused, and_then, number}
use Rattle.machine.specs.Images.{size_of, bucket_at, in_front, in_back}
use Rattle.machine.specs.Machine.{Asked, ask_at}
use Rattle.machine.specs.Calls.{ask_of}
use Rattle.form.specs.Tails.{body, opened}
use Rattle.answers.specs.Rows.{received_of}
use Rattle.answers.specs.declared.Entry.{Entry}
use Rattle.answers.specs.declared.UnsoundBucket.{UnsoundBucket}
use Rattle.image.specs.Steps.ImageReads.{Whole, FrontIn, FrontRead, BackRead, Exceeds}
use Rattle.grouping.specs.declared.State.{State}
use Rattle.grouping.specs.declared.Turned.{Turned}

-- what reading on for a key gave: how many of its group's buckets are read then, or the refusal for one that is unsound
abbrev pub shared_of : S.Result ℕ UnsoundBucket → Result ℕ
shared_of (S.Ok n) = accepted n
shared_of (S.Err i) = refused 3 i.0

-- an entry with its reads, place, slot and copies, and one by its lone ask
abbrev pub filled : Entry → ℕ → ℕ → ℕ → ℕ → Entry
filled e reads place slot copies = record e { reads = reads; place = place; slot = slot; copies = copies }

abbrev pub told_by : Entry → Result Asked → Entry
told_by e (accepted a) = received_of e a
told_by e (refused n i) = e

-- bytes, as a lent slice holds them
abbrev pub Bytes : List ℕ → Type 0
Bytes img = (i : ℕ) → slice_index img i < 256

-- how many buckets of f's group are read already, where f is the state's front bucket or one behind it
abbrev pub held : State → ℕ → ℕ
held s f = cond (nat_lt s.front f) 0 s.reads

-- the state after an entry that is fetched: a byte of its front bucket is loaded, to no end but that
abbrev pub fetched : List ℕ → State → ℕ → State
fetched img s k = record s { total = (s.total + slice_index (bucket_at (front_of s.size k) img) 0) % 2 ^ 64 }

module _ (L : Layout) where
  -- "Front(f) holds 28 and g exceeds its largest" is false of keys below this one: f's front bucket alone settles them
  unfoldable pub reach_at : ℕ → List ℕ → ℕ
  reach_at f img = cond (length (in_front L f img) == L.front_slots) (suc (largest (in_front L f img))) (keys L)

  -- keys below this one need no more of f's buckets than `reads`
  unfoldable pub bound_at : ℕ → List ℕ → ℕ → ℕ
  bound_at f img reads = cond (reads == 0) 0 (cond (nat_le 3 reads) (keys L) (reach_at f img))

  -- so many of f's front bucket, b0 and b1, in this order, have been read and are sound
  pub record GroupRead (B f : ℕ) (img : List ℕ) (reads : ℕ) : Type 0 where
    pub front : 0 < reads → FrontRead L f img
    pub first : 1 < reads → BackRead L B (first_bucket f) img
    pub second : 2 < reads → BackRead L B (second_bucket B f) img

  -- key x exceeds the largest of the full front bucket f and is not in First(f), whose bucket was read
  pub record PastFirst (B f x : ℕ) (img : List ℕ) : Type 0 where
    pub over : Exceeds L f x img
    pub read : BackRead L B (first_bucket f) img
    pub absent : found_in (x * 16 + first_crumb f) (in_back L B (first_bucket f) img) ≡ none

  -- how many are read once key x is asked for, where `reads` were
  abbrev pub sharing : ℕ → ℕ → ℕ → List ℕ → ℕ → Result ℕ
  sharing B f x img reads = and_then (ask_at L B f x img) λ a. accepted (max reads a.reads)

  -- ---- the state after an entry that is tested

  -- "refused with 10 .. when an entry's front bucket is below the one before it"; after any refusal order alone is tested
  abbrev pub descended : State → ℕ → State
  descended s f = record s { number = 10; table = 0; front = f }

  abbrev pub passed : State → ℕ → State
  passed s f = record s { front = f }

  -- by what reading on for it comes to
  abbrev pub advanced : List ℕ → State → ℕ → Result ℕ → State
  advanced img s f (accepted r) =
      record s { number = 0; reads = r; bound = bound_at f img r; table = 0; front = f; total = s.total + (r - held s f) }
  advanced img s f (refused n i) = record s { number = n; table = i; front = f }

  unfoldable pub tested_at : List ℕ → State → ℕ → ℕ → State
  tested_at img s f x =
      cond (nat_lt f s.front) (descended s f)
      (cond (s.number == 0) (advanced img s f (sharing s.size f x img (held s f))) (passed s f))

  abbrev pub tested : List ℕ → State → ℕ → State
  tested img s k = tested_at img s (front_of s.size k) (key_of L k)

  -- what is true of a state while a row is tested: the image's size; and, until a refusal, what was read and how many that may be
  pub record Live (img : List ℕ) (s : State) : Type 0 where
    pub few : s.reads ≤ 3
    pub table : s.table ≡ 0
    pub most : s.total ≤ 3 * s.front + s.reads
    pub group : GroupRead s.size s.front img s.reads
    pub bound : s.bound ≡ bound_at s.front img s.reads

  pub record Known (img : List ℕ) (s : State) : Type 0 where
    pub whole : Whole s.size img
    pub front : s.front < fronts s.size
    pub live : s.number ≡ 0 → Live img s

  -- an entry of front bucket f and key x can join a state, of whose buckets its group has had so many read
  pub record Extends (img : List ℕ) (s : State) (f x n : ℕ) : Type 0 where
    pub within : FrontIn s.size f img
    pub key : x < keys L
    pub same : n ≡ held s f
    pub few : n ≤ 3
    pub most : s.total ≤ 3 * f + n
    pub group : GroupRead s.size f img n

  -- ---- an entry in its turn

  -- "each entry gets what a lone ask would give"
  abbrev pub told : List ℕ → Entry → Entry
  told img e = told_by e (ask_of L img e.hash)

  -- by the phase p
  unfoldable pub turned : List ℕ → ℕ → State → Entry → Turned
  turned img p s e =
      cond (p == 0) (record { state = fetched img s e.hash; entry = e })
      (cond (p == 1) (record { state = tested img s e.hash; entry = e })
      (cond (p == 2) (record { state = s; entry = told img e }) (record { state = s; entry = e })))

  -- what is true where it has its turn: the image's size; what the state says while the row is tested; that its ask is accepted once it is to
  -- be told
  pub record Ready (img : List ℕ) (p : ℕ) (s : State) (k : ℕ) : Type 0 where
    pub fetching : p ≡ 0 → Whole s.size img
    pub testing : p ≡ 1 → Bytes img → Known img s
    pub telling : p ≡ 2 → Whole s.size img × (number (ask_of L img k) ≡ 0)

-- ---- the state before the first entry, between two sweeps, and at the end

-- in phase p with nothing read, by the image's size and the number that stands already: a wrong length is refused at once
abbrev pub started_at : ℕ → Option ℕ → ℕ → State
started_at p none n = record { phase = 3; number = 1; reads = 0; bound = 0; size = 0; table = 0; front = 0; total = 0 }
started_at p (some B) n = record { phase = p; number = n; reads = 0; bound = 0; size = B; table = 0; front = 0; total = 0 }

-- before the front buckets are fetched, by an image's length and its tail: "a bad tail gets 11", which stands until the order was tested
abbrev pub begun : Numbering → List ℕ → State
begun layouts img = started_at 0 (size_of (length (body img))) (number (opened layouts img))

-- after the test the entries receive their answers, or the row is refused
abbrev pub settled : State → State
settled s = record s { phase = cond (s.number == 0) 2 3 }

-- between two sweeps
abbrev pub resumed : State → State
resumed s = cond (s.phase == 0) (started_at 1 (some s.size) s.number) (settled s)

-- the refusal that a state tells of, and what the row gives
abbrev pub refusal_of : State → Result ℕ
refusal_of s =
    cond (s.number == 1) (refused 1 0)
    (cond (s.number == 10) (refused 10 0) (cond (s.number == 11) (refused 11 0) (refused 3 s.table)))

abbrev pub result_of : State → Result ℕ
result_of s = cond (s.number == 0) (accepted s.total) (refusal_of s)
