-- A lone ask by what was read and found, for any layout: settled by its front bucket (`near-front`, `near_none`, `near-shared`), or behind it by what
-- is read and found in b0 and then in b1 (`first_found`, `second-found`, `none_found`); and what of it a group shares (`shares`, `keeps`, `bars`,
-- `same-shared`).
use Rattle.std.proofs.Common.{◌≡◌, ℕ, suc, ◌+◌, ◌*◌, ◌^◌, ◌<◌, ◌≤◌, max, Bool, true, false, ◌&&◌, eqb, ltb, List, length, sym, refl, ap, ◌∙◌, arith, le-ltb, eq-eqb, ne_eqb, eqb-true}
use mathlib.Core.Option.{Option, none, some}
use Rattle.std.specs.Prelude as S
use Rattle.std.specs.Option.{is_some}
use Rattle.multiset.specs.Multisets.{Found, found_in, largest}
use Rattle.crumbmap.specs.Layouts.{Layout, keys, fronts}
use Rattle.crumbmap.specs.CrumbMap.{first_bucket, second_bucket, first_crumb, second_crumb, bucket_of, crumb_of, coincide}
use Rattle.crumbmap.specs.Fingerprints.{front_of, key_of}
use Rattle.crumbmap.specs.Steps.Places.{Leads}
use Rattle.crumbmap.specs.declared.Overflow.{Overflow}
use Rattle.buckets.specs.Buckets.{front_members, back_members}
use Rattle.search.specs.Steps.Searches.{search_of}
use Rattle.search.specs.declared.Found as F
use Rattle.machine.specs.Results.{Result, accepted, refused, and_then, number, or_unsound}
use Rattle.machine.specs.Images.{bucket_at, front_at, back_at, in_front, in_back}
use Rattle.machine.specs.Machine.{Asked, asked, denied, front, first, second, reads_behind, ask_second, ask_at}
use Rattle.machine.specs.Calls.{ask_of}
use Rattle.machine.proofs.AskLaws.{ask_behind}
use Rattle.machine.proofs.ChoiceLaws.{same-bucket, reads_same}
use Rattle.machine.proofs.CoincideLaws.{behind-same}
use Rattle.machine.proofs.RoomLaws.{found-room}
use Rattle.machine.proofs.RowLaws.{ask-at}
use Rattle.image.specs.Steps.ImageReads.{Whole, FrontRead, BackRead, Exceeds}
use Rattle.image.proofs.ImageReadLaws.{whole-sized, ask-exceeds}
use Rattle.grouping.specs.Steps.Grouping.{reach_at, sharing}

-- ---- a search

-- a key was sought in the bucket that a choice leads to
pub way-found : (L : Layout) (t : Bool) {B f : ℕ} {w : Overflow} → Leads t B f w → (x : ℕ) (img : List ℕ) {r : S.Option F.Found}
    → r ≡ search_of (found_in (x * 16 + w.crumb) (in_back L B w.bucket.0 img))
    → r ≡ search_of (found_in (x * 16 + crumb_of t f) (in_back L B (bucket_of t B f) img))
way-found L t leads x img e = rw (leads.bucket, leads.crumb) at e

-- a search that found one
pub is-found : (o : Option Found) {r : S.Option F.Found} → r ≡ search_of o → {b : Bool} → b ≡ is_some r → b ≡ true → (s : Found) × (o ≡ some s)
is-found none said told t = cc
is-found (some s) said told t = (s, refl)

-- what was found fits an entry
pub found-fits : (y : ℕ) (ys : List ℕ) {s : Found} → found_in y ys ≡ some s → length ys ≤ 64 → (s.slot < 2 ^ 32) × (s.copies < 2 ^ 32)
found-fits y ys {s} e l = let r = found-room y ys s e in (omega (arith, r.0), omega (arith, r.1))

-- what a read gave goes on only where it is sound
then-sound : {A : Type 0} (i : ℕ) (o : Option (List ℕ)) (k : List ℕ → Result A) → number (and_then (or_unsound i o) k) ≡ 0
    → (xs : List ℕ) × (or_unsound i o ≡ accepted xs)
then-sound i none k e = absurd (omega (arith, e))
then-sound i (some xs) k e = (xs, refl)

-- a lone ask is that of its front bucket and key
pub lone-at : (L : Layout) {B : ℕ} (img : List ℕ) (k : ℕ) {f x : ℕ} → Whole B img → f ≡ front_of B k → x ≡ key_of L k → ask_of L img k ≡ ask_at L B f x img
lone-at L img k w e h = rw (e, h) (ask-at L img (whole-sized w) k)

-- ---- the keys that a front bucket settles

module _ (L : Layout) (f : ℕ) (img : List ℕ) where
  abbrev xs : List ℕ
  xs = in_front L f img

  pub reach_few : length xs < L.front_slots → keys L ≡ reach_at L f img
  unfolding reach_at
  reach_few h = rw (ne_eqb (length xs) L.front_slots (λ e. omega arith))

  pub reach-full : length xs ≡ L.front_slots → suc (largest xs) ≡ reach_at L f img
  unfolding reach_at
  reach-full h = rw (eq-eqb (length xs) L.front_slots h)

  -- those from there on exceed the largest of all its slots
  pub reach-exceeds : FrontRead L f img → (x : ℕ) → reach_at L f img ≤ x → x < keys L → Exceeds L f x img
  unfolding reach_at
  reach-exceeds read x h l = go (eqb (length xs) L.front_slots) refl
    where
      go : (b : Bool) → eqb (length xs) L.front_slots ≡ b → Exceeds L f x img
      go true e = record { whole = record { read = read; full = eqb-true (length xs) L.front_slots e }; over = omega (arith, rw e at h) }
      go false e = absurd (omega (arith, rw e at h))

  -- the others' asks do not go behind it
  near : (x : ℕ) → x < reach_at L f img → (eqb (length xs) L.front_slots && ltb (largest xs) x) ≡ false
  unfolding reach_at
  near x h = go (eqb (length xs) L.front_slots) refl
    where
      go : (b : Bool) → eqb (length xs) L.front_slots ≡ b → (eqb (length xs) L.front_slots && ltb (largest xs) x) ≡ false
      go true e = rw (e, le-ltb (largest xs) x (omega (arith, rw e at h)))
      go false e = rw e

module _ (L : Layout) (B f x : ℕ) (img : List ℕ) where
  -- ---- what a group shares of an ask

  -- one that reads more, one that reads no more, and one that is refused
  pub shares : {a : Asked} {reads : ℕ} → accepted a ≡ ask_at L B f x img → reads ≤ a.reads → accepted a.reads ≡ sharing L B f x img reads
  shares {a} {reads} e h = let m : max reads a.reads ≡ a.reads = omega arith in rw (sym e, m)

  pub keeps : {a : Asked} {reads : ℕ} → accepted a ≡ ask_at L B f x img → a.reads ≤ reads → accepted reads ≡ sharing L B f x img reads
  keeps {a} {reads} e h = let m : max reads a.reads ≡ reads = omega arith in rw (sym e, m)

  pub bars : (reads : ℕ) {i : ℕ} → refused 3 i ≡ ask_at L B f x img → refused 3 i ≡ sharing L B f x img reads
  bars reads e = rw (sym e)

  -- ---- an ask that its front bucket settles

  pub front-sound : number (ask_at L B f x img) ≡ 0 → (xs : List ℕ) × (front_at L f img ≡ accepted xs)
  unfolding ask_at front_at
  front-sound e = then-sound f (front_members L (bucket_at f img)) _ e

  pub near-front : FrontRead L f img → {s : Found} → found_in x (in_front L f img) ≡ some s → asked 1 front s ≡ ask_at L B f x img
  unfolding ask_at
  near-front read e = rw (read.accepts, e)

  pub near_none : FrontRead L f img → found_in x (in_front L f img) ≡ none → x < reach_at L f img → denied 1 ≡ ask_at L B f x img
  unfolding ask_at
  near_none read e h = rw (read.accepts, e, near L f img x h)

  pub near-shared : FrontRead L f img → x < reach_at L f img → (reads : ℕ) → 0 < reads → accepted reads ≡ sharing L B f x img reads
  near-shared read h reads k = go (found_in x (in_front L f img)) refl
    where
      go : (o : Option Found) → found_in x (in_front L f img) ≡ o → accepted reads ≡ sharing L B f x img reads
      go none e = keeps (near_none read e h) k
      go (some s) e = keeps (near-front read e) k

  -- ---- an ask of a key that exceeds the largest of a full front bucket

  module _ (over : Exceeds L f x img) where
    pub first_found : BackRead L B (first_bucket f) img → {s : Found} → found_in (x * 16 + first_crumb f) (in_back L B (first_bucket f) img) ≡ some s
        → asked 2 first s ≡ ask_at L B f x img
    unfolding ask_behind
    first_found r e = sym (ask-exceeds B over ∙ rw (r.accepts, e))

    pub first-unsound : {i : ℕ} → back_at L B (first_bucket f) img ≡ refused 3 i → refused 3 i ≡ ask_at L B f x img
    unfolding ask_behind
    first-unsound e = sym (ask-exceeds B over ∙ rw e)

    -- it is not there, and the ask goes on to b1
    pub past_first : {ys : List ℕ} → back_at L B (first_bucket f) img ≡ accepted ys → found_in (x * 16 + first_crumb f) ys ≡ none
        → ask_second L B f x img ≡ ask_at L B f x img
    unfolding ask_behind
    past_first r e = sym (ask-exceeds B over ∙ rw (r, e))

    -- an accepted ask has found b0 sound
    pub first-sound : number (ask_at L B f x img) ≡ 0 → (ys : List ℕ) × (back_at L B (first_bucket f) img ≡ accepted ys)
    unfolding back_at ask_behind
    first-sound e =
        then-sound (fronts B + first_bucket f) (back_members L B (first_bucket f) (bucket_at (fronts B + first_bucket f) img)) _ (sym (ap number (ask-exceeds B over)) ∙ e)

  -- an ask that went on to b1 and is accepted has found it sound
  pub second-sound : ask_second L B f x img ≡ ask_at L B f x img → number (ask_at L B f x img) ≡ 0
      → (zs : List ℕ) × (back_at L B (second_bucket B f) img ≡ accepted zs)
  unfolding back_at ask_second
  second-sound on h =
      then-sound (fronts B + second_bucket B f) (back_members L B (second_bucket B f) (bucket_at (fronts B + second_bucket B f) img)) _ (ap number on ∙ h)

  -- what is found in b1
  module _ (r : BackRead L B (second_bucket B f) img) {n : ℕ} (reads : n ≡ reads_behind B f) where
    pub second-found : {s : Found} → found_in (x * 16 + second_crumb f) (in_back L B (second_bucket B f) img) ≡ some s → asked n second s ≡ ask_second L B f x img
    unfolding ask_second
    second-found e = rw (r.accepts, e, reads)

    pub none_found : found_in (x * 16 + second_crumb f) (in_back L B (second_bucket B f) img) ≡ none → denied n ≡ ask_second L B f x img
    unfolding ask_second
    none_found e = rw (r.accepts, e, reads)

  -- found or not, it is the last read
  pub second-read : BackRead L B (second_bucket B f) img → (a : Asked) × (accepted a ≡ ask_second L B f x img) × (a.reads ≡ reads_behind B f)
  second-read r = go (found_in (x * 16 + second_crumb f) (in_back L B (second_bucket B f) img)) refl
    where
      go : (o : Option Found) → found_in (x * 16 + second_crumb f) (in_back L B (second_bucket B f) img) ≡ o
          → (a : Asked) × (accepted a ≡ ask_second L B f x img) × (a.reads ≡ reads_behind B f)
      go none e = (_, none_found r refl e, refl)
      go (some s) e = (_, second-found r refl e, refl)

  -- where b0 = b1, that is the second
  pub same-shared : Exceeds L f x img → f < fronts B → coincide B f ≡ true → BackRead L B (first_bucket f) img → {reads : ℕ} → reads ≤ 2
      → accepted 2 ≡ sharing L B f x img reads
  same-shared over h c r {reads} l =
      let t = second-read (rw (same-bucket B f c) at r) in
      let n = reads_same B f c in
      rw (t.2 ∙ n) at (shares {reads = reads} (t.1 ∙ sym (ask-exceeds B over ∙ behind-same L B f x img c h)) (omega (arith, t.2, n)))

  pub second-unsound : {i : ℕ} → back_at L B (second_bucket B f) img ≡ refused 3 i → refused 3 i ≡ ask_second L B f x img
  unfolding ask_second
  second-unsound e = rw e
