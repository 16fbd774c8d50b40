-- What is known of a state while a row is tested, for any layout. Main results: an accepted ask has read its buckets (`asked-read`), keys below
-- the bound need no more of them (`bound-asked`), and what is known stays known (`known-started`, `known-tested`).
use Rattle.std.proofs.Common.{◌≡◌, ℕ, ◌+◌, ◌-◌, ◌*◌, ◌^◌, ◌<◌, ◌≤◌, max, Bool, true, false, cond, ◌&&◌, eqb, ltb, leb, List, length, get_or, take, sym, refl, ap, arith, get_or-take, ltb-false, ltb-true, le-ltb, eqb-true, leb-false, leb-true}
use mathlib.Core.Option.{some}
use lib.ListN.{get_or-eq_default}
use borrow.Author.Tests.{eqb-false}
use Rattle.multiset.specs.Multisets.{found_in, largest}
use Rattle.crumbmap.specs.Layouts.{Layout, keys, fronts}
use Rattle.crumbmap.specs.Fingerprints.{front_of, key_of}
use Rattle.crumbmap.specs.CrumbMap.{first_bucket, second_bucket, first_crumb, second_crumb, bucket_of}
use Rattle.crumbmap.proofs.CrumbMapLaws.{bucket_of-lt}
use Rattle.crumbmap.proofs.FingerprintLaws.{front_of-lt}
use Rattle.buckets.specs.Buckets.{Fits64}
use Rattle.machine.specs.Results.{Result, accepted, refused, and_then}
use Rattle.machine.specs.Images.{size_of, back_at, in_front, in_back}
use Rattle.machine.specs.Machine.{Asked, reads_behind, ask_second, ask_at}
use Rattle.machine.proofs.AcceptedLaws.{same_answer, never-refused}
use Rattle.machine.proofs.ChoiceLaws.{reads-most}
use Rattle.machine.proofs.RowLaws.{Ends, ask-ends, of-search, of_test, asked-some, ask-refused}
use Rattle.form.specs.Tails.{body}
use Rattle.form.proofs.TailLaws.{length-body}
use Rattle.image.specs.Steps.ImageReads.{FrontIn, FrontRead, BackRead}
use Rattle.image.proofs.ImageReadLaws.{whole_of, front-in, back_in}
use Rattle.image.proofs.PartLaws.{front_read, back_read}
use Rattle.grouping.specs.Steps.Grouping.{Bytes, held, reach_at, bound_at, GroupRead, sharing, descended, passed, advanced, tested_at, tested, Live, Known, Extends, started_at}
use Rattle.grouping.specs.declared.State.{State}

-- the body of bytes is bytes
pub body_bytes : (img : List ℕ) → Bytes img → Bytes (body img)
unfolding body
body_bytes img bytes i = go (ltb i (length img - 64)) refl
  where
    go : (b : Bool) → ltb i (length img - 64) ≡ b → get_or (take (length img - 64) img) i 0 < 256
    go true h = rw (get_or-take (length img - 64) img i 0 (ltb-true i (length img - 64) h)) (bytes i)
    go false h =
        rw (get_or-eq_default (take (length img - 64) img) 0 {n = i} (omega (arith, length-body img, ltb-false i (length img - 64) h))) (omega arith)

-- where none is read nothing is asked
pub none_read : {L : Layout} {B f : ℕ} {img : List ℕ} → GroupRead L B f img 0
none_read = record { front = λ h. absurd (omega arith); first = λ h. absurd (omega arith); second = λ h. absurd (omega arith) }

-- the buckets that an accepted ask has read are sound
module _ {L : Layout} (fits : Fits64 L) {B f : ℕ} {img : List ℕ} (bytes : Bytes img) (within : FrontIn B f img) where
  pub asked-read : (x : ℕ) {a : Asked} → ask_at L B f x img ≡ accepted a → GroupRead L B f img a.reads × (0 < a.reads) × (a.reads ≤ 3)
  asked-read x e = let r = rw e at ends in (r.0, r.1, omega (arith, r.2, reads-most B f))
    where
      back : (t : Bool) {ys : List ℕ} → back_at L B (bucket_of t B f) img ≡ accepted ys → BackRead L B (bucket_of t B f) img
      back t e = back_read L fits B (bucket_of t B f) img (back_in within.whole (bucket_of-lt t B f within.front)) bytes e

      ends : Ends B f (GroupRead L B f img) (ask_at L B f x img)
      ends =
          ask-ends L B f x img (GroupRead L B f img)
          (λ xs e. record { front = λ h. front_read L fits f img (front-in within) bytes e; first = λ h. absurd (omega arith); second = λ h. absurd (omega arith) })
          (λ ys r e. record { front = λ h. r.front (omega arith); first = λ h. back true e; second = λ h. absurd (omega arith) })
          (λ zs r e. record { front = λ h. r.front (omega arith); first = λ h. r.first (omega arith); second = λ h. back false e })

-- an image has at most 524,288 front buckets
pub front-most : {B f : ℕ} {img : List ℕ} → FrontIn B f img → f < 524288
unfolding fronts
front-most w = omega (arith, w.front, w.whole.small)

-- what was read for two keys
pub read-max : {L : Layout} {B f : ℕ} {img : List ℕ} {m n : ℕ} → GroupRead L B f img m → GroupRead L B f img n → GroupRead L B f img (max m n)
read-max {L} {B} {f} {img} {m} {n} p q = go (leb m n) refl
  where
    go : (b : Bool) → leb m n ≡ b → GroupRead L B f img (max m n)
    go true h = let e : max m n ≡ n = omega (arith, leb-true m n h) in rw e q
    go false h = let e : max m n ≡ m = omega (arith, leb-false m n h) in rw e p

-- and for one more key
module _ {L : Layout} (fits : Fits64 L) {B f : ℕ} {img : List ℕ} (bytes : Bytes img) (within : FrontIn B f img) where
  pub shared-read : (x : ℕ) {reads n : ℕ} → GroupRead L B f img reads → reads ≤ 3 → accepted n ≡ sharing L B f x img reads
      → GroupRead L B f img n × (0 < n) × (reads ≤ n) × (n ≤ 3)
  shared-read x {reads} {n} group few e = go (ask_at L B f x img) refl e
    where
      go : (r : Result Asked) → ask_at L B f x img ≡ r → accepted n ≡ (and_then r λ a. accepted (max reads a.reads))
          → GroupRead L B f img n × (0 < n) × (reads ≤ n) × (n ≤ 3)
      go (accepted a) h e =
          let p = asked-read fits bytes within x h in
          let m : n ≡ max reads a.reads = same_answer e in
          (rw m (read-max group p.0), omega arith, omega arith, omega arith)
      go (refused i j) h e = absurd (never-refused e)

-- ---- keys below the bound need no more

module _ {L : Layout} {B f reads : ℕ} {img : List ℕ} (group : GroupRead L B f img reads) where
  -- an ask that is accepted, with no more reads
  abbrev Within : Result Asked → Type 0
  Within r = (a : Asked) × (r ≡ accepted a) × (a.reads ≤ reads)

  ending : (a : Asked) → a.reads ≤ reads → Within (accepted a)
  ending a h = (a, refl, h)

  -- where all three are read, and for a key that its front bucket settles
  all_asked : (x : ℕ) → 3 ≤ reads → Within (ask_at L B f x img)
  unfolding ask_at ask_second
  all_asked x h =
      rw ((group.front (omega arith)).accepts, (group.first (omega arith)).accepts, (group.second (omega arith)).accepts)
      (of-search Within (found_in x xs) (λ s e. ending _ (omega arith)) (of_test Within (eqb (length xs) L.front_slots && ltb (largest xs) x)
      (of-search Within (found_in (x * 16 + first_crumb f) (in_back L B (first_bucket f) img)) (λ s e. ending _ (omega arith))
      (of-search Within (found_in (x * 16 + second_crumb f) (in_back L B (second_bucket B f) img)) (λ s e. ending _ last) (ending _ last)))
      (ending _ (omega arith))))
    where
      last : reads_behind B f ≤ reads
      last = omega (arith, reads-most B f)

      xs : List ℕ
      xs = in_front L f img

  low-asked : (x : ℕ) → 0 < reads → x < reach_at L f img → Within (ask_at L B f x img)
  unfolding ask_at reach_at
  low-asked x p h = go (eqb (length xs) L.front_slots) refl
    where
      xs : List ℕ
      xs = in_front L f img

      alone : (eqb (length xs) L.front_slots && ltb (largest xs) x) ≡ false → Within (ask_at L B f x img)
      alone e = rw ((group.front p).accepts, e) (of-search Within (found_in x xs) (λ s e. ending _ p) (ending _ p))

      go : (b : Bool) → eqb (length xs) L.front_slots ≡ b → Within (ask_at L B f x img)
      go true e = alone (rw (e, le-ltb (largest xs) x (omega (arith, rw e at h))))
      go false e = alone (rw e)

  pub bound-asked : (x : ℕ) → x < bound_at L f img reads → (a : Asked) × (ask_at L B f x img ≡ accepted a) × (a.reads ≤ reads)
  unfolding bound_at
  bound-asked x h = go (eqb reads 0) (leb 3 reads) refl refl
    where
      go : (b c : Bool) → eqb reads 0 ≡ b → leb 3 reads ≡ c → Within (ask_at L B f x img)
      go true c e l = absurd (omega (arith, rw e at h))
      go false true e l = all_asked x (leb-true 3 reads l)
      go false false e l = low-asked x (omega (arith, eqb-false reads 0 e)) (rw (e, l) at h)

  -- where all three are read no ask reads more
  pub all-shared : (x : ℕ) → 3 ≤ reads → accepted reads ≡ sharing L B f x img reads
  all-shared x h =
      let p = all_asked x h in
      let m : max reads p.0.reads ≡ reads = omega (arith, p.2) in
      rw (p.1, m)

-- the front bucket alone was read
pub front-group : {L : Layout} {B f : ℕ} {img : List ℕ} → FrontRead L f img → GroupRead L B f img 1
front-group r = record { front = λ h. r; first = λ h. absurd (omega arith); second = λ h. absurd (omega arith) }

-- every ask reads it
pub first-shared : (L : Layout) (B f x : ℕ) (img : List ℕ) → sharing L B f x img 1 ≡ sharing L B f x img 0
first-shared L B f x img = go (ask_at L B f x img) refl
  where
    go : (r : Result Asked) → ask_at L B f x img ≡ r → (and_then r λ a. accepted (max 1 a.reads)) ≡ (and_then r λ a. accepted (max 0 a.reads))
    go (accepted a) e = let p = asked-some L B f x img e in let m : max 1 a.reads ≡ max 0 a.reads = omega arith in ap accepted m
    go (refused n i) e = refl

-- ---- what is known stays known

-- what a tested entry makes of a state: by its order, and by whether the row is refused already
module _ (L : Layout) (img : List ℕ) (s : State) (f x : ℕ) (P : State → Type 0) where
  pub of-tested : (ltb f s.front ≡ true → P (descended L s f))
      → (ltb f s.front ≡ false → eqb s.number 0 ≡ true → P (advanced L img s f (sharing L s.size f x img (held s f))))
      → (ltb f s.front ≡ false → eqb s.number 0 ≡ false → P (passed L s f))
      → P (tested_at L img s f x)
  unfolding tested_at
  of-tested p q r = go (ltb f s.front) (eqb s.number 0) refl refl
    where
      go : (b c : Bool) → ltb f s.front ≡ b → eqb s.number 0 ≡ c → P (tested_at L img s f x)
      go true c d e = rw d (p d)
      go false true d e = rw (d, e) (q d e)
      go false false d e = rw (d, e) (r d e)

-- a state with the same numbers in it
alike : (s : State) {n r b t m : ℕ} → n ≡ s.number → r ≡ s.reads → b ≡ s.bound → t ≡ s.table → m ≡ s.total
    → s ≡ record s { number = n; reads = r; bound = b; table = t; total = m }
alike s e f g h k = rw (e, f, g, h, k) refl

-- a key of the same front bucket that needs no more changes nothing
pub tested-same : (L : Layout) (img : List ℕ) (s : State) → Known L img s → (x : ℕ) → x < s.bound → s ≡ tested_at L img s s.front x
tested-same L img s known x h = of-tested L img s s.front x (λ t. s ≡ t)
    (λ d. absurd (omega (arith, ltb-true s.front s.front d)))
    (λ d z. go (eqb-true s.number 0 z))
    (λ d z. refl)
  where
    go : s.number ≡ 0 → s ≡ advanced L img s s.front (sharing L s.size s.front x img (held s s.front))
    go z =
        let live = known.live z in
        let p = bound-asked live.group x (omega (arith, live.bound)) in
        let m : max s.reads p.0.reads ≡ s.reads = omega (arith, p.2) in
        let one : held s s.front ≡ s.reads = rw (le-ltb s.front s.front (omega arith)) in
        rw (one, p.1, m) (alike s (sym z) refl (sym live.bound) (sym live.table) (omega arith))

pub known-started : (L : Layout) {B : ℕ} (img : List ℕ) → size_of (length img) ≡ some B → (n : ℕ) → Known L img (started_at 1 (some B) n)
unfolding fronts bound_at
known-started L img e n =
    let w = whole_of img e in
    record { whole = w; front = omega arith; live = λ z. record { few = omega arith; table = refl; most = omega arith; group = none_read; bound = refl } }

module _ {L : Layout} {img : List ℕ} {s : State} (known : Known L img s) where
  -- what of the group at f has been read, and how many that is
  held-live : {f : ℕ} → Live L img s → s.front ≤ f → GroupRead L s.size f img (held s f) × (held s f ≤ 3) × (s.total ≤ 3 * f + held s f)
  held-live {f} live h = go (ltb s.front f) refl
    where
      go : (b : Bool) → ltb s.front f ≡ b
          → GroupRead L s.size f img (cond b 0 s.reads) × (cond b 0 s.reads ≤ 3) × (s.total ≤ 3 * f + cond b 0 s.reads)
      go true e = (none_read, omega arith, omega (arith, ltb-true s.front f e))
      go false e = let same : s.front ≡ f = omega (arith, ltb-false s.front f e) in rw (sym same) (live.group, live.few, live.most)

  -- an entry in its order can join a state before any refusal
  pub extends : {f x : ℕ} → FrontIn s.size f img → x < keys L → s.front ≤ f → s.number ≡ 0 → {n : ℕ} → n ≡ held s f → Extends L img s f x n
  extends w k h z same =
      let l = held-live (known.live z) h in
      record { within = w; key = k; same = same; few = rw same l.1; most = rw same l.2; group = rw same l.0 }

module _ {L : Layout} (fits : Fits64 L) {img : List ℕ} (bytes : Bytes img) {s : State} (known : Known L img s) where
  -- an entry of front bucket f and key x, in its order, before any refusal
  module _ {f : ℕ} (inside : f < fronts s.size) (h : s.front ≤ f) (sound : s.number ≡ 0) where
    known-advanced : (x : ℕ) (r : Result Asked) → ask_at L s.size f x img ≡ r
        → Known L img (advanced L img s f (and_then r λ a. accepted (max (held s f) a.reads)))
    known-advanced x (accepted a) e =
        let l = held-live known (known.live sound) h in
        let r = asked-read fits bytes (record { whole = known.whole; front = inside }) x e in
        record {
          whole = known.whole;
          front = inside;
          live = λ z. record { few = omega arith; table = refl; most = omega arith; group = read-max l.0 r.0; bound = refl };
        }
    known-advanced x (refused n i) e = record { whole = known.whole; front = inside; live = λ z. absurd (omega (arith, (ask-refused L s.size f x img e).0)) }

  pub known-tested : (k : ℕ) → k < 2 ^ 64 → Known L img (tested L img s k)
  known-tested k small =
      let f = front_of s.size k in
      let inside = front_of-lt s.size k known.whole.some small in
      of-tested L img s f (key_of L k) (Known L img)
      (λ d. record { whole = known.whole; front = inside; live = λ z. absurd (omega arith) })
      (λ d e. known-advanced inside (ltb-false f s.front d) (eqb-true s.number 0 e) (key_of L k) _ refl)
      (λ d e. record { whole = known.whole; front = inside; live = λ z. absurd (eqb-false s.number 0 e z) })
