-- The endings of a count, for any layout. In front: `count-unsound`, `count-few`, `count_low`; behind a full front bucket (`reaches`):
-- `behind-unsound`, `behind-found`, `behind-counted`, and where b0 = b1 `behind-same`.
use mathlib.Core.Path.{◌≡◌, refl, sym, ap, ◌∙◌}
use Prim.Native.Nat.{ℕ, ◌+◌, ◌*◌, ◌≤◌, ◌<◌}
use mathlib.Core.Bool.{Bool, true, false}
use mathlib.Core.List.{List}
use mathlib.Core.Option.{Option, none, some}
use native.Mathlib.Omega.{arith}
use lib.ListN.{length}
use lib.Dec.{T}
use borrow.Author.Tests.{eq-eqb, ne_eqb, le-leb, lt-leb}
use Rattle.std.specs.Prelude as S
use Rattle.multiset.specs.Multisets as M
use Rattle.multiset.specs.Multisets.{copies, found_in, largest, ascending}
use Rattle.multiset.proofs.MultisetLaws.{copies-le-length}
use Rattle.crumbmap.specs.Layouts.{Layout, fronts}
use Rattle.crumbmap.specs.CrumbMap.{first_bucket, second_bucket, first_crumb, second_crumb, bucket_of, crumb_of, coincide}
use Rattle.crumbmap.specs.Steps.Places.{Leads}
use Rattle.crumbmap.specs.declared.Overflow.{Overflow}
use Rattle.buckets.specs.Buckets.{back_members}
use Rattle.buckets.proofs.BucketLaws.{read_back}
use Rattle.search.specs.Steps.Searches.{search_of, many_in}
use Rattle.search.specs.declared.Found.{Found}
use Rattle.search.proofs.FoundLaws.{search-many}
use Rattle.answers.specs.declared.UnsoundBucket.{UnsoundBucket}
use Rattle.machine.specs.Results.{Result, accepted, refused, and_then, or_unsound}
use Rattle.machine.specs.Images.{bucket_at, front_at, back_at, in_front, in_back}
use Rattle.machine.specs.Machine.{backyard, Counted, counted, count_at}
use Rattle.machine.proofs.ChoiceLaws.{reads-apart}
use Rattle.machine.proofs.CoincideLaws.{count_same}
use Rattle.machine.proofs.RoomLaws.{back_at-room, found-room}
use Rattle.image.specs.Steps.ImageReads.{Placed, Reads, FrontRead}
use Rattle.image.specs.declared.Target.{Target}
use Rattle.image.specs.declared.BackReading.{BackReading}
use Rattle.image.proofs.ImageReadLaws.{both_read, both-accepts, front-full}
use Rattle.lookup.specs.Steps.Lookups.{Reaches, Sought}

-- ---- in front

pub count-unsound : (L : Layout) (B f x : ℕ) (img : List ℕ) {i : ℕ} → front_at L f img ≡ refused 3 i → refused 3 i ≡ count_at L B f x img
unfolding count_at
count-unsound L B f x img e = rw e

-- the bucket was read and holds n members, and m copies of x were found in it
module _ {L : Layout} (B x : ℕ) {f n : ℕ} {img : List ℕ} (read : FrontRead L f img) (many : length (in_front L f img) ≡ n) {m : ℕ}
    (here : m ≡ copies x (in_front L f img)) where
  pub count-few : n < L.front_slots → counted 1 m ≡ count_at L B f x img
  unfolding count_at
  count-few l = rw (here, read.accepts, ne_eqb (length (in_front L f img)) L.front_slots (λ e. omega (arith, many)))

  pub count_low : L.front_slots ≤ n → {top : ℕ} → top ≡ largest (in_front L f img) → x < top → counted 1 m ≡ count_at L B f x img
  unfolding count_at
  count_low full most l = rw (
    here,
    read.accepts,
    eq-eqb (length (in_front L f img)) L.front_slots (front-full read many full).full,
    lt-leb (largest (in_front L f img)) x (omega (arith, most)),
  )

-- none is larger
pub reaches : {L : Layout} {t : Target} {n : ℕ} {img : List ℕ} → Placed L t img → FrontRead L t.front.0 img → length (in_front L t.front.0 img) ≡ n
    → {m : ℕ} → m ≡ copies t.key (in_front L t.front.0 img) → L.front_slots ≤ n → {top : ℕ} → top ≡ largest (in_front L t.front.0 img) → top ≤ t.key
    → Reaches L t m img
reaches placed read many here full most l = record { placed = placed; whole = front-full read many full; reach = omega (arith, most); many = here }

-- ---- behind it

-- what a count gives by what was found in the one bucket behind a front bucket with b0 = b1, where `here` copies stand in front
abbrev pub counted_by : ℕ → S.Result (S.Option Found) UnsoundBucket → Result Counted
counted_by here (S.Ok o) = counted 2 (here + many_in o)
counted_by here (S.Err i) = refused 3 i.0

by-sought : (here y i : ℕ) (o : Option (List ℕ)) → ((ys : List ℕ) → o ≡ some ys → T (ascending ys)) → (r : S.Result (S.Option Found) UnsoundBucket)
    → Sought y (or_unsound i o) r → counted_by here r ≡ and_then (or_unsound i o) (λ ys. counted 2 (here + copies y ys))
by-sought here y i none order r e = rw e
by-sought here y i (some ys) order r e =
    let m : many_in (search_of (found_in y ys)) ≡ copies y ys = search-many y ys (order ys refl) {r = search_of (found_in y ys)} refl refl in
    rw (e, m)

module _ {L : Layout} {t : Target} {here : ℕ} {img : List ℕ} (r : Reaches L t here img) where
  pub here-few : here ≤ L.front_slots
  here-few = omega (arith, r.many, r.whole.full, copies-le-length t.key (in_front L t.front.0 img))

  pub behind-unsound : {i : ℕ} → backyard L t.size t.front.0 img ≡ refused 3 i → refused 3 i ≡ count_at L t.size t.front.0 t.key img
  unfolding count_at
  behind-unsound e = rw (
    r.whole.read.accepts,
    eq-eqb (length (in_front L t.front.0 img)) L.front_slots r.whole.full,
    le-leb (largest (in_front L t.front.0 img)) t.key r.reach,
    e,
  )

  -- the copies found in a backyard bucket, as it was read
  pub behind-found : (c : Bool) {a : BackReading} → Reads L c t.size t.front.0 t.key img a → {o : S.Option Found} {n : ℕ}
      → o ≡ search_of (found_in (t.key * 16 + a.way.crumb) (in_back L t.size a.way.bucket.0 img)) → n ≡ many_in o
      → (n ≡ copies (t.key * 16 + crumb_of c t.front.0) (in_back L t.size (bucket_of c t.size t.front.0) img)) × (n ≤ L.back_slots)
  behind-found c p said e =
      let y = t.key * 16 + crumb_of c t.front.0 in
      let ys = in_back L t.size (bucket_of c t.size t.front.0) img in
      let m = search-many y ys p.read.list.order (rw (p.leads.bucket, p.leads.crumb) at said) e in
      (m, omega (arith, m, p.read.list.room, copies-le-length y ys))

  -- the copies in both backyard buckets, as they were read
  pub behind-counted : {a b : BackReading} {n m : ℕ}
      → Reads L true t.size t.front.0 t.key img a → Reads L false t.size t.front.0 t.key img b
      → n ≡ copies (t.key * 16 + first_crumb t.front.0) (in_back L t.size (first_bucket t.front.0) img)
      → m ≡ copies (t.key * 16 + second_crumb t.front.0) (in_back L t.size (second_bucket t.size t.front.0) img)
      → coincide t.size t.front.0 ≡ false → counted 3 (here + n + m) ≡ count_at L t.size t.front.0 t.key img
  unfolding count_at
  behind-counted p q first second apart =
      rw (
        r.whole.read.accepts,
        eq-eqb (length (in_front L t.front.0 img)) L.front_slots r.whole.full,
        le-leb (largest (in_front L t.front.0 img)) t.key r.reach,
        both-accepts (both_read p q),
        reads-apart t.size t.front.0 apart,
      )
      (ap (counted 3) (omega (arith, r.many, first, second)))

  -- where b0 = b1, the copies are those in front and those found in the one bucket
  pub behind-same : coincide t.size t.front.0 ≡ true → {w : Overflow} (s : S.Result (S.Option Found) UnsoundBucket)
      → Sought (t.key * 16 + w.crumb) (back_at L t.size w.bucket.0 img) s → Leads false t.size t.front.0 w
      → counted_by here s ≡ count_at L t.size t.front.0 t.key img
  unfolding back_at
  behind-same c s said leads =
      let B = t.size in
      let f = t.front.0 in
      let y = t.key * 16 + second_crumb f in
      let b = bucket_at (fronts B + second_bucket B f) img in
      rw r.many
      (by-sought (copies t.key (in_front L f img)) y (fronts B + second_bucket B f) (back_members L B (second_bucket B f) b)
      (λ ys e. (read_back L B (second_bucket B f) b ys e).order) s (rw (leads.bucket, leads.crumb) at said)
      ∙ sym (count_same L B f t.key img c r.placed.within.front (in_front L f img) r.whole.read.accepts r.whole.full r.reach))

  -- they are few
  pub sought-few : (w : Overflow) (o : S.Option Found) → Sought (t.key * 16 + w.crumb) (back_at L t.size w.bucket.0 img) (S.Ok o) → many_in o ≤ L.back_slots
  sought-few w o said = go (back_at L t.size w.bucket.0 img) refl said
    where
      y : ℕ
      y = t.key * 16 + w.crumb

      few : (ys : List ℕ) (o : Option M.Found) → length ys ≤ L.back_slots → found_in y ys ≡ o → many_in (search_of o) ≤ L.back_slots
      few ys none l e = omega arith
      few ys (some s) l e = omega (arith, (found-room y ys s e).1)

      go : (r : Result (List ℕ)) → back_at L t.size w.bucket.0 img ≡ r → Sought y r (S.Ok o) → many_in o ≤ L.back_slots
      go (accepted ys) e q =
          let same : o ≡ search_of (found_in y ys) = cc in
          rw same (few ys (found_in y ys) (back_at-room L t.size w.bucket.0 img ys e) refl)
      go (refused k j) e q = cc
