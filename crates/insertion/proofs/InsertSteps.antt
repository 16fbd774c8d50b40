-- An insert by what was read: the front bucket has a free slot, both backyard buckets are full, or one of them takes the overflow.
use mathlib.Core.Path.{◌≡◌, ◌∙◌}
use Prim.Native.Nat.{ℕ, suc, ◌+◌, ◌*◌, ◌≤◌, ◌<◌}
use mathlib.Core.Bool.{Bool, true, false}
use mathlib.Core.List.{List}
use mathlib.Core.Option.{none, some}
use native.Mathlib.Nat.{max-eq_left, max-eq_right}
use native.Mathlib.Omega.{arith, by_contra}
use lib.ListN.{length, take}
use lib.Dec.{T, ltb}
use borrow.Author.Tests.{lt-ltb, le-ltb}
use Rattle.std.specs.Prelude as S
use Rattle.multiset.specs.Multisets.{added, removed, largest, ascending}
use Rattle.multiset.proofs.MultisetLaws.{removed-added}
use Rattle.multiset.proofs.OrderLaws.{largest-added, removed-added-other}
use Rattle.crumbmap.specs.Layouts.{Layout, layout1, known, keys}
use Rattle.crumbmap.specs.CrumbMap.{first_bucket, second_bucket}
use Rattle.crumbmap.specs.Steps.Places.{Leads}
use Rattle.crumbmap.specs.declared.Overflow.{Overflow}
use Rattle.buckets.specs.Buckets.{Fits64}
use Rattle.machine.specs.Results.{refused}
use Rattle.machine.specs.Images.{in_front, in_back, put_front, put_back}
use Rattle.machine.specs.Machine.{backyard, changed, taker, take_in, insert_at}
use Rattle.machine.specs.Calls as M
use Rattle.machine.proofs.Members.{in_back-choice}
use Rattle.machine.proofs.StayLaws.{top-range}
use Rattle.form.specs.Tails.{body, slots, raised}
use Rattle.form.specs.Calls.{changed_by, insert_of}
use Rattle.answers.specs.Answers.{refusal}
use Rattle.answers.specs.declared.Refusal.{Refusal}
use Rattle.answers.specs.declared.Refusal.TheVariants.{Miscounted}
use Rattle.answers.proofs.ChangeLaws.{changes, change-refused}
use Rattle.image.specs.Steps.ImageReads.{Locates, FrontRead, FrontFull, FrontJoin, BothRead, Reads}
use Rattle.image.specs.declared.Target.{Target}
use Rattle.image.specs.declared.BackReading.{BackReading}
use Rattle.image.proofs.ImageReadLaws.{both-accepts, both_read, largest-key}
use Rattle.tails.specs.Steps.Openings.{Opens, header_of}
use Rattle.tails.specs.Steps.Changing.{within, tail_within}
use Rattle.tails.specs.declared.Opened.{Opened}
use Rattle.tails.proofs.OpenLaws.{then-opened}
use Rattle.tails.proofs.CallLaws.{hash-call}
use Rattle.insertion.specs.Steps.Insertions.{InsertsAt, FullAt, overflow_at, spilled, Spills, Plans}
use Rattle.insertion.specs.declared.Spilling.{Spilling}
use Rattle.insertion.specs.declared.InsertPlan.{InsertPlan}
use Rattle.insertion.specs.declared.InsertPlan.TheVariants as P
use Rattle.insertion.proofs.TakerLaws.{taker-room}

-- ---- the machine's insert at a target

module _ {L : Layout} (t : Target) (img : List ℕ) where
  pub insert-short : FrontRead L t.front.0 img → length (in_front L t.front.0 img) < L.front_slots
      → insert_at L t.size t.front.0 t.key img ≡ changed 0 (put_front L t.front.0 (added t.key (in_front L t.front.0 img)) img)
  unfolding insert_at
  insert-short r h = rw (r.accepts, lt-ltb (length (in_front L t.front.0 img)) L.front_slots h)

  module _ (whole : FrontFull L t.front.0 img) where
    full : ltb (length (in_front L t.front.0 img)) L.front_slots ≡ false
    full = le-ltb (length (in_front L t.front.0 img)) L.front_slots (omega (arith, whole.full))

    pub insert-unsound : {i : ℕ} → backyard L t.size t.front.0 img ≡ refused 3 i → insert_at L t.size t.front.0 t.key img ≡ refused 3 i
    unfolding insert_at
    insert-unsound e = rw (whole.read.accepts, full, e)

    module _ (both : BothRead L t.size t.front.0 img) where
      abbrev n0 : ℕ
      n0 = length (in_back L t.size (first_bucket t.front.0) img)

      abbrev n1 : ℕ
      n1 = length (in_back L t.size (second_bucket t.size t.front.0) img)

      pub insert-stuck : taker L n0 n1 ≡ none → insert_at L t.size t.front.0 t.key img ≡ refused 4 0
      unfolding insert_at take_in
      insert-stuck e = rw (whole.read.accepts, full, both-accepts both, e)

      pub insert-over : (u : Bool) {w : Overflow} → Leads u t.size t.front.0 w → taker L n0 n1 ≡ some u
          → insert_at L t.size t.front.0 t.key img ≡ changed (1 + w.bucket.0) (spilled L t w img)
      unfolding insert_at take_in spilled
      insert-over u leads e = rw (whole.read.accepts, full, both-accepts both, e, in_back-choice L t.size t.front.0 img u, leads.bucket, leads.crumb)

-- ---- the overflow

-- it is the largest in front, which x replaces, or x itself
module _ (x : ℕ) (xs : List ℕ) (a : T (ascending xs)) where
  pub over-largest : x < largest xs → largest (added x xs) ≡ largest xs
  over-largest h = largest-added x xs a ∙ max-eq_right (omega arith)

  pub over-key : largest xs ≤ x → largest (added x xs) ≡ x
  over-key h = largest-added x xs a ∙ max-eq_left h

  -- the same, told by the overflow itself
  pub over-front : x < largest (added x xs) → largest (added x xs) ≡ largest xs
  over-front h = over-largest (by_contra (suc x) (largest xs) (λ q. omega (arith, over-key (omega arith))))

  pub over-least : largest (added x xs) ≤ x → largest (added x xs) ≡ x
  over-least h = over-key (by_contra (largest xs) x (λ q. omega (arith, over-largest q)))

-- what is left in front: the key in the place of the largest, or all as it was
module _ {L : Layout} (fits : Fits64 L) {f : ℕ} {img : List ℕ} (whole : FrontFull L f img) (x : ℕ) where
  abbrev pub left_in : List ℕ
  left_in = removed (largest (added x (in_front L f img))) (added x (in_front L f img))

  pub left-swapped : x < largest (added x (in_front L f img)) → left_in ≡ added x (removed (largest (in_front L f img)) (in_front L f img))
  left-swapped h =
      let xs = in_front L f img in
      let r = whole.read.list in
      rw (over-front x xs r.order h, removed-added-other (largest xs) x xs r.order (largest-key fits whole).0)

  pub left-same : largest (added x (in_front L f img)) ≤ x → left_in ≡ in_front L f img
  left-same h =
      let xs = in_front L f img in
      rw (over-least x xs whole.read.list.order h, removed-added x xs)

-- what is written when front has what is left and the overflow has joined its bucket
pub spilled-put : (L : Layout) (t : Target) (s : Spilling) (img : List ℕ) {mid now : List ℕ} → s.over ≡ overflow_at L t img
    → let f = t.front.0 in let j = s.way.bucket.0 in
    let left = removed (overflow_at L t img) (added t.key (in_front L f img)) in mid ≡ put_front L f left img
    → in_back L t.size j (put_front L f left img) ≡ in_back L t.size j img
    → now ≡ put_back L t.size j (added (s.over * 16 + s.way.crumb) (in_back L t.size j mid)) mid
    → now ≡ spilled L t s.way img
unfolding spilled
spilled-put L t s img o m k e = e ∙ rw (m, k, o)

-- ---- the plan of an overflow

module _ {L : Layout} {t : Target} {slot over : ℕ} {img : List ℕ} (full : FullAt L t slot img) (said : over ≡ overflow_at L t img)
    {a b : BackReading} (p : Reads L true t.size t.front.0 over img a) (q : Reads L false t.size t.front.0 over img b) where
  -- both are full
  pub plan-stuck : taker L a.members b.members ≡ none → insert_at L t.size t.front.0 t.key img ≡ refused 4 0
  plan-stuck e = insert-stuck t img full.whole (both_read p q) (rw (p.many, q.many) e)

  -- one of them takes it
  planned-to : (u : Bool) {r : BackReading} → Reads L u t.size t.front.0 over img r → r.members < L.back_slots → taker L a.members b.members ≡ some u
      → Spills L t (record { over = over; slot = slot; way = r.way; to = r.below }) img
  planned-to u {r} s room e =
      let l = s.leads in
      let low : over < keys L = rw said (top-range L t.key (in_front L t.front.0 img) full.whole.read.list full.placed.key) in
      record {
        full = full;
        over = said;
        joins = record {
          read = rw l.bucket s.read;
          room = rw l.bucket (omega (arith, s.many, room));
          member = omega (arith, low, l.small);
          rank = rw (l.bucket, l.crumb) s.rank;
        };
        insert = insert-over t img full.whole (both_read p q) u l (rw (p.many, q.many) e);
      }

  pub plan-first : taker L a.members b.members ≡ some true → Spills L t (record { over = over; slot = slot; way = a.way; to = a.below }) img
  plan-first e = planned-to true p (taker-room L a.members b.members (rw p.many at p.read.list.room) (rw q.many at q.read.list.room) true e) e

  pub plan-second : taker L a.members b.members ≡ some false → Spills L t (record { over = over; slot = slot; way = b.way; to = b.below }) img
  plan-second e = planned-to false q (taker-room L a.members b.members (rw p.many at p.read.list.room) (rw q.many at q.read.list.room) false e) e

-- what a plan said
module _ (L : Layout) (t : Target) (img : List ℕ) where
  -- its own refusal, whether the total has room or not
  pub plan-refused : (room : Bool) {why : Refusal} → insert_at L t.size t.front.0 t.key img ≡ refusal why → InsertsAt L t room img (S.Err why) img
  unfolding within
  plan-refused room {why} e = changes (rw e) (change-refused why img)

  -- 12 comes behind it
  pub plan-roomless : (r : InsertPlan) → Plans L t img (S.Ok r) → InsertsAt L t false img (S.Err Miscounted) img
  unfolding within
  plan-roomless (P.Joins slot) said = changes (rw (insert-short t img said.read said.room)) (change-refused Miscounted img)
  plan-roomless (P.Spills s) said = changes (rw said.insert) (change-refused Miscounted img)

  module _ {r : InsertPlan} (said : Plans L t img (S.Ok r)) where
    pub plan-joins : {slot : ℕ} → r ≡ P.Joins slot → FrontJoin L t.front.0 slot t.key img
    plan-joins e = rw e at said

    pub plan-spills : {s : Spilling} → r ≡ P.Spills s → Spills L t s img
    plan-spills e = rw e at said

-- ---- on an image that was opened, by the insert of its body

module _ {o : Opened} {img : List ℕ} (s : Opens o img) (k : ℕ) where
  pub insert-entered : insert_of known img k ≡ changed_by (header_of o.size o.total o.changes) (M.insert_of layout1 (body img) k)
      (raised layout1 o.size (record { total = o.total; changes = o.changes }))
  unfolding insert_of
  insert-entered = then-opened (λ h. changed_by h (M.insert_of h.layout (body img) k) (raised h.layout h.size h.tail)) s

  pub insert-opened : {t : Target} → Locates layout1 o.size k t
      → insert_of known img k
      ≡ changed_by (header_of o.size o.total o.changes) (insert_at layout1 t.size t.front.0 t.key (take o.end img))
      (raised layout1 o.size (record { total = o.total; changes = o.changes }))
  unfolding M.insert_of
  insert-opened l = insert-entered ∙ rw (hash-call s l (λ B f x b. insert_at layout1 B f x b))

-- the room that the total has for one more
pub raised-room : (B total changes : ℕ) {most : ℕ} → most ≡ slots layout1 B
    → raised layout1 B (record { total = total; changes = changes })
    ≡ tail_within (ltb total most) (record { total = total + 1; changes = changes + 1 })
unfolding raised
raised-room B total changes e = rw e
