-- A delete by what was read: the copy stands in front with free slots, in a full front that is refilled, behind it, or nowhere.
use mathlib.Core.Path.{◌≡◌, ◌∙◌}
use Prim.Native.Nat.{ℕ, ◌+◌, ◌-◌, ◌≤◌, ◌<◌}
use mathlib.Core.Bool.{Bool, true, false}
use mathlib.Core.List.{List, [], ◌∷◌}
use native.Mathlib.Decide.{ℕ_discrete}
use native.Mathlib.Omega.{arith}
use lib.ListN.{length, take}
use lib.Dec.{ltb}
use borrow.Author.Tests.{lt-ltb, le-ltb, eq-eqb, ne_eqb}
use Rattle.std.specs.Prelude as S
use Rattle.multiset.specs.Multisets.{added, removed, copies, largest}
use Rattle.crumbmap.specs.Layouts.{Layout, layout1, known}
use Rattle.buckets.specs.Buckets.{Fits64, FrontList}
use Rattle.machine.specs.Results.{refused}
use Rattle.machine.specs.Images.{in_front, in_back, put_front}
use Rattle.machine.specs.Bags.{has}
use Rattle.machine.specs.Machine.{backyard, changed, overflow, overflow_in, take_out, refill, delete_at}
use Rattle.machine.specs.Calls as M
use Rattle.form.specs.Tails.{body, lowered}
use Rattle.form.specs.Calls.{changed_by, delete_of}
use Rattle.answers.specs.Answers.{refusal}
use Rattle.answers.specs.declared.Refusal.{Refusal}
use Rattle.answers.specs.declared.Refusal.TheVariants.{Miscounted}
use Rattle.answers.proofs.ChangeLaws.{changes, change-refused}
use Rattle.image.specs.Steps.ImageReads.{Locates, FrontRead, FrontFull, Exceeds, BothRead}
use Rattle.image.specs.declared.Target.{Target}
use Rattle.image.proofs.ImageReadLaws.{both-accepts, exceeds-absent, at_copies}
use Rattle.image.proofs.ImageWriteLaws.{back-kept}
use Rattle.machine.proofs.BagLaws.{has-yes, has_no}
use Rattle.machine.proofs.Members.{in_back-choice, front_list-swapped}
use Rattle.machine.proofs.BucketWrites.{in_back-put_front}
use Rattle.tails.specs.Steps.Openings.{Opens, header_of}
use Rattle.tails.specs.Steps.Changing.{within, tail_within}
use Rattle.tails.specs.declared.Opened.{Opened}
use Rattle.tails.proofs.OpenLaws.{then-opened}
use Rattle.tails.proofs.CallLaws.{hash-call}
use Rattle.deletion.specs.Steps.Deletions.{DeletesAt, Stands, Leaves, without, refilled, Plans, LeavesFront, Refills, TakesOut}
use Rattle.deletion.specs.declared.Departure.{Departure}
use Rattle.deletion.specs.declared.Refill.{Refill}
use Rattle.deletion.specs.declared.DeletePlan.{DeletePlan}
use Rattle.deletion.specs.declared.DeletePlan.TheVariants as P

-- the members of the target's front bucket
abbrev held : Layout → Target → List ℕ → List ℕ
held L t img = in_front L t.front.0 img

module _ {L : Layout} (t : Target) (img : List ℕ) where
  pub delete-short : FrontRead L t.front.0 img → 0 < copies t.key (held L t img) → length (held L t img) < L.front_slots
      → delete_at L t.size t.front.0 t.key img ≡ changed 0 (put_front L t.front.0 (removed t.key (held L t img)) img)
  unfolding delete_at
  delete-short r h l = rw (r.accepts, has-yes t.key (held L t img) h, lt-ltb (length (held L t img)) L.front_slots l)

  pub absent-short : FrontRead L t.front.0 img → copies t.key (held L t img) ≡ 0 → length (held L t img) < L.front_slots
      → delete_at L t.size t.front.0 t.key img ≡ refused 5 0
  unfolding delete_at
  absent-short r e l = rw (r.accepts, has_no t.key (held L t img) e, ne_eqb (length (held L t img)) L.front_slots (λ q. omega arith))

  pub absent-low : FrontFull L t.front.0 img → copies t.key (held L t img) ≡ 0 → t.key ≤ largest (held L t img) → delete_at L t.size t.front.0 t.key img ≡ refused 5 0
  unfolding delete_at
  absent-low w e l = rw (w.read.accepts, has_no t.key (held L t img) e, eq-eqb (length (held L t img)) L.front_slots w.full, le-ltb (largest (held L t img)) t.key l)

  -- a copy leaves a full front bucket
  module _ (w : FrontFull L t.front.0 img) (h : 0 < copies t.key (held L t img)) where
    pub refill-unsound : {i : ℕ} → backyard L t.size t.front.0 img ≡ refused 3 i → delete_at L t.size t.front.0 t.key img ≡ refused 3 i
    unfolding delete_at
    refill-unsound e = rw (w.read.accepts, has-yes t.key (held L t img) h, le-ltb (length (held L t img)) L.front_slots (omega (arith, w.full)), e)

    pub refill-nothing : BothRead L t.size t.front.0 img → overflow_in L t.size t.front.0 img ≡ []
        → delete_at L t.size t.front.0 t.key img ≡ changed 0 (put_front L t.front.0 (removed t.key (held L t img)) img)
    unfolding delete_at overflow refill
    refill-nothing b e =
        rw (w.read.accepts, has-yes t.key (held L t img) h, le-ltb (length (held L t img)) L.front_slots (omega (arith, w.full)), both-accepts b, e)

    pub refill-least : {d : Departure} {vs : List ℕ} → BothRead L t.size t.front.0 img → overflow_in L t.size t.front.0 img ≡ d.key ∷ vs
        → Leaves L t.size t.front.0 d img → delete_at L t.size t.front.0 t.key img ≡ changed (1 + d.way.bucket.0) (refilled L t d img)
    unfolding delete_at overflow refill take_out refilled
    refill-least b e l =
        rw (
          w.read.accepts,
          has-yes t.key (held L t img) h,
          le-ltb (length (held L t img)) L.front_slots (omega (arith, w.full)),
          both-accepts b,
          e,
          l.chosen,
          in_back-choice L t.size t.front.0 img l.choice,
          l.leads.bucket,
          l.leads.crumb,
        )

  -- a copy may stand behind it
  module _ (e : Exceeds L t.front.0 t.key img) where
    pub behind-unsound : {i : ℕ} → backyard L t.size t.front.0 img ≡ refused 3 i → delete_at L t.size t.front.0 t.key img ≡ refused 3 i
    unfolding delete_at
    behind-unsound u =
        rw (
          e.whole.read.accepts,
          has_no t.key (held L t img) (exceeds-absent e),
          eq-eqb (length (held L t img)) L.front_slots e.whole.full,
          lt-ltb (largest (held L t img)) t.key e.over,
          u,
        )

    pub behind-absent : BothRead L t.size t.front.0 img → has t.key (overflow_in L t.size t.front.0 img) ≡ false
        → delete_at L t.size t.front.0 t.key img ≡ refused 5 0
    unfolding delete_at overflow
    behind-absent b h =
        rw (
          e.whole.read.accepts,
          has_no t.key (held L t img) (exceeds-absent e),
          eq-eqb (length (held L t img)) L.front_slots e.whole.full,
          lt-ltb (largest (held L t img)) t.key e.over,
          both-accepts b,
          h,
        )

    pub behind-taken : {d : Departure} → BothRead L t.size t.front.0 img → has t.key (overflow_in L t.size t.front.0 img) ≡ true
        → d.key ≡ t.key → Leaves L t.size t.front.0 d img
        → delete_at L t.size t.front.0 t.key img ≡ changed (1 + d.way.bucket.0) (without L t.size d img)
    unfolding delete_at overflow take_out without
    behind-taken b h k l =
        rw (
          e.whole.read.accepts,
          has_no t.key (held L t img) (exceeds-absent e),
          eq-eqb (length (held L t img)) L.front_slots e.whole.full,
          lt-ltb (largest (held L t img)) t.key e.over,
          both-accepts b,
          h,
          ← k,
          l.chosen,
          in_back-choice L t.size t.front.0 img l.choice,
          l.leads.bucket,
          l.leads.crumb,
        )

-- ---- the writes of a refill

module _ {L : Layout} (fits : Fits64 L) {t : Target} {r : Refill} {img mid : List ℕ} (p : Refills L t r img)
    (e : mid ≡ put_front L t.front.0 (added r.member.key (removed t.key (in_front L t.front.0 img))) img) where
  swapped : FrontList L (added r.member.key (removed t.key (in_front L t.front.0 img)))
  swapped =
      front_list-swapped L t.key r.member.key (in_front L t.front.0 img) p.swap.read.list (at_copies p.swap.read.list.order p.swap.stands) p.swap.key

  kept : in_back L t.size r.member.way.bucket.0 mid ≡ in_back L t.size r.member.way.bucket.0 img
  kept = rw e (in_back-put_front L fits t.front.0 (added r.member.key (removed t.key (in_front L t.front.0 img))) img p.swap.read.inside swapped t.size r.member.way.bucket.0
      p.placed.within.front)

  -- the member from behind still stands there once front is swapped
  pub stands-kept : Stands L t.size r.member mid
  stands-kept = record {
    back = rw e (back-kept fits t.front.0 (added r.member.key (removed t.key (in_front L t.front.0 img))) img p.swap.read.inside swapped t.size r.member.way.bucket.0
        p.placed.within.front p.stands.back);
    there = rw kept p.stands.there;
    slot = rw kept p.stands.slot;
    crumb = p.stands.crumb;
    key = p.stands.key;
  }

  pub refilled-put : {now : List ℕ} → now ≡ without L t.size r.member mid → now ≡ refilled L t r.member img
  unfolding without refilled
  refilled-put q = q ∙ rw (kept, e)

-- ---- what a plan said

module _ (L : Layout) (t : Target) (img : List ℕ) where
  -- its own refusal, whether the total has room or not
  pub plan-refused : (room : Bool) {why : Refusal} → delete_at L t.size t.front.0 t.key img ≡ refusal why → DeletesAt L t room img (S.Err why) img
  unfolding within
  plan-refused room {why} e = changes (rw e) (change-refused why img)

  -- 12 comes behind it
  pub plan-roomless : (r : DeletePlan) → Plans L t img (S.Ok r) → DeletesAt L t false img (S.Err Miscounted) img
  unfolding within
  plan-roomless (P.Leaves slot) said = changes (rw said.delete) (change-refused Miscounted img)
  plan-roomless (P.Refills r) said = changes (rw said.delete) (change-refused Miscounted img)
  plan-roomless (P.TakesOut d) said = changes (rw said.delete) (change-refused Miscounted img)

  module _ {r : DeletePlan} (said : Plans L t img (S.Ok r)) where
    pub plan-leaves : {slot : ℕ} → r ≡ P.Leaves slot → LeavesFront L t slot img
    plan-leaves e = rw e at said

    pub plan-refills : {q : Refill} → r ≡ P.Refills q → Refills L t q img
    plan-refills e = rw e at said

    pub plan-takes-out : {d : Departure} → r ≡ P.TakesOut d → TakesOut L t d img
    plan-takes-out e = rw e at said

-- ---- on an image that was opened, by the delete of its body

module _ {o : Opened} {img : List ℕ} (s : Opens o img) (k : ℕ) where
  pub delete-entered : delete_of known img k ≡ changed_by (header_of o.size o.total o.changes) (M.delete_of layout1 (body img) k)
      (lowered (record { total = o.total; changes = o.changes }))
  unfolding delete_of
  delete-entered = then-opened (λ h. changed_by h (M.delete_of h.layout (body img) k) (lowered h.tail)) s

  pub delete-opened : {t : Target} → Locates layout1 o.size k t
      → delete_of known img k
      ≡ changed_by (header_of o.size o.total o.changes) (delete_at layout1 t.size t.front.0 t.key (take o.end img))
      (lowered (record { total = o.total; changes = o.changes }))
  unfolding M.delete_of
  delete-opened l = delete-entered ∙ rw (hash-call s l (λ B f x b. delete_at layout1 B f x b))

-- the room that the total has for one less
pub lowered-room : (total changes : ℕ)
    → lowered (record { total = total; changes = changes }) ≡ tail_within (ltb 0 total) (record { total = total - 1; changes = changes + 1 })
unfolding lowered
lowered-room total changes = elim (ℕ_discrete total 0) [
  | yes e ↦ rw (eq-eqb total 0 e, le-ltb 0 total (omega arith))
  | no e ↦ rw (ne_eqb total 0 e, lt-ltb 0 total (omega arith))
]
