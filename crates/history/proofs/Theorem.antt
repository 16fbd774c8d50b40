-- Demand 3, for every numbering of layouts whose buckets fit 64 bytes (`demand3`) and for the layouts that there are (`demand3-known`): after every
-- history each call was refused exactly where it is due, counts and asks tell the ledger, a full walk lists it, and the tail tells its sum.
-- Beside it: check accepts every history's image (`check-accepts`), so each backyard member in it leads home (`members-lead-home`), and a
-- merge of two is refused only when full (`merge-refused-only-full`); no call gets 11 or 12 (`no-tail-number`), 13 comes exactly at the top count
-- (`spent-at-top`), and 14 exactly where a page's count is not the image's (`stale-refused`); one with that count and room enough is accepted
-- (`page-accepted`); new, old, new gives the image with change count 0 (`image_said`, `new-old-new`); what the copies of an ask tell of the ledger
-- (`copies-told`); how few reads there are where b0 = b1 (`ask-reads-once`, `count-reads-once`); an occupancy page tells the ledger
-- (`occupancy-said`, `page-long`, `line-said`, `line-shows`).
use mathlib.Core.Path.{◌≡◌, refl, sym, ◌∙◌}
use mathlib.Core.Logic.{◌⊎◌, inl, inr, ◌↔◌}
use Prim.Native.Nat.{ℕ, ◌+◌, ◌*◌, ◌^◌, ◌≤◌, ◌<◌}
use mathlib.Core.Bool.{Bool, true, false, cond, ◌&&◌}
use mathlib.Core.List.{List, ◌++◌}
use mathlib.Core.Option.{none, some}
use native.Mathlib.Omega.{arith}
use lib.ListN.{length, take, drop}
use lib.Dec.{leb, ltb}
use borrow.Author.Tests.{eq-eqb, lt-ltb, le-ltb, ltb-true}
use Rattle.multiset.specs.Multisets.{sum}
use Rattle.crumbmap.specs.Layouts.{Layout, Numbering, known, keys, fronts, most_behind, most_members}
use Rattle.crumbmap.specs.Fingerprints.{front_of, key_of, fingerprint}
use Rattle.crumbmap.specs.CrumbMap.{coincide}
use Rattle.crumbmap.proofs.LayoutLaws.{known-one}
use Rattle.buckets.proofs.BucketLaws.{fits1}
use Rattle.machine.specs.Results.{accepted, number}
use Rattle.machine.specs.Images.{size_of}
use Rattle.machine.specs.Homes.{AllLeadHome}
use Rattle.machine.specs.Machine.{Asked, Counted, nowhere}
use Rattle.machine.specs.Once.{AskedOnce}
use Rattle.machine.specs.Calls as M
use Rattle.machine.specs.OccupancyPages as O
use Rattle.machine.specs.OccupancyPages.{page_lines, line_bytes, page_bytes, print_from, line_with, line_of}
use Rattle.machine.proofs.CheckLaws.{check-good}
use Rattle.machine.proofs.HomeLaws.{all-lead-home}
use Rattle.machine.proofs.MergeLaws.{MergedWhole, whole, no-space, merge-good}
use Rattle.machine.proofs.AcceptedLaws.{same_answer, test-passed}
use Rattle.machine.proofs.OccupancyLaws.{page-length, page-counted, lines_at}
use Rattle.machine.proofs.ImageLaws.{size_of-some}
use Rattle.machine.proofs.PageLaws.{members-good, bucket-length}
use Rattle.machine.proofs.RoomLaws.{members-room}
use Rattle.machine.proofs.RowLaws.{ask-at}
use Rattle.machine.proofs.CoincideLaws.{ask-once, count-once}
use Rattle.form.specs.Tails.{Tail, body, tail_bytes, started, top}
use Rattle.form.specs.Calls.{ask_of, count_of, check_of, tail_of, merge_sized_of, merge_of, occupancy_of}
use Rattle.form.specs.Moves.{attach_of, detach_of}
use Rattle.form.proofs.TailLaws.{length-body, headed-parts}
use Rattle.form.proofs.MoveLaws as F
use Rattle.history.specs.Histories.{Call, insert, delete, page, Fits, History, Started, blocks, layout_number, number_of, bytes_after}
use Rattle.history.specs.Ledgers.{ledger, filed}
use Rattle.history.specs.Refusals.{due}
use Rattle.history.specs.Demand.{Demand3, AllFit}
use Rattle.history.specs.Copies.{CopiesTold}
use Rattle.history.specs.Occupancies.{filed_in, page_said, Shows}
use Rattle.history.proofs.LedgerLaws.{front-lt, count-ledger, ask-ledger}
use Rattle.history.proofs.StepLaws.{Stands, header_of, total-members, opens_at, opens, ask_of-body, count_of-body, occupancy_of-body}
use Rattle.history.proofs.HistoryLaws.{StandsAfter, check-stands, merge_sized_of-body, stands, stands_at, call-due, all-due}
use Rattle.history.proofs.DueLaws.{tail-numbers, spent-insert, spent-delete, stale-page}
use Rattle.history.proofs.WalkSegments.{full-walk}
use Rattle.history.proofs.ShownLaws.{line-shown}

-- ---- demand 3

pub demand3 : (layouts : Numbering) → AllFit layouts → Demand3 layouts
unfolding tail_of
demand3 layouts fit h s =
    let x = stands layouts fit h s in
    let L : Layout = x.0 in
    let st : StandsAfter layouts L h = x.1 in (
      L,
      st.named,
      record {
        refusals = all-due layouts fit h L s st.named;
        counts = λ k l. rw (count_of-body st k) (count-ledger st.fits st.keep k l);
        asks = λ k l.
            let t = ask-ledger st.fits st.keep k l in
            rw (ask_of-body st k) (t.0, t.1, t.2, t.3);
        walks = λ N gs w. full-walk layouts fit L w s st.named;
        tail = rw (opens st) refl;
        sums = st.sums;
        members = total-members st;
      },
    )

-- the layouts that there are
pub known-fit : AllFit known
known-fit n L e = rw (← known-one n L e) fits1

pub demand3-known : Demand3 known
demand3-known = demand3 known known-fit

-- ---- beside it

-- a merge of two images of one size and layout that stand is accepted or full
merge-number : {layouts : Numbering} {n : ℕ} {L : Layout} {B : ℕ} {a b : List ℕ} {P Q : ℕ → ℕ} {t u : Tail} → Stands layouts n L B a P t
    → Stands layouts n L B b Q u → (number (merge_sized_of layouts B a b) ≡ 0) ⊎ (number (merge_sized_of layouts B a b) ≡ 4)
merge-number {layouts} {n} {L} {B} {a} {b} sa sb = go (merge-good L sa.fits B (body a) (body b) sa.keep.good sb.keep.good)
  where
    go : MergedWhole L B (body a) (body b) → (number (merge_sized_of layouts B a b) ≡ 0) ⊎ (number (merge_sized_of layouts B a b) ≡ 4)
    go (no-space e) = inr (rw (merge_sized_of-body sa sb, e) refl)
    go (whole now e g m) = inl (rw (merge_sized_of-body sa sb, e) refl)

module _ (layouts : Numbering) (fit : AllFit layouts) where
  -- check accepts every image that a history leaves
  pub check-accepts : (h : History) → Started layouts h → check_of layouts (bytes_after layouts h) ≡ accepted tt
  unfolding check_of
  check-accepts h s = let st = (stands layouts fit h s).1 in rw (opens st) (check-stands st)

  -- a merge of two histories' images of one layout into bytes of the same length is accepted or full
  pub merge-refused-only-full : (a b : History) (old : List ℕ) → Started layouts a → Started layouts b → layout_number a ≡ layout_number b
      → length (bytes_after layouts a) ≡ length old → length (bytes_after layouts b) ≡ length old
      → (number (merge_of layouts (bytes_after layouts a) (bytes_after layouts b) old) ≡ 0)
      ⊎ (number (merge_of layouts (bytes_after layouts a) (bytes_after layouts b) old) ≡ 4)
  unfolding merge_of
  merge-refused-only-full a b old sa sb n p q =
      let L : Layout = (stands layouts fit a sa).0 in
      let ga : StandsAfter layouts L a = (stands layouts fit a sa).1 in
      let gb : StandsAfter layouts L b = stands_at layouts fit b L sb (rw n at ga.named) in
      let za : size_of (length (body old)) ≡ some (blocks a) = rw (length-body old, ← p, ← length-body (bytes_after layouts a)) ga.keep.good.size in
      let zb : size_of (length (body old)) ≡ some (blocks b) = rw (length-body old, ← q, ← length-body (bytes_after layouts b)) gb.keep.good.size in
      let same : blocks b ≡ blocks a = cc (zb, za) in
      let hb : Stands layouts (layout_number a) L (blocks a) (bytes_after layouts b) (ledger layouts L b) (filed layouts b) = rw (same, ← n) at gb in
      rw (ga.keep.good.size, hb.keep.good.size, za, eq-eqb (blocks a) (blocks a) refl) (merge-number ga hb)

  -- no call gets a number of a bad tail or of a wrong total
  pub no-tail-number : (h : History) → Started layouts h → (c : Call) → Fits c
      → (number_of layouts (bytes_after layouts h) c ≡ 11 → ⊥) × (number_of layouts (bytes_after layouts h) c ≡ 12 → ⊥)
  no-tail-number h s = let x = stands layouts fit h s in tail-numbers layouts x.0 h x.1

  -- an insert or a delete gets 13 exactly at the top count
  pub spent-at-top : (h : History) → Started layouts h → (k : ℕ) → k < 2 ^ 64
      → ((number_of layouts (bytes_after layouts h) (insert k) ≡ 13) ↔ ((filed layouts h).changes ≡ top))
      × ((number_of layouts (bytes_after layouts h) (delete k) ≡ 13) ↔ ((filed layouts h).changes ≡ top))
  spent-at-top h s k l = let x = stands layouts fit h s in (spent-insert layouts x.0 h x.1 k l, spent-delete layouts x.0 h x.1 k l)

  -- a page gets 14 exactly where the change count that it brings is not the image's
  pub stale-refused : (h : History) → Started layouts h → (s n room : ℕ)
      → (number_of layouts (bytes_after layouts h) (page s n room) ≡ 14) ↔ ((filed layouts h).changes ≡ n → ⊥)
  stale-refused h s from n room = let x = stands layouts fit h s in stale-page layouts x.0 h x.1 from n room

  -- the image is its body with the tail of its total and its change count
  pub image_said : (h : History) → Started layouts h → bytes_after layouts h ≡ body (bytes_after layouts h) ++ tail_bytes (layout_number h) (filed layouts h)
  image_said h s = (stands layouts fit h s).1.form

  -- the move to document 01's form gives the body, and the move back the image again, its change count 0
  pub new-old-new : (h : History) → Started layouts h → (old new : List ℕ)
      → length old ≡ length (body (bytes_after layouts h)) → length new ≡ length (bytes_after layouts h)
      → let b = body (bytes_after layouts h) in
      (detach_of layouts (layout_number h) (bytes_after layouts h) old ≡ accepted b)
      × (attach_of layouts (layout_number h) b new ≡ accepted (b ++ tail_bytes (layout_number h) (started (filed layouts h).total)))
  unfolding detach_of
  new-old-new h s old new p q =
      let L : Layout = (stands layouts fit h s).0 in
      let st : StandsAfter layouts L h = (stands layouts fit h s).1 in
      let size : size_of (length (body (bytes_after layouts h))) ≡ some (blocks h) = st.keep.good.size in
      let room : size_of (length old) ≡ some (blocks h) = rw p size in
      let told = headed-parts layouts (blocks h) (bytes_after layouts h) (header_of (layout_number h) L (blocks h) (filed layouts h)) (opens_at st) in
      let moved : detach_of layouts (layout_number h) (bytes_after layouts h) old ≡ accepted (body (bytes_after layouts h)) =
      rw (size, room, eq-eqb (blocks h) (blocks h) refl, opens_at st, eq-eqb (layout_number h) (layout_number h) refl, check-stands st) refl in
      (moved, F.new-old-new layouts (layout_number h) (bytes_after layouts h) old (body (bytes_after layouts h)) new moved q ∙ rw told.tail refl)

module _ (layouts : Numbering) (fit : AllFit layouts) (h : History) (s : Started layouts h) (L : Layout) (named : layouts (layout_number h) ≡ some L) where
  st : StandsAfter layouts L h
  st = stands_at layouts fit h L s named

  -- each backyard member in it leads by its crumb back to a front bucket that is full, none larger than the member
  pub members-lead-home : AllLeadHome L (blocks h) (body (bytes_after layouts h))
  members-lead-home =
      all-lead-home L (blocks h) (body (bytes_after layouts h)) (check-good L (blocks h) (body (bytes_after layouts h)) st.keep.good)

  -- the copies that an ask tells after a history: 0 exactly where the place is none, N(g) at most, and N(g) where none can stand behind the front bucket
  pub copies-told : (k : ℕ) → k < 2 ^ 64 → (a : Asked) × (ask_of layouts (bytes_after layouts h) k ≡ accepted a)
      × CopiesTold layouts L h k a.copies (a.place ≡ nowhere)
  copies-told k l =
      let t = ask-ledger st.fits st.keep k l in
      rw (ask_of-body st k) (t.0, t.1, t.4)

  -- at a front bucket whose two backyard buckets coincide an ask has at most 2 reads, and its place is never first; a count has at most 2 reads
  module _ (k : ℕ) (c : coincide (blocks h) (front_of (blocks h) k) ≡ true) where
    pub ask-reads-once : k < 2 ^ 64 → {a : Asked} → ask_of layouts (bytes_after layouts h) k ≡ accepted a → AskedOnce a
    ask-reads-once l e =
        let b = body (bytes_after layouts h) in
        ask-once L (blocks h) (front_of (blocks h) k) (key_of L k) b c (front-lt st.keep k l)
        (sym (ask_of-body st k ∙ ask-at L b st.keep.good.size k) ∙ e)

    pub count-reads-once : {n : Counted} → count_of layouts (bytes_after layouts h) k ≡ accepted n → n.reads ≤ 2
    unfolding M.count_of
    count-reads-once e =
        let b = body (bytes_after layouts h) in
        count-once L (blocks h) (front_of (blocks h) k) (key_of L k) b c (rw st.keep.good.size at (sym (count_of-body st k) ∙ e))

  -- an occupancy page after a history is the one that its ledger says
  pub occupancy-said : (p room : ℕ) → occupancy_of layouts (bytes_after layouts h) p room ≡ page_said layouts L h p room
  unfolding O.occupancy_of print_from page_said filed_in
  occupancy-said p room =
      rw (
        occupancy_of-body st p room,
        st.keep.good.size,
        page-counted L (blocks h) (body (bytes_after layouts h)) (ledger layouts L h) st.keep.good st.keep.says page_lines (page_lines * p),
      )

  -- it is as long as 24 lines
  pub page-long : (p room : ℕ) (text : List ℕ) → occupancy_of layouts (bytes_after layouts h) p room ≡ accepted text → length text ≡ page_bytes L
  page-long p room text e = page-length L (body (bytes_after layouts h)) p room text (sym (occupancy_of-body st p room) ∙ e)

  -- line i of such a page: its two counts are the front slots' share of what is filed in that front bucket, and the rest
  pub line-said : (p room i : ℕ) (text : List ℕ) → i < page_lines → page_lines * p + i < fronts (blocks h)
      → occupancy_of layouts (bytes_after layouts h) p room ≡ accepted text
      → let f = page_lines * p + i in take (line_bytes L) (drop (i * line_bytes L) text) ≡ line_with L f (filed_in L (ledger layouts L h) f)
  unfolding page_said line_of
  line-said p room i text l k e =
      let past = test-passed (leb (fronts (blocks h)) (page_lines * p)) 6 0 (sym (occupancy-said p room) ∙ e) in
      let t = same_answer (test-passed (ltb room (page_bytes L)) 7 0 past) in
      rw (← t)
      (lines_at L (filed_in L (ledger layouts L h)) (fronts (blocks h)) page_lines (page_lines * p) i l
      ∙ rw (lt-ltb (page_lines * p + i) (fronts (blocks h)) k))

  -- a front bucket and those behind it have no more slots
  filed-room : (f : ℕ) → f < fronts (blocks h) → filed_in L (ledger layouts L h) f ≤ most_members L
  unfolding filed_in
  filed-room f k =
      let m = members-good L (blocks h) (body (bytes_after layouts h)) st.keep.good f k in
      rw (← bucket-length L (blocks h) (body (bytes_after layouts h)) st.keep.good (ledger layouts L h) st.keep.says f m.0 k m.2)
      (members-room L (blocks h) f (body (bytes_after layouts h)) m.0 m.1)

  -- a page up to F with the image's count and room for any front bucket is accepted: a walk with such outputs comes to its end, unless the image changes
  pub page-accepted : (from room : ℕ) → from ≤ fronts (blocks h) → most_members L ≤ room
      → number_of layouts (bytes_after layouts h) (page from (filed layouts h).changes room) ≡ 0
  unfolding due filed_in
  page-accepted from room l r =
      call-due layouts h L st (page from (filed layouts h).changes room) tt
      ∙ rw (eq-eqb (filed layouts h).changes (filed layouts h).changes refl, le-ltb (fronts (blocks h)) from l) (fits (ltb from (fronts (blocks h))) refl)
    where
      held : ℕ
      held = sum (ledger layouts L h) (fingerprint L from 0) (keys L)

      fits : (b : Bool) → ltb from (fronts (blocks h)) ≡ b → ◌≡◌ {A = ℕ} (cond (b && ltb room held) 7 0) 0
      fits true e = rw (le-ltb room held (omega (arith, filed-room from (ltb-true _ _ e)))) refl
      fits false e = refl

  -- and whoever reads its numbers reads these
  pub line-shows : L.front_slots < 10 ^ 2 → most_behind L < 10 ^ 2 → (p room i : ℕ) (text : List ℕ)
      → i < page_lines → page_lines * p + i < fronts (blocks h) → occupancy_of layouts (bytes_after layouts h) p room ≡ accepted text
      → let f = page_lines * p + i in Shows L f (filed_in L (ledger layouts L h) f) (take (line_bytes L) (drop (i * line_bytes L) text))
  unfolding fronts
  line-shows q r p room i text l k e =
      let f : ℕ = page_lines * p + i in
      let small = (size_of-some (length (body (bytes_after layouts h))) (blocks h) st.keep.good.size).2 in
      rw (line-said p room i text l k e)
      (line-shown L f (filed_in L (ledger layouts L h) f) (omega arith) q (omega (arith, filed-room f k)))
