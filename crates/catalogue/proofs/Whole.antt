-- The contracts and the history theorem joined: demand 3 holds of the calls themselves, and what C-14 says of the total (`demand`); inserts and deletes
-- get 13 exactly at the top count (`calls-spend`), and a page 14 exactly where its count is not the image's (`calls-notice`); one with that count and
-- room enough is accepted (`calls-list`). Each backyard member in the image that they left leads home (`calls-lead-home`), the copies of an ask tell of
-- the ledger (`calls-tell-copies`), asks and counts have few reads where b0 = b1 (`calls-read-once`), and its occupancy pages tell the ledger
-- (`calls-tell-occupancy`, `calls-show-occupancy`).
use mathlib.Core.Path.{◌≡◌, refl, sym, ◌∙◌, ap}
use mathlib.Core.Logic.{◌↔◌, ◌⊎◌, inl, inr, ⊎_elim}
use Prim.Native.Nat.{ℕ, ◌+◌, ◌*◌, ◌^◌, ◌<◌, ◌≤◌}
use mathlib.Core.Bool.{true}
use mathlib.Core.List.{List, ◌++◌}
use mathlib.Core.Option.{some}
use lib.ListN.{length, take, drop, length-drop}
use lib.Seq.{take-append-le, drop-append-le}
use native.Mathlib.Omega.{arith}
use Rattle.std.specs.Prelude as S
use Rattle.crumbmap.specs.Layouts.{Layout, known, layout1, fronts, most_members}
use Rattle.crumbmap.specs.Fingerprints.{front_of, key_of}
use Rattle.crumbmap.specs.CrumbMap.{coincide}
use Rattle.machine.specs.Homes.{AllLeadHome}
use Rattle.machine.specs.Results.{Result, accepted, refused, number}
use Rattle.machine.specs.Machine as M
use Rattle.machine.specs.OccupancyPages.{page_lines, line_bytes}
use Rattle.form.specs.Tails as F
use Rattle.form.specs.Tails.{body, top}
use Rattle.form.specs.Calls.{ask_of, count_of, check_of, tail_of, merge_of, occupancy_of}
use Rattle.answers.specs.Answers.{outcome_of, asked_of, counted_of, tailed_of, place_of, Prints, Occupancies, Merges}
use Rattle.answers.specs.declared.Refusal.{Refusal}
use Rattle.answers.specs.declared.Counted.{Counted}
use Rattle.answers.specs.declared.Asked.{Asked}
use Rattle.answers.specs.declared.Place.{Place}
use Rattle.answers.specs.declared.Place.TheVariants as P
use Rattle.answers.specs.declared.Tail.{Tail}
use Rattle.history.specs.Histories as H
use Rattle.history.specs.Histories.{Call, History, Fits, Started, blocks, layout_number, bytes_after}
use Rattle.history.specs.Ledgers.{ledger, smaller, filed}
use Rattle.history.specs.Refusals.{due}
use Rattle.history.specs.Demand.{Holds}
use Rattle.history.specs.Copies.{CopiesTold}
use Rattle.history.specs.Occupancies.{filed_in, page_said, Shows}
use Rattle.history.proofs.Theorem.{known-fit, demand3-known, check-accepts, merge-refused-only-full, no-tail-number, spent-at-top, stale-refused}
use Rattle.history.proofs.Theorem.{members-lead-home, copies-told, ask-reads-once, count-reads-once, occupancy-said, page-long, page-accepted, line-shows}
use Rattle.catalogue.specs.Runs.{Performed, Happened}
use Rattle.catalogue.specs.Delivery.{Demand, times_filed}
use Rattle.machine.proofs.AcceptedLaws.{same_answer, never-refused}
use Rattle.catalogue.proofs.ToldRuns.{refusal-never, number-then, performed, kept, numbered}
use Rattle.catalogue.proofs.ToldWalks.{walk-told}

-- ---- what a caller meets

-- an answer that the machine accepts is accepted, with the machine's values
count-accepted : (r : S.Result Counted Refusal) (m : M.Counted) → counted_of r ≡ accepted m
    → (c : Counted) × (r ≡ S.Ok c) × (c.copies ≡ m.copies) × (c.reads ≡ m.reads)
count-accepted (S.Ok c) m e = let s = same_answer e in (c, refl, ap (λ (x : M.Counted). x.copies) s, ap (λ (x : M.Counted). x.reads) s)
count-accepted (S.Err x) m e = absurd (refusal-never M.Counted x (ap number e))

ask-accepted : (r : S.Result Asked Refusal) (m : M.Asked) → asked_of r ≡ accepted m
    → (a : Asked) × (r ≡ S.Ok a) × (a.reads ≡ m.reads) × (place_of a.place ≡ m.place) × (a.copies ≡ m.copies)
ask-accepted (S.Ok a) m e =
    let s = same_answer e in
    (a, refl, ap (λ (x : M.Asked). x.reads) s, ap (λ (x : M.Asked). x.place) s, ap (λ (x : M.Asked). x.copies) s)
ask-accepted (S.Err x) m e = absurd (refusal-never M.Asked x (ap number e))

tail-accepted : (r : S.Result Tail Refusal) (m : F.Tail) → tailed_of r ≡ accepted m
    → (t : Tail) × (r ≡ S.Ok t) × (t.total ≡ m.total) × (t.changes ≡ m.changes)
tail-accepted (S.Ok t) m e = let s = same_answer e in (t, refl, ap (λ (x : F.Tail). x.total) s, ap (λ (x : F.Tail). x.changes) s)
tail-accepted (S.Err x) m e = absurd (refusal-never F.Tail x (ap number e))

outcome-accepted : (r : S.Result (Unit {0}) Refusal) → outcome_of r ≡ accepted tt → r ≡ S.Ok tt
outcome-accepted (S.Ok u) e = refl
outcome-accepted (S.Err x) e = absurd (refusal-never (Unit {0}) x (ap number e))

-- nowhere, in the code's words and in the machine's
nowhere-place : (p : Place) → place_of p ≡ M.nowhere → p ≡ P.Nowhere
nowhere-place P.Nowhere e = refl
nowhere-place (P.Front i) e = let z : ◌≡◌ {A = ℕ} 0 1 = cc in absurd (omega arith)
nowhere-place (P.First i) e = let z : ◌≡◌ {A = ℕ} 0 1 = cc in absurd (omega arith)
nowhere-place (P.Second i) e = let z : ◌≡◌ {A = ℕ} 0 1 = cc in absurd (omega arith)

-- a history of layout 1
known-one : (h : History) → layout_number h ≡ 1 → known (layout_number h) ≡ some layout1
known-one h n = rw n refl

holds_at : (h : History) → Started known h → layout_number h ≡ 1 → Holds known layout1 h
holds_at h s n = go (demand3-known h s)
  where
    go : (L : Layout) × (known (layout_number h) ≡ some L) × Holds known L h → Holds known layout1 h
    go (L, e, x) = let same : L ≡ layout1 = cc (e, known-one h n) in rw same at x

module _ {h : History} {img : List ℕ} (happened : Happened h img) where
  started : Started known h
  started = (kept happened).0

  left : img ≡ bytes_after known h
  left = (kept happened).1

  named : known (layout_number h) ≡ some layout1
  named = known-one h (numbered happened)

  holds : Holds known layout1 h
  holds = holds_at h started (numbered happened)

  next-due : (c : Call) (n : ℕ) (new : List ℕ) → Fits c → Performed img c n new → n ≡ due known layout1 h c
  unfolding layout_number
  next-due c n new fits d = (performed d).0 ∙ rw left (holds_at (H.followed h c) (started, fits) (numbered happened)).refusals.1

  count-tells : (k : ℕ) (r : S.Result Counted Refusal) → k < 2 ^ 64 → counted_of r ≡ count_of known img k → (c : Counted) × (r ≡ S.Ok c) × (c.copies ≡ times_filed h k)
  count-tells k r l e = let m = holds.counts k l in let c = count-accepted r _ ((rw left at e) ∙ m.1) in (c.0, c.1, c.2)

  ask-tells : (k : ℕ) (r : S.Result Asked Refusal) → k < 2 ^ 64 → asked_of r ≡ ask_of known img k → (a : Asked) × (r ≡ S.Ok a)
      × ((a.place ≡ P.Nowhere → ⊥) ↔ (0 < times_filed h k))
      × ((1 < a.reads) ↔ (layout1.front_slots ≤ smaller layout1 (ledger known layout1 h) (front_of (blocks h) k) (key_of layout1 k)))
  ask-tells k r l e =
      let m = holds.asks k l in
      let a = ask-accepted r _ ((rw left at e) ∙ m.1) in (
        a.0,
        a.1,
        ((λ other. m.2.0 (λ none. other (nowhere-place _ (a.3 ∙ none)))), λ some none. m.2.1 some (sym a.3 ∙ ap place_of none)),
        rw a.2 m.3,
      )

  tail-tells : (r : S.Result Tail Refusal) → tailed_of r ≡ tail_of known img
      → (t : Tail) × (r ≡ S.Ok t) × (t.total ≡ (filed known h).total) × (t.changes ≡ (filed known h).changes)
  tail-tells r e = tail-accepted r (filed known h) ((rw left at e) ∙ holds.tail)

  never-tail-number : (c : Call) (n : ℕ) (new : List ℕ) → Fits c → Performed img c n new → (n ≡ 11 → ⊥) × (n ≡ 12 → ⊥)
  never-tail-number c n new fits d = rw ((performed d).0, left) (no-tail-number known known-fit h started c fits)

  checked : (r : S.Result (Unit {0}) Refusal) → outcome_of r ≡ check_of known img → r ≡ S.Ok tt
  checked r e = outcome-accepted r ((rw left at e) ∙ check-accepts known known-fit h started)

merge-only-full : {h g : History} {img x : List ℕ} → Happened h img → Happened g x → (old new : List ℕ) (r : S.Result (Unit {0}) Refusal) → length img ≡ length old
    → length x ≡ length old → Merges img x old r new → (number (outcome_of r) ≡ 0) ⊎ (number (outcome_of r) ≡ 4)
merge-only-full {h} {g} {img} {x} p q old new r a b m =
    rw (ap number m.answer ∙ number-then (merge_of known img x old) (λ (i : List ℕ). tt), left p, left q)
    (merge-refused-only-full known known-fit h g old (started p) (started q) (numbered p ∙ sym (numbered q)) (rw (left p) at a) (rw (left q) at b))

pub demand : Demand
demand h img happened =
    record {
      refusals = next-due happened;
      counts = count-tells happened;
      asks = ask-tells happened;
      walks = λ N gs w. (holds happened).walks N gs (walk-told happened w);
      tails = tail-tells happened;
      sums = (holds happened).sums;
      members = rw (left happened) (holds happened).members;
      no-tail-number = never-tail-number happened;
      checks = checked happened;
      merges = λ q. merge-only-full happened q;
    }

-- and an insert or a delete of the image that the calls left gets 13 exactly where as many were accepted since its start as the tail can count
pub calls-spend : {h : History} {img : List ℕ} → Happened h img → (k n : ℕ) (new : List ℕ) → k < 2 ^ 64
    → (Performed img (H.insert k) n new → (n ≡ 13) ↔ ((filed known h).changes ≡ top))
    × (Performed img (H.delete k) n new → (n ≡ 13) ↔ ((filed known h).changes ≡ top))
calls-spend {h} happened k n new l =
    let t = spent-at-top known known-fit h (started happened) k l in
    ((λ d. rw ((performed d).0, left happened) t.0), λ d. rw ((performed d).0, left happened) t.1)

-- and a page of that image gets 14 exactly where the change count that it brings is not the image's
pub calls-notice : {h : History} {img : List ℕ} → Happened h img → (s changes room n : ℕ) (new : List ℕ)
    → Performed img (H.page s changes room) n new → (n ≡ 14) ↔ ((filed known h).changes ≡ changes → ⊥)
calls-notice {h} happened s changes room n new d =
    rw ((performed d).0, left happened) (stale-refused known known-fit h (started happened) s changes room)

-- with the image's count, from F or before it and into 72 entries or more, it is accepted: a walk comes to its end, unless the image changes
pub calls-list : {h : History} {img : List ℕ} → Happened h img → (s room n : ℕ) (new : List ℕ) → s ≤ fronts (blocks h) → most_members layout1 ≤ room
    → Performed img (H.page s (filed known h).changes room) n new → n ≡ 0
calls-list {h} happened s room n new l r d =
    rw ((performed d).0, left happened) (page-accepted known known-fit h (started happened) layout1 (named happened) s room l r)

-- and in the image that the calls left, each backyard member leads by its crumb back to a front bucket that is full, none larger than it
pub calls-lead-home : {h : History} {img : List ℕ} → Happened h img → AllLeadHome layout1 (blocks h) (body img)
calls-lead-home {h} happened = rw (left happened) (members-lead-home known known-fit h (started happened) layout1 (named happened))

-- and the copies that an ask of that image tells are 0 exactly where its place is none, N(g) at most, and N(g) where none can stand behind the front bucket
pub calls-tell-copies : {h : History} {img : List ℕ} → Happened h img → (k : ℕ) (r : S.Result Asked Refusal) → k < 2 ^ 64 → asked_of r ≡ ask_of known img k
    → (a : Asked) × (r ≡ S.Ok a) × CopiesTold known layout1 h k a.copies (a.place ≡ P.Nowhere)
calls-tell-copies {h} happened k r l e =
    let m = copies-told known known-fit h (started happened) layout1 (named happened) k l in
    let a = ask-accepted r _ ((rw (left happened) at e) ∙ m.1) in
    let t = rw (sym a.4) at m.2 in (
      a.0,
      a.1,
      record {
        none = ((λ z. nowhere-place _ (a.3 ∙ t.none.0 z)), λ q. t.none.1 (sym a.3 ∙ ap place_of q));
        most = t.most;
        all = λ c. t.all (⊎_elim (λ q. inl (sym a.3 ∙ ap place_of q)) (λ s. inr s) c);
        few = t.few;
      },
    )

-- and at a front bucket whose two backyard buckets coincide an ask of that image has at most 2 reads and is never told first, and a count has at most 2
pub calls-read-once : {h : History} {img : List ℕ} → Happened h img → (k : ℕ) → k < 2 ^ 64 → coincide (blocks h) (front_of (blocks h) k) ≡ true
    → ((r : S.Result Asked Refusal) → asked_of r ≡ ask_of known img k → (a : Asked) × (r ≡ S.Ok a) × (a.reads ≤ 2) × ((i : ℕ) → a.place ≡ P.First i → ⊥))
    × ((r : S.Result Counted Refusal) → counted_of r ≡ count_of known img k → (c : Counted) × (r ≡ S.Ok c) × (c.reads ≤ 2))
calls-read-once {h} happened k l one = (
  λ r e.
      let m = (holds happened).asks k l in
      let a = ask-accepted r _ ((rw (left happened) at e) ∙ m.1) in
      let o = ask-reads-once known known-fit h (started happened) layout1 (named happened) k one l m.1 in
      (a.0, a.1, omega (arith, a.2, o.few), λ i q. o.not_first i (sym a.3 ∙ ap place_of q)),
  λ r e.
      let m = (holds happened).counts k l in
      let c = count-accepted r _ ((rw (left happened) at e) ∙ m.1) in
      (c.0, c.1, omega (arith, c.3, count-reads-once known known-fit h (started happened) layout1 (named happened) k one m.1)),
)

-- and an occupancy page of that image prints what the ledger says: for each front bucket all of N over its fingerprints, split at 28
pub calls-tell-occupancy : {h : History} {img : List ℕ} → Happened h img → (p : ℕ) (old new : List ℕ) (r : S.Result (Unit {0}) Refusal)
    → Occupancies img p old r new → Prints (page_said known layout1 h p (length old)) old r new
calls-tell-occupancy {h} happened p old new r c =
    rw (left happened, occupancy-said known known-fit h (started happened) layout1 (named happened) p (length old)) at c

-- what an accepted one printed
print-accepted : (m : Result (List ℕ)) (old new : List ℕ) → Prints m old (S.Ok tt) new
    → (text : List ℕ) × (m ≡ accepted text) × (new ≡ text ++ drop (length text) old)
print-accepted (accepted text) old new c = (text, refl, c.bytes)
print-accepted (refused n i) old new c = absurd (never-refused c.answer)

-- a line that lies in a page, of an output that is longer
line-in : (a n : ℕ) (text rest : List ℕ) → a + n ≤ length text → take n (drop a (text ++ rest)) ≡ take n (drop a text)
line-in a n text rest h =
    rw (drop-append-le a text rest (omega arith)) (take-append-le n (drop a text) rest (rw (length-drop a text) (omega arith)))

-- whoever reads line i of an accepted one reads the number of its front bucket, the first 28 of what is filed there, and the rest
pub calls-show-occupancy : {h : History} {img : List ℕ} → Happened h img → (p i : ℕ) (old new : List ℕ) → Occupancies img p old (S.Ok tt) new
    → i < page_lines → page_lines * p + i < fronts (blocks h)
    → let f = page_lines * p + i in Shows layout1 f (filed_in layout1 (ledger known layout1 h) f) (take (line_bytes layout1) (drop (i * line_bytes layout1) new))
calls-show-occupancy {h} happened p i old new c l k =
    let told : Occupancies (bytes_after known h) p old (S.Ok tt) new = rw (left happened) at c in
    let t = print-accepted (occupancy_of known (bytes_after known h) p (length old)) old new told in
    let n = page-long known known-fit h (started happened) layout1 (named happened) p (length old) t.0 t.1 in
    rw (t.2, line-in (i * line_bytes layout1) (line_bytes layout1) t.0 (drop (length t.0) old) (omega arith))
    (line-shows known known-fit h (started happened) layout1 (named happened) (omega arith) (omega arith) p (length old) i t.0 l k t.1)
