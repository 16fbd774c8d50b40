-- An insert or a delete on an opened image, by what it is on the body. Main results: `tail-anew`, the tail with new numbers; `opened_spent`,
-- `opened-refused`, `opened-accepted`, what the call gives and leaves.
use mathlib.Core.Path.{◌≡◌, refl, sym, ◌∙◌}
use Prim.Native.Nat.{ℕ, ◌-◌, ◌^◌, ◌<◌}
use mathlib.Core.Bool.{Bool, true, false, not}
use mathlib.Core.List.{List, ◌++◌}
use native.Mathlib.Omega.{arith}
use Rattle.std.specs.Prelude as S
use lib.ListN.{length, replicate, take, drop, length-drop, take-append-drop}
use lib.Seq.{drop-cons}
use borrow.Rule.Slice.PartMut.{put_mid}
use borrow.Author.Tests.{eq-eqb, ne_eqb}
use Rattle.multiset.specs.Digits.{digits, padded}
use Rattle.multiset.proofs.DigitLaws.{zeros-all_zero}
use Rattle.crumbmap.specs.Layouts.{known, fronts, backyards}
use Rattle.machine.specs.Results.{Result, accepted, refused, and_then}
use Rattle.machine.specs.Machine.{Change}
use Rattle.machine.specs.Calls.{image_of}
use Rattle.machine.proofs.AcceptedLaws.{same_answer, never-refused}
use Rattle.form.specs.Tails.{Tail, Header, rest, mark_of, tail_bytes, top, slots}
use Rattle.form.specs.Calls.{changed_by}
use Rattle.form.proofs.TailLaws.{length_rest, headed-parts}
use Rattle.answers.specs.Answers.{numbered, refusal, answer_of, Changes}
use Rattle.answers.specs.declared.Refusal.{Refusal}
use Rattle.answers.specs.declared.Refusal.TheVariants.{Spent}
use Rattle.answers.proofs.ChangeLaws.{changes, change-refused}
use Rattle.tails.specs.Steps.Openings.{Opens, header_of}
use Rattle.tails.specs.Steps.Changing.{within, tail_within}
use Rattle.tails.specs.declared.Opened.{Opened}
use Rattle.tails.proofs.PartLaws.{rest_part, end-written, end-lent}

-- new numbers before the layout and the rest of a good tail
pub tail-anew : {o : Opened} {img : List ℕ} → Opens o img → (t : Tail)
    → digits 256 8 t.total ++ (digits 256 8 t.changes ++ drop 16 (rest img)) ≡ tail_bytes 1 t
unfolding tail_bytes padded digits mark_of
tail-anew {o} {img} s t =
    let p = headed-parts known o.size img (header_of o.size o.total o.changes) s.header in
    let l : length (rest img) ≡ 64 = length_rest img s.long in
    let z : drop 17 (rest img) ≡ replicate {A = ℕ} 47 0 =
    zeros-all_zero (drop 17 (rest img)) (rw p.zeros tt) ∙ rw (length-drop 17 (rest img), l) in
    rw (drop-cons (rest img) 16 0 (omega arith), ← p.number, z) refl

-- its total is far below 2^64
pub total-low : {o : Opened} {img : List ℕ} → Opens o img → o.total < 2 ^ 32
unfolding slots fronts backyards
total-low {o} {img} s =
    let p = headed-parts known o.size img (header_of o.size o.total o.changes) s.header in
    omega (arith, p.most, s.whole.small)

-- a refusal is the same whatever would have been answered
same-refusal : {A C : Type 0} {n i p q : ℕ} → ◌≡◌ {A = Result A} (refused n i) (refused p q) → ◌≡◌ {A = Result C} (refused p q) (refused n i)
same-refusal {n = n} {i = i} {p = p} {q = q} e = let a : n ≡ p = cc in let b : i ≡ q = cc in rw (a, b) refl

-- the change of the body and then of the tail, by the body's answer
module _ (number : ℕ) (t : Tail) (b : List ℕ) where
  abbrev both : Bool → Result Change → Result Change
  both room m = and_then m λ c. and_then (tail_within room t) λ v. accepted (record { answer = c.answer; image = c.image ++ tail_bytes number v })

  both-refused : (room : Bool) (m : Result Change) (n i : ℕ) → refused n i ≡ answer_of (within room m)
      → (both room m ≡ refused n i) × (image_of (within room m) b ≡ b)
  unfolding within
  both-refused true (accepted c) n i e = absurd (never-refused (sym e))
  both-refused false (accepted c) n i e = (same-refusal e, refl)
  both-refused room (refused p q) n i e = (same-refusal e, refl)

  both-accepted : (room : Bool) (m : Result Change) (a : ℕ) → accepted a ≡ answer_of (within room m)
      → both room m ≡ accepted (record { answer = a; image = image_of (within room m) b ++ tail_bytes number t })
  unfolding within
  both-accepted true (accepted c) a e = rw (same_answer e) refl
  both-accepted false (accepted c) a e = absurd (never-refused e)
  both-accepted room (refused p q) a e = absurd (never-refused e)

module _ (h : Header) (m : Result Change) (u : Result Tail) where
  pub change-spent : h.tail.changes ≡ top → changed_by h m u ≡ refused 13 0
  unfolding changed_by
  change-spent e = rw (eq-eqb h.tail.changes top e)

  module _ (left : h.tail.changes ≡ top → ⊥) (room : Bool) (t : Tail) (adjusts : u ≡ tail_within room t)
      {b now : List ℕ} {r : S.Result ℕ Refusal} (said : Changes (within room m) b r now) where
    -- a refusal is the call's, and the body is as it was
    pub body_refused : {why : Refusal} → r ≡ S.Err why → (changed_by h m u ≡ refusal why) × (now ≡ b)
    unfolding changed_by
    body_refused {why} e =
        let w = both-refused h.number t b room m (numbered why).0 (numbered why).1 (rw e at said.answer) in
        (rw (ne_eqb h.tail.changes top left, adjusts) w.0, said.bytes ∙ w.1)

    pub body-accepted : {a : ℕ} → r ≡ S.Ok a → changed_by h m u ≡ accepted (record { answer = a; image = now ++ tail_bytes h.number t })
    unfolding changed_by
    body-accepted {a} e =
        rw (ne_eqb h.tail.changes top left, adjusts, said.bytes) (both-accepted h.number t b room m a (rw e at said.answer))

-- ---- a call that is such a change, on an image that was opened

pub within-room : (room : Bool) (m : Result Change) → not room ≡ false → within room m ≡ m
unfolding within
within-room true (accepted c) e = refl
within-room true (refused n i) e = refl
within-room false m e = let z : ◌≡◌ {A = ℕ} 0 1 = cc in absurd (omega arith)

-- where the body's change was accepted, the total had room
no_room : (m : Result Change) {a : ℕ} → accepted a ≡ answer_of (within false m) → ⊥
unfolding within
no_room (accepted c) e = never-refused e
no_room (refused n i) e = never-refused e

pub had-room : (room : Bool) (m : Result Change) {b now : List ℕ} {r : S.Result ℕ Refusal} {a : ℕ} → Changes (within room m) b r now → r ≡ S.Ok a → room ≡ true
had-room true m said e = refl
had-room false m said e = absurd (no_room m (rw e at said.answer))

module _ {o : Opened} {img : List ℕ} (s : Opens o img) {call : Result Change} (m : Result Change) (u : Result Tail)
    (is : call ≡ changed_by (header_of o.size o.total o.changes) m u) where
  pub opened_spent : o.changes ≡ top → Changes call img (S.Err Spent) img
  opened_spent e = changes (is ∙ change-spent (header_of o.size o.total o.changes) m u e) (change-refused Spent img)

  module _ (left : o.changes ≡ top → ⊥) (room : Bool) (t : Tail) (adjusts : u ≡ tail_within room t)
      {last : List ℕ} {r : S.Result ℕ Refusal} (said : Changes (within room m) (take o.end img) r last) where
    -- the body came back as it was
    pub opened-refused : {why : Refusal} → r ≡ S.Err why → Changes call img (S.Err why) (last ++ drop o.end img)
    opened-refused {why} e =
        let w = body_refused (header_of o.size o.total o.changes) m u left room t adjusts said e in
        rw (w.1, take-append-drop o.end img) (changes (is ∙ w.0) (change-refused why img))

    -- the body came back changed, and then the tail with its new numbers
    pub opened-accepted : {a : ℕ} {new : List ℕ} → length last ≡ o.end
        → new ≡ digits 256 8 t.total ++ (digits 256 8 t.changes
        ++ drop 16 (take (length (last ++ drop o.end img) - o.end) (drop o.end (last ++ drop o.end img))))
        → r ≡ S.Ok a
        → Changes call img (S.Ok a) (put_mid o.end (length (last ++ drop o.end img) - o.end) (last ++ drop o.end img) new)
    opened-accepted {a} {new} long wrote e =
        let tail : new ≡ tail_bytes 1 t =
        wrote ∙ rw (end-lent o.end last (drop o.end img) long, rest_part img s.end) (tail-anew s t) in
        rw (end-written o.end last (drop o.end img) new long, tail)
        (changes (is ∙ body-accepted (header_of o.size o.total o.changes) m u left room t adjusts said e) (record { answer = refl; bytes = refl }))
