-- A run of the calls is its history on the machine: for each call, the definition that its contract equates it with is the one that the
-- history theorem runs (`performed`), and so the image that the calls left is the history's (`kept`).
use mathlib.Core.Path.{◌≡◌, refl, sym, ◌∙◌, ap}
use Prim.Native.Nat.{ℕ}
use mathlib.Core.List.{List}
use native.Mathlib.Omega.{arith}
use lib.ListN.{length}
use Rattle.crumbmap.specs.Layouts.{known}
use Rattle.machine.specs.Results.{Result, accepted, refused, and_then, number}
use Rattle.machine.specs.Machine as M
use Rattle.machine.specs.Pages.{Run}
use Rattle.machine.specs.Calls.{written}
use Rattle.form.specs.Calls.{fresh_of, insert_of, delete_of, page_of, merge_of, target_of}
use Rattle.answers.specs.Answers.{refusal}
use Rattle.answers.specs.declared.Refusal.{Refusal}
use Rattle.answers.proofs.PairLaws.{refusal-number}
use Rattle.history.specs.Histories.{Call, History, Started, layout_number, bytes_after, number_of, image_after}
use Rattle.catalogue.specs.Runs.{Performed, inserted, deleted, asked, counted, paged, Happened, fresh, merge, followed}

-- ---- answers

-- a refusal is no accepted answer
pub refusal-never : (A : Type 0) (x : Refusal) → number (refusal {A = A} x) ≡ 0 → ⊥
refusal-never A x e = omega (arith, refusal-number A x)

-- the answer without the image has the number of the whole
pub number-then : {A C : Type 0} (r : Result A) (f : A → C) → number (and_then r (λ a. accepted (f a))) ≡ number r
number-then (accepted a) f = refl
number-then (refused n i) f = refl

-- ---- one call

-- a call's contract gives the machine's number and image
pub performed : {img : List ℕ} {c : Call} {n : ℕ} {new : List ℕ} → Performed img c n new → (n ≡ number_of known img c) × (new ≡ image_after known img c)
performed {img} (inserted k r new i) = (ap number i.answer ∙ number-then (insert_of known img k) (λ (c : M.Change). c.answer), i.bytes)
performed {img} (deleted k r new d) = (ap number d.answer ∙ number-then (delete_of known img k) (λ (c : M.Change). c.answer), d.bytes)
performed (asked k r e) = (ap number e, refl)
performed (counted k r e) = (ap number e, refl)
performed {img} (paged s changes old r new p) =
    (ap number p.answer ∙ number-then (page_of known img s changes (length old)) (λ (r : Run). (length r.entries, r.next)), refl)

-- ---- a whole history

-- an accepted merge leaves its target with the merged image
target-written : (a : List ℕ) (m : Result (List ℕ)) (old : List ℕ) → number m ≡ 0 → target_of known a m old ≡ written m old
target-written a (accepted img) old e = refl
target-written a (refused n i) old e = rw e refl

pub kept : {h : History} {img : List ℕ} → Happened h img → Started known h × (img ≡ bytes_after known h)
unfolding bytes_after
kept (fresh old new r f e) = (sym (number-then (fresh_of known 1 old) (λ (i : List ℕ). tt)) ∙ sym (ap number f.answer) ∙ e, f.bytes)
kept (merge {a = a} {b = b} old new r p q m e) =
    let x = kept p in
    let y = kept q in
    let n : number (merge_of known (bytes_after known a) (bytes_after known b) old) ≡ 0 =
    rw (x.1, y.1) at (sym (number-then (merge_of known _ _ old) (λ (i : List ℕ). tt)) ∙ sym (ap number m.answer) ∙ e) in
    ((x.0, y.0, n), rw (x.1, y.1) at m.bytes ∙ target-written (bytes_after known a) (merge_of known (bytes_after known a) (bytes_after known b) old) old n)
kept (followed c n new p fits d) =
    let x = kept p in
    ((x.0, fits), rw x.1 at (performed d).1)

-- its image is of layout 1
pub numbered : {h : History} {img : List ℕ} → Happened h img → layout_number h ≡ 1
unfolding layout_number
numbered (fresh old new r f e) = refl
numbered (merge old new r p q m e) = numbered p
numbered (followed c n new p fits d) = numbered p
