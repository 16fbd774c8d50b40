-- What a frame prints, by the answer that the library gives. Main results: list-text, list-refused, fit-both.
use mathlib.Core.Path.{◌≡◌, refl, sym, ◌∙◌, ap}
use Prim.Native.Nat.{ℕ, ◌+◌, ◌*◌, ◌≤◌}
use mathlib.Core.Bool.{true}
use mathlib.Core.List.{List, append-nil}
use native.Mathlib.Omega.{arith}
use lib.ListN.{length, take, drop, length-append}
use lib.Seq.{take_at}
use borrow.Author.Tests.{eq-eqb, le-leb}
use Rattle.machine.specs.Results.{Result, accepted, refused, number}
use Rattle.machine.specs.Pages.{Run}
use Rattle.machine.specs.Calls.{output_of}
use Rattle.answers.specs.Answers.{refusal, extent_of}
use Rattle.answers.specs.declared.Refusal.{Refusal}
use Rattle.answers.specs.Pairs.{said_of, refusal_of}
use Rattle.answers.proofs.PairLaws.{refusal-number, said-changed}
use Rattle.text.specs.Texts.{over}
use Rattle.text.specs.Lines.{line, told, entry_lines}
use Rattle.frame.specs.Frames.{list_text, fit}
use Rattle.text.proofs.PrintLaws.{length-line, length-entry_lines, over-next}

-- ---- a list

-- how many there are, of a page that was accepted
extent-count : (r : Run) (n s : ℕ) → accepted (n, s) ≡ extent_of (accepted r) → n ≡ length r.entries
extent-count r n s e = ap (λ (x : Result (ℕ × ℕ)). (said_of (λ (p : ℕ × ℕ). p.0) x).value) e

-- the line of an accepted list and its entries
pub list-text : (p : Result Run) (n s : ℕ) (old new xs ys zs : List ℕ) → accepted (n, s) ≡ extent_of p → new ≡ output_of p old
    → ys ≡ over 0 (line 5 0 n) xs → zs ≡ over 21 (entry_lines (take n new)) ys
    → (21 + 17 * n ≡ length (list_text p)) × (zs ≡ over 0 (list_text p) xs)
list-text (accepted r) n s old new xs ys zs e f y z =
    let es : List ℕ = r.entries in
    let q : n ≡ length r.entries = extent-count r n s e in
    let t : take n new ≡ r.entries = rw (q, f) (take_at r.entries (drop (length r.entries) old) (length r.entries) refl) in
    let u : ys ≡ over 0 (line 5 0 (length r.entries)) xs = y ∙ rw q in
    let v : zs ≡ over 21 (entry_lines r.entries) ys = z ∙ rw t in
    let w : 0 + length (line 5 0 (length r.entries)) ≡ 21 = rw (length-line 5 0 (length r.entries)) in (
      rw (length-append (line 5 0 (length es)) (entry_lines es), length-line 5 0 (length es), length-entry_lines es) (omega arith),
      v ∙ rw u (over-next 0 21 (line 5 0 (length es)) (entry_lines es) xs w (omega arith)),
    )
list-text (refused m i) n s old new xs ys zs e f y z = let g : ◌≡◌ {A = ℕ} 0 1 = cc in absurd (omega arith)

-- the line of a refused list
pub list-refused : (p : Result Run) (why : Refusal) → refusal why ≡ extent_of p → told 5 (refusal_of why) ≡ list_text p
unfolding entry_lines
list-refused (accepted r) why e = absurd (omega (arith, refusal-number (ℕ × ℕ) why, ap number e))
list-refused (refused n i) why e =
    let s : refusal_of why ≡ record { number = n; value = i } = ap (λ (x : Result (ℕ × ℕ)). said_of (λ (p : ℕ × ℕ). p.0) x) e in
    ap (told 5) s ∙ sym (append-nil (line 5 n i))

-- what is known of a line printed
pub ruleset printed = (length-line, said-changed, list-refused)

-- ---- what image and output must be

pub fit-both : (img out : List ℕ) → length img ≡ 2240 → 29397 ≤ length out → fit img out ≡ true
unfolding fit
fit-both img out e h = rw (eq-eqb (length img) 2240 e, le-leb 29397 (length out) h)
