-- Turns one after another are one turn, and all of a run, with the last line, prints what the whole input is answered by.
-- Main result: whole.
use mathlib.Core.Path.{◌≡◌, refl, sym, ◌∙◌}
use Prim.Native.Nat.{ℕ, zero, suc, ◌+◌, ◌-◌, ◌≤◌, ◌<◌}
use mathlib.Core.Bool.{true}
use mathlib.Core.List.{List, [], ◌∷◌, ◌++◌, append_assoc, append-nil}
use native.Mathlib.Omega.{arith}
use native.Mathlib.Numerals.{add-one}
use lib.ListN.{length, take, drop, get_or}
use lib.Seq.{take-add, take-length, take-nil, take-suc, take-append_seam}
use Rattle.crumbmap.specs.Layouts.{known}
use Rattle.machine.specs.Images.{size_of, length_of}
use Rattle.machine.specs.Calls.{written}
use Rattle.form.specs.Calls.{fresh_of}
use Rattle.form.proofs.TailLaws.{length-body}
use Rattle.text.specs.Texts.{over}
use Rattle.frame.specs.Frames.{frame_of, text_of, image_after, fit, Answers}
use Rattle.std.specs.Prelude as S
use Rattle.std.specs.Option.{unwrap_or}
use Rattle.frame.specs.declared.Frame.{Frame}
use Rattle.text.proofs.PrintLaws.{over-whole}
use Rattle.frame.proofs.PerformLaws.{fit-both}
use Rattle.lines.specs.Inputs.{lines_after, frames_after, text_of_frames, image_of_frames, start_image, output_of, image_of_input}
use Rattle.lines.specs.Steps.Turns.{Turn, Holds, Replies, Steps, Ends, Taken, none, step, Run, start, piece, joined}
use Rattle.lines.specs.declared.Held.{Held}
use Rattle.lines.proofs.LineLaws.{reads_none, reads-newline, reads_on}

text-append : (fs gs : List (S.Option Frame)) (img : List ℕ) → text_of_frames (fs ++ gs) img ≡ text_of_frames fs img ++ text_of_frames gs (image_of_frames fs img)
unfolding text_of_frames image_of_frames
text-append [] gs img = refl
text-append (f ∷ fs) gs img =
    rw (text-append fs gs (image_after f img)) (sym (append_assoc (text_of f img) (text_of_frames fs (image_after f img)) _))

image-append : (fs gs : List (S.Option Frame)) (img : List ℕ) → image_of_frames (fs ++ gs) img ≡ image_of_frames gs (image_of_frames fs img)
unfolding image_of_frames
image-append [] gs img = refl
image-append (f ∷ fs) gs img = image-append fs gs (image_after f img)

turn-none : (img held : List ℕ) → Turn img held [] [] img held
unfolding text_of_frames image_of_frames
turn-none img held = record { frames = []; reads = reads_none held; printed = refl; performed = refl }

turn_on : {img held bs text img₁ held₁ cs more img₂ held₂ : List ℕ} → Turn img held bs text img₁ held₁ → Turn img₁ held₁ cs more img₂ held₂
    → Turn img held (bs ++ cs) (text ++ more) img₂ held₂
turn_on {img} {held} {bs} {text} {img₁} {held₁} {cs} {more} {img₂} {held₂} p q =
    record {
      frames = p.frames ++ q.frames;
      reads = reads_on held bs held₁ cs held₂ p.frames q.frames p.reads q.reads;
      printed = rw (text-append p.frames q.frames img, sym p.performed, sym p.printed, sym q.printed);
      performed = q.performed ∙ rw p.performed (sym (image-append p.frames q.frames img));
    }

-- ---- a run

-- steps up to a byte of a piece are one turn
taken-turn : {img held p : List ℕ} {at : ℕ} {text img' held' : List ℕ} → Taken img held p at text img' held' → Turn img held (take at p) text img' held'
taken-turn {img} {held} none = turn-none img held
taken-turn {img} {held} {p} (step {at = at} {s = s} t u) = rw (take-add at s.used p) (turn_on (taken-turn t) u.turn)

joined_snoc : (ps : List (List ℕ)) (p : List ℕ) → joined (ps ++ (p ∷ [])) ≡ joined ps ++ p
unfolding joined
joined_snoc [] p = append-nil p
joined_snoc (q ∷ ps) p = rw (joined_snoc ps p) (sym (append_assoc q (joined ps) p))

run-turn : {ps : List (List ℕ)} {text img held : List ℕ} → Run ps text img held → Turn start_image [] (joined ps) text img held
unfolding joined
run-turn start = turn-none start_image []
run-turn (piece {pieces = ps} {p = p} r t) = rw (joined_snoc ps p) (turn_on (run-turn r) (rw (take-length p) at (taken-turn t)))

-- however the input is cut into pieces, what the steps and the end print is what the whole input is answered by
pub whole : {ps : List (List ℕ)} {text img held img' out : List ℕ} {n : ℕ} → Run ps text img held → Ends img held n img' out
    → (text ++ take n out ≡ output_of (joined ps)) × (img' ≡ image_of_input (joined ps))
unfolding output_of image_of_input
whole {ps} {text} {img} {held} {img'} {out} {n} r e =
    let t = run-turn r in
    let f : frames_after [] (joined ps) ≡ t.frames ++ frames_after held [] = rw append-nil at (t.reads []) in (
      rw (f, text-append t.frames (frames_after held []) start_image, sym t.performed, sym t.printed, e.text),
      rw (f, image-append t.frames (frames_after held []) start_image, sym t.performed) e.image,
    )

-- ---- what the functions give

-- "a fresh image with B = 3"
pub started : (old new : List ℕ) → length old ≡ 2240 → new ≡ written (fresh_of known 1 old) old → new ≡ start_image
unfolding fresh_of size_of length_of
started old new l e = e ∙ rw (length-body old, l)

-- image and output fit, so there is a text
pub replied : (input old out new printed : List ℕ) (r : S.Option ℕ) → length old ≡ 2240 → length out ≡ 29397 → Answers input old out r new printed
    → Replies input old (unwrap_or r 0) new printed
unfolding over
replied input old out new printed r h l a =
    let f : fit old out ≡ true = fit-both old out h (omega arith) in
    let e : r ≡ S.Some (length (text_of (frame_of input) old)) = rw f at a.count in
    let p : printed ≡ over 0 (text_of (frame_of input) old) out = rw f at a.text in
    rw e
    (record {
      room = rw p (over-whole (text_of (frame_of input) old) out);
      text = rw p (take-append_seam (text_of (frame_of input) old) _);
      image = rw f at a.image;
    })

-- the end with nothing held
pub ends-none : (img out : List ℕ) (line : List ℕ) (held : ℕ) → held ≡ 0 → Ends img (take held line) 0 img out
unfolding lines_after text_of_frames image_of_frames
ends-none img out line held e = rw e (record { room = omega arith; text = refl; image = refl })

-- the end with a line held
pub ends-line : (img img' out held : List ℕ) (n : ℕ) → 0 < length held → Replies held img n img' out → Ends img held n img' out
unfolding lines_after text_of_frames image_of_frames
ends-line img img' out [] n h r = absurd (omega arith)
ends-line img img' out (b ∷ bs) n h r = record { room = r.room; text = r.text ∙ sym (append-nil (text_of (frame_of (b ∷ bs)) img)); image = r.image }

-- the bytes of a buffer from one place up to another
pub part-taken : (from n : ℕ) (l : List ℕ) → from ≤ n → take (n - from) (drop from l) ≡ drop from (take n l)
part-taken zero n l h = let e : n - 0 ≡ n = omega arith in rw e
part-taken (suc f) zero l h = absurd (omega arith)
part-taken (suc f) (suc n) [] h = take-nil (suc n - suc f)
part-taken (suc f) (suc n) (x ∷ xs) h = let e : suc n - suc f ≡ n - f = omega arith in rw e (part-taken f n xs (omega arith))

-- no newline came
pub steps_all : (img held bytes line out : List ℕ) (h : Held) → h.used ≡ length bytes → Holds held bytes h line
    → Steps img held bytes (record { used = h.used; held = h.held; text = 0 }) img line out
unfolding text_of_frames image_of_frames
steps_all img held bytes line out h e p =
    record {
      few = p.few;
      room = omega arith;
      within = p.within;
      some = λ l. omega arith;
      turn = record { frames = []; reads = p.reads; printed = refl; performed = refl };
    }

-- a newline came, and the line is answered
pub steps-line : (img held bytes line img' out : List ℕ) (h : Held) (n : ℕ) → (h.used ≡ length bytes → ⊥) → Holds held bytes h line
    → Replies (take h.held line) img n img' out → Steps img held bytes (record { used = h.used + 1; held = 0; text = n }) img' line out
unfolding text_of_frames image_of_frames
steps-line img held bytes line img' out h n e p r =
    let l : h.used < length bytes = omega (arith, p.within) in
    let k : List ℕ = take h.held line in
    let b : ℕ = get_or bytes h.used 0 in
    record {
      few = omega arith;
      room = r.room;
      within = omega arith;
      some = λ m. omega arith;
      turn = record {
        frames = frame_of k ∷ [];
        reads = rw (add-one h.used, take-suc bytes h.used 0 l)
            (reads_on held (take h.used bytes) k (b ∷ []) [] [] (frame_of k ∷ []) p.reads (reads-newline k b (p.newline l)));
        printed = r.text ∙ sym (append-nil (text_of (frame_of k) img));
        performed = r.image;
      };
    }

-- what is known of steps
pub ruleset stepped = (steps_all, steps-line, part-taken)
