-- The lines of an input: those that were joined come back, and 19 bytes of a line say what all of it says.
-- Main results: lines-joined, lines-last, output-none; kept_full, kept_more, kept_bytes; reads_byte, reads-newline, reads_plain.
use mathlib.Core.Path.{◌≡◌, refl, sym, ◌∙◌, ap}
use Prim.Native.Nat.{ℕ, ◌+◌, ◌-◌, ◌≤◌, ◌<◌, min}
use mathlib.Core.Bool.{Bool, true, false}
use mathlib.Core.List.{List, [], ◌∷◌, ◌++◌, map, append_assoc, append-nil}
use native.Mathlib.Omega.{arith}
use native.Mathlib.Numerals.{add-one}
use lib.ListN.{length, take, get_or, set, length-append}
use lib.Seq.{length-take-le, take_at, take_all, take-suc, take-suc-set, take-append-le, take-append-add}
use lib.Dec.{eqb, leb}
use borrow.Author.Tests.{ne_eqb, leb-true, leb-false}
use borrow.Rule.Slice.PartMut.{put_mid}
use Rattle.frame.specs.Frames.{frame_of}
use Rattle.std.specs.Prelude as S
use Rattle.std.specs.List.{AllByRecursion}
use Rattle.std.proofs.lemmas.List.{take_min}
use Rattle.std.proofs.lemmas.List.Elements.{recursion_from_All}
use Rattle.std.proofs.lemmas.Slice.{take-put_mid}
use Rattle.frame.specs.declared.Frame.{Frame}
use Rattle.frame.proofs.FrameLaws.{frame-length}
use Rattle.lines.specs.Inputs.{last_line, lines_after, frames_after, text_of_frames, output_of}
use Rattle.lines.specs.Steps.Turns.{kept, Reads, Holds}

-- ---- lines joined

-- no newline among bytes
abbrev pub Plain : List ℕ → Type 0
Plain bytes = AllByRecursion (λ (b : ℕ). b ≡ 10 → ⊥) bytes

abbrev pub AllPlain : List (List ℕ) → Type 0
AllPlain [] = Unit {0}
AllPlain (l ∷ ls) = Plain l × AllPlain ls

-- lines, each with its newline
unfoldable pub ended : List (List ℕ) → List ℕ
ended [] = []
ended (l ∷ ls) = l ++ (10 ∷ ended ls)

-- bytes without a newline lengthen the line
plain-after : (line bs rest : List ℕ) → Plain bs → lines_after line (bs ++ rest) ≡ lines_after (line ++ bs) rest
unfolding lines_after
plain-after line [] rest p = rw (append-nil line)
plain-after line (b ∷ bs) rest p =
    rw (ne_eqb b 10 p.0) (plain-after (line ++ (b ∷ [])) bs rest p.1 ∙ rw (append_assoc line (b ∷ []) bs))

-- every line that a newline ends is a line of the input, an empty one too
lines-ended : (ls : List (List ℕ)) (rest : List ℕ) → AllPlain ls → lines_after [] (ended ls ++ rest) ≡ ls ++ lines_after [] rest
unfolding lines_after ended
lines-ended [] rest p = refl
lines-ended (l ∷ ls) rest p =
    rw (append_assoc l (10 ∷ ended ls) rest)
    (plain-after [] l (10 ∷ (ended ls ++ rest)) p.0 ∙ ap (λ (x : List (List ℕ)). l ∷ x) (lines-ended ls rest p.1))

-- a final newline starts no line
pub lines-joined : (ls : List (List ℕ)) → AllPlain ls → lines_after [] (ended ls) ≡ ls
unfolding lines_after
lines-joined ls p = ap (λ (x : List ℕ). lines_after [] x) (sym (append-nil (ended ls))) ∙ lines-ended ls [] p ∙ append-nil ls

-- a last line needs no newline
pub lines-last : (ls : List (List ℕ)) (b : ℕ) (bs : List ℕ) → AllPlain ls → Plain (b ∷ bs) → lines_after [] (ended ls ++ b ∷ bs) ≡ ls ++ ((b ∷ bs) ∷ [])
unfolding lines_after
lines-last ls b bs p q =
    let e : lines_after [] (b ∷ bs) ≡ (b ∷ bs) ∷ [] =
    ap (λ (x : List ℕ). lines_after [] x) (sym (append-nil (b ∷ bs))) ∙ plain-after [] (b ∷ bs) [] q
    in
    lines-ended ls (b ∷ bs) p ∙ ap (λ (x : List (List ℕ)). ls ++ x) e

-- an input without any byte is answered by nothing
pub output-none : output_of [] ≡ []
unfolding output_of lines_after text_of_frames
output-none = refl

-- ---- bytes held

pub kept_full : (line : List ℕ) (n b : ℕ) → length line ≡ 19 → n ≡ 19 → take 19 line ≡ kept (take n line) (b ∷ [])
unfolding kept
kept_full line n b h e = rw (e, take_all 19 line (omega arith)) (sym (take_at line (b ∷ []) 19 h))

pub kept_more : (line : List ℕ) (n b : ℕ) → length line ≡ 19 → n < 19 → take (n + 1) (set line n b) ≡ kept (take n line) (b ∷ [])
unfolding kept
kept_more line n b h l =
    let k : length (take n line ++ (b ∷ [])) ≤ 19 = rw (length-append (take n line) (b ∷ []), length-take-le n line (omega arith)) (omega arith) in
    rw (add-one n, take-suc-set line n b (omega arith)) (sym (take_all 19 (take n line ++ (b ∷ [])) k))

pub kept_bytes : (line bytes new : List ℕ) (n past : ℕ) → length line ≡ 19 → n ≤ 19 → past ≡ min (n + length bytes) 19
    → new ≡ take (past - n) bytes → take past (put_mid n (past - n) line new) ≡ kept (take n line) bytes
unfolding kept
kept_bytes line bytes new n past l h p e =
    let k : length (take n line) ≡ n = length-take-le n line (omega arith) in
    let i : length (take n line) + (19 - n) ≡ 19 = omega (arith, k) in
    let j : past - n ≡ min (19 - n) (length bytes) = omega (arith, p) in
    let m : length new ≡ past - n = rw (e, length-take-le (past - n) bytes (omega arith)) in
    let f : new ≡ take (19 - n) bytes = e ∙ rw j (take_min (19 - n) bytes) in
    let a : past ≡ n + length new = omega (arith, m) in
    let t : take 19 (take n line ++ bytes) ≡ take n line ++ take (19 - n) bytes = rw i at (take-append-add (take n line) bytes (19 - n)) in
    take-put_mid n (past - n) line new past a (omega arith) ∙ rw f (sym t)

-- a byte behind 19 that are held is not held
kept-take : (l : List ℕ) (b : ℕ) → kept (take 19 l) (b ∷ []) ≡ take 19 (l ++ (b ∷ []))
unfolding kept
kept-take l b = go (leb (length l) 19) refl
  where
    go : (t : Bool) → leb (length l) 19 ≡ t → take 19 (take 19 l ++ (b ∷ [])) ≡ take 19 (l ++ (b ∷ []))
    go true e = rw (take_all 19 l (leb-true (length l) 19 e))
    go false e =
        let h : 19 < length l = leb-false (length l) 19 e in
        let k : length (take 19 l) ≡ 19 = length-take-le 19 l (omega arith) in
        take_at (take 19 l) (b ∷ []) 19 k ∙ sym (take-append-le 19 l (b ∷ []) (omega arith))

-- 19 bytes of a line say what all of it says
frame-held : (line : List ℕ) → frame_of (take 19 line) ≡ frame_of line
frame-held line = go (leb (length line) 19) refl
  where
    go : (t : Bool) → leb (length line) 19 ≡ t → frame_of (take 19 line) ≡ frame_of line
    go true e = ap frame_of (take_all 19 line (leb-true (length line) 19 e))
    go false e =
        let h : 19 < length line = leb-false (length line) 19 e in
        let k : length (take 19 line) ≡ 19 = length-take-le 19 line (omega arith) in
        frame-length (take 19 line) (λ f. omega arith) ∙ sym (frame-length line (λ f. omega arith))

-- ---- bytes read

last-held : (l : List ℕ) → map frame_of (last_line (take 19 l)) ≡ map frame_of (last_line l)
last-held [] = refl
last-held (b ∷ bs) = ap (λ (f : S.Option Frame). f ∷ []) (frame-held (b ∷ bs))

byte-held : (l bs : List ℕ) (b : ℕ) (t : Bool) → eqb b 10 ≡ t → ((k : List ℕ) → frames_after (take 19 k) bs ≡ frames_after k bs)
    → frames_after (take 19 l) (b ∷ bs) ≡ frames_after l (b ∷ bs)
unfolding lines_after kept
byte-held l bs b true e h = rw e (ap (λ (f : S.Option Frame). f ∷ frames_after [] bs) (frame-held l))
byte-held l bs b false e h = rw e (sym (h (take 19 l ++ (b ∷ []))) ∙ rw (kept-take l b) (h (l ++ (b ∷ []))))

-- a line of which 19 bytes are held is read as if all were
frames-held : (l rest : List ℕ) → frames_after (take 19 l) rest ≡ frames_after l rest
unfolding lines_after
frames-held l [] = last-held l
frames-held l (b ∷ bs) = byte-held l bs b (eqb b 10) refl (λ (k : List ℕ). frames-held k bs)

pub reads_none : (held : List ℕ) → Reads held [] [] held
reads_none held rest = refl

-- bytes without a newline
plain-read : (held bs : List ℕ) → Plain bs → Reads held bs [] (kept held bs)
unfolding kept
plain-read held bs p rest = ap (λ (ls : List (List ℕ)). map frame_of ls) (plain-after held bs rest p) ∙ sym (frames-held (held ++ bs) rest)

pub reads_plain : (held bs : List ℕ) → S.All (λ (b : ℕ). b ≡ 10 → ⊥) bs → Reads held bs [] (kept held bs)
reads_plain held bs p = plain-read held bs (recursion_from_All (λ (b : ℕ). b ≡ 10 → ⊥) bs p)

pub reads_byte : (held : List ℕ) (b : ℕ) → (b ≡ 10 → ⊥) → Reads held (b ∷ []) [] (kept held (b ∷ []))
reads_byte held b h = plain-read held (b ∷ []) (h, tt)

pub reads-newline : (held : List ℕ) (b : ℕ) → b ≡ 10 → Reads held (b ∷ []) (frame_of held ∷ []) []
unfolding lines_after
reads-newline held b e rest = rw e

-- bytes up to a newline, or all of them, are held
pub holds_plain : (held bytes line : List ℕ) (used n : ℕ) → n ≤ 19 → used ≤ length bytes → (used < length bytes → get_or bytes used 0 ≡ 10)
    → S.All (λ (b : ℕ). b ≡ 10 → ⊥) (take used bytes) → take n line ≡ kept held (take used bytes)
    → Holds held bytes (record { used = used; held = n }) line
holds_plain held bytes line used n f w b p e =
    record { few = f; within = w; newline = b; reads = rw e (reads_plain held (take used bytes) p) }

-- bytes behind bytes
pub reads_on : (held bs held₁ cs held₂ : List ℕ) (fs gs : List (S.Option Frame)) → Reads held bs fs held₁ → Reads held₁ cs gs held₂
    → Reads held (bs ++ cs) (fs ++ gs) held₂
reads_on held bs held₁ cs held₂ fs gs p q rest =
    rw (append_assoc bs cs rest) (p (cs ++ rest) ∙ rw (q rest) (sym (append_assoc fs gs (frames_after held₂ rest))))

-- one byte more is held
pub reads_more : (held bytes held₁ held₂ : List ℕ) (i : ℕ) → i < length bytes → (get_or bytes i 0 ≡ 10 → ⊥) → held₂ ≡ kept held₁ (get_or bytes i 0 ∷ [])
    → Reads held (take i bytes) [] held₁ → Reads held (take (i + 1) bytes) [] held₂
reads_more held bytes held₁ held₂ i h p e r =
    rw (add-one i, take-suc bytes i 0 h, e)
    (reads_on held (take i bytes) held₁ (get_or bytes i 0 ∷ []) (kept held₁ (get_or bytes i 0 ∷ [])) [] [] r (reads_byte held₁ (get_or bytes i 0) p))

-- what is known of bytes held
pub ruleset held = (kept_bytes, holds_plain)
