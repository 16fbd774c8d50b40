-- Text written over an output: a piece behind a piece is one longer piece; the lengths of lines.
-- Main results: over-next, over-set, over-written, over-all, over-hex, over-line, over-more.
use mathlib.Core.Path.{◌≡◌, refl, sym, ◌∙◌, ap}
use Prim.Native.Nat.{ℕ, zero, suc, ◌+◌, ◌*◌, ◌-◌, ◌/◌, ◌≤◌, ◌<◌}
use mathlib.Core.List.{List, [], ◌∷◌, ◌++◌, append_assoc, append-nil}
use native.Mathlib.Omega.{arith}
use native.Mathlib.Numerals.{add-one}
use lib.ListN.{length, take, drop, get_or, set, length-append, length-drop, take-append-drop}
use lib.Seq.{length-take-le, take_at, drop_at, drop-drop, drop-length, take-suc, sets-eq}
use borrow.Rule.Slice.PartMut.{put_mid}
use Rattle.text.specs.Texts.{hex, over}
use Rattle.text.specs.Lines.{entry, line, entry_lines}

-- ---- lengths

pub length-hex : (n v : ℕ) → length (hex n v) ≡ n
unfolding hex
length-hex zero v = refl
length-hex (suc n) v = rw (length-append, length-hex n (v / 16)) (omega arith)

pub length-entry : (v : ℕ) → length (entry v) ≡ 17
unfolding entry
length-entry v = rw (length-append, length-hex 16 v)

pub length-line : (n a v : ℕ) → length (line n a v) ≡ 21
unfolding line
length-line n a v = rw (length-append, length-append, length-hex 2 n, length-hex 2 a, length-entry v)

pub length-entry_lines : (gs : List ℕ) → length (entry_lines gs) ≡ 17 * length gs
unfolding entry_lines
length-entry_lines [] = refl
length-entry_lines (g ∷ gs) = rw (length-append, length-entry g, length-entry_lines gs) (omega arith)

pub length_over : (at : ℕ) (ys xs : List ℕ) → at + length ys ≤ length xs → length (over at ys xs) ≡ length xs
unfolding over
length_over at ys xs h =
    let k : at ≤ length xs = omega arith in
    rw (
      length-append (take at xs) (ys ++ drop (length ys) (drop at xs)),
      length-append ys (drop (length ys) (drop at xs)),
      length-take-le at xs k,
      length-drop (length ys) (drop at xs),
      length-drop at xs,
    ) (omega arith)

pub over-whole : (ys xs : List ℕ) → length ys ≤ length (over 0 ys xs)
unfolding over
over-whole ys xs = rw (length-append ys (drop (length ys) xs)) (omega arith)

-- ---- pieces

-- what is written behind a piece makes it longer
pub over-next : (at m : ℕ) (ys zs xs : List ℕ) → at + length ys ≡ m → at ≤ length xs → over m zs (over at ys xs) ≡ over at (ys ++ zs) xs
unfolding over
over-next at m ys zs xs e h =
    let p : List ℕ = take at xs ++ ys in
    let r : List ℕ = drop (length ys) (drop at xs) in
    let n : length (take at xs ++ ys) ≡ m = rw (length-append (take at xs) ys, length-take-le at xs h) e in
    rw (sym (append_assoc (take at xs) ys r), take_at p r m n, drop_at p r m n, drop-drop (length zs) (length ys) (drop at xs), length-append ys zs)
    (simp append_assoc)

-- one element stored is a piece of one
pub over-set : (i v : ℕ) (xs : List ℕ) → i < length xs → set xs i v ≡ over i (v ∷ []) xs
unfolding over
over-set i v xs h = sets-eq (v ∷ []) xs i (omega arith) ∙ append_assoc (take i xs) (v ∷ []) (drop (i + 1) xs) ∙ rw (drop-drop 1 i xs)

-- a part of the output, written whole
pub over-part : (at d : ℕ) (ys xs : List ℕ) → length ys ≡ d → put_mid at d xs ys ≡ over at ys xs
unfolding over
over-part at d ys xs e = rw e

-- what is written into the whole of a part, however long that is
pub over-written : (w : ℕ → List ℕ) → ((n : ℕ) → length (w n) ≡ n) → (at d : ℕ) (xs ys : List ℕ) → at + d ≤ length xs
    → ys ≡ w (length (take d (drop at xs))) → put_mid at d xs ys ≡ over at (w d) xs
over-written w long at d xs ys h e =
    let l : length (take d (drop at xs)) ≡ d = length-take-le d (drop at xs) (rw (length-drop at xs) (omega arith)) in
    let f : ys ≡ w d = e ∙ ap w l in
    rw f (over-part at d (w d) xs (long d))

-- all of the output
pub over-all : (ys xs : List ℕ) → length ys ≡ length xs → over 0 ys xs ≡ ys
unfolding over
over-all ys xs e = rw (e, drop-length xs) (append-nil ys)

-- nothing written
pub over_nothing : (at : ℕ) (xs : List ℕ) → xs ≡ over at [] xs
unfolding over
over_nothing at xs = sym (take-append-drop at xs)

-- ---- digits and lines

-- digits written into a part of the output
pub over-hex : (at d v : ℕ) (xs ys : List ℕ) → at + d ≤ length xs → ys ≡ hex (length (take (at + d - at) (drop at xs))) v
    → put_mid at (at + d - at) xs ys ≡ over at (hex d v) xs
over-hex at d v xs ys h e =
    let k : at + d - at ≡ d = omega arith in
    rw k (over-written (λ (n : ℕ). hex n v) (λ n. length-hex n v) at d xs ys h (rw k at e))

-- 16 digits and a newline
pub over-entry : (at v : ℕ) (xs ys : List ℕ) → at + 17 ≤ length xs → ys ≡ over at (hex 16 v) xs → set ys (at + 16) 10 ≡ over at (entry v) xs
unfolding entry
over-entry at v xs ys h e =
    let l : length (hex 16 v) ≡ 16 = length-hex 16 v in
    let i : at + 16 < length ys = rw (e, length_over at (hex 16 v) xs (omega arith)) (omega arith) in
    over-set (at + 16) 10 ys i ∙ rw e (over-next at (at + 16) (hex 16 v) (10 ∷ []) xs (ap (λ (n : ℕ). at + n) l) (omega arith))

pub over-line : (n a v : ℕ) (xs ys zs ws : List ℕ) → ys ≡ over 0 (hex 2 n) xs → zs ≡ over 2 (hex 2 a) ys → ws ≡ over 4 (entry v) zs
    → ws ≡ over 0 (line n a v) xs
unfolding line
over-line n a v xs ys zs ws e f g =
    let m : length (hex 2 n) ≡ 2 = length-hex 2 n in
    let k : length (hex 2 n ++ hex 2 a) ≡ 4 = rw (length-append, length-hex 2 n, length-hex 2 a) in
    let p : zs ≡ over 0 (hex 2 n ++ hex 2 a) xs = f ∙ rw e (over-next 0 2 (hex 2 n) (hex 2 a) xs (omega arith) (omega arith)) in
    g ∙ rw p
    (over-next 0 4 (hex 2 n ++ hex 2 a) (entry v) xs (omega arith) (omega arith)
    ∙ ap (λ (l : List ℕ). over 0 l xs) (append_assoc (hex 2 n) (hex 2 a) (entry v)))

-- ---- loops

entry_lines-snoc : (gs : List ℕ) (g : ℕ) → entry_lines (gs ++ (g ∷ [])) ≡ entry_lines gs ++ entry g
unfolding entry_lines
entry_lines-snoc [] g = append-nil (entry g)
entry_lines-snoc (x ∷ xs) g = rw (entry_lines-snoc xs g) (sym (append_assoc (entry x) (entry_lines xs) (entry g)))

-- one entry more is written behind those that stand
pub over-more : (i : ℕ) (es xs ys zs : List ℕ) → i < length es → 21 ≤ length xs → ys ≡ over 21 (entry_lines (take i es)) xs
    → zs ≡ over (21 + 17 * i) (entry (get_or es i 0)) ys → zs ≡ over 21 (entry_lines (take (i + 1) es)) xs
over-more i es xs ys zs h l e f =
    let k : i ≤ length es = omega arith in
    let n : 21 + length (entry_lines (take i es)) ≡ 21 + 17 * i = rw (length-entry_lines (take i es), length-take-le i es k) in
    f ∙ rw e
    (over-next 21 (21 + 17 * i) (entry_lines (take i es)) (entry (get_or es i 0)) xs n l
    ∙ rw (add-one i, take-suc es i 0 h, entry_lines-snoc (take i es) (get_or es i 0)))
