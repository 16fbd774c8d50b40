-- Layout 1: tags of two bytes. A tag put into a stretch of bytes or taken out of it, as loops that move a word of bytes a turn do it.
-- Main results: `first-up`, `last-down`, `tag-stored`.
use Rattle.std.proofs.Common.{◌≡◌, ℕ, ◌+◌, ◌-◌, ◌*◌, ◌/◌, ◌%◌, ◌^◌, ◌<◌, ◌≤◌, List, ◌∷◌, ◌++◌, length, take, drop, replicate, sym, refl, ap, ◌∙◌, ap₂, arith, lit<, length-append, length-drop, take_all, take-take, drop-drop}
use lib.Seq.{drop-append-le}
use Rattle.std.specs.Int.{w16, to_le_bytes}
use Rattle.multiset.specs.Digits.{digits}
use Rattle.shifts.specs.Steps.Shifts.{inserted, mixed}
use Rattle.multiset.proofs.DigitLaws.{length_digits}
use Rattle.shifts.proofs.LaneLaws.{digits-take, digits-drop, digits_more, digits_up, mixed-part}
use Rattle.shifts.proofs.MoveLaws.{moved_up, moved_down, length_up, length-down, up-stored}

-- the two bytes of a tag
pub tag-bytes : (t : ℕ) → to_le_bytes w16 t ≡ digits 256 2 t
unfolding digits
tag-bytes t = refl

-- ---- words of four tags

-- the first word shifted up by a tag
pub first-up : (at v : ℕ) (xs w : List ℕ) → 8 ≤ length xs → digits 256 8 v ≡ take 8 xs
    → w ≡ mixed (at - 0) (digits 256 8 v) (digits 256 8 (v * 2 ^ 16 % 2 ^ 64)) → w ≡ take 8 (mixed at xs (moved_up 2 xs))
first-up at v xs w h e word =
    let six : digits 256 6 v ≡ take 6 xs = sym (digits-take 256 6 2 v) ∙ ap (take 6) e ∙ take-take 6 8 xs (omega arith) in
    let up : digits 256 8 (v * 2 ^ 16 % 2 ^ 64) ≡ take 8 (moved_up 2 xs) =
    digits_up 256 2 6 v (lit< tt) ∙ ap (λ (l : List ℕ). 0 ∷ 0 ∷ l) six ∙ sym (take-take 8 (length xs) (replicate {A = ℕ} 2 0 ++ xs) h) in
    word ∙ ap₂ (mixed (at - 0)) e up ∙ sym (mixed-part 8 0 at xs (moved_up 2 xs) (length_up 2 xs (omega arith)))

-- the last word shifted down by a tag
pub last-down : (at last v : ℕ) (xs w : List ℕ) → last + 8 ≡ length xs → v < 2 ^ 64 → digits 256 8 v ≡ take 8 (drop last xs)
    → w ≡ mixed (at - last) (digits 256 8 v) (digits 256 8 (v / 2 ^ 16)) → w ≡ take 8 (drop last (mixed at xs (moved_down 2 xs)))
last-down at last v xs w h l e word =
    let z : List ℕ = replicate {A = ℕ} 2 0 in
    let whole : take 8 (drop last xs) ≡ drop last xs = take_all 8 (drop last xs) (rw (length-drop last xs) (omega arith)) in
    let turned : 2 + last ≡ last + 2 = omega arith in
    let here : drop last (moved_down 2 xs) ≡ drop (last + 2) xs ++ z =
    drop-append-le last (drop 2 xs) z (rw (length-drop 2 xs) (omega arith)) ∙ rw (drop-drop last 2 xs, turned) in
    let all : take 8 (drop (last + 2) xs ++ z) ≡ drop (last + 2) xs ++ z =
    take_all 8 (drop (last + 2) xs ++ z) (omega (arith, length-append (drop (last + 2) xs) z, length-drop (last + 2) xs)) in
    let down : digits 256 8 (v / 2 ^ 16) ≡ take 8 (drop last (moved_down 2 xs)) =
    sym (digits-drop 256 2 8 v) ∙ ap (drop 2) (digits_more 256 8 2 v (lit< tt) l ∙ ap (λ (r : List ℕ). r ++ z) (e ∙ whole))
    ∙ drop-append-le 2 (drop last xs) z (rw (length-drop last xs) (omega arith)) ∙ ap (λ (r : List ℕ). r ++ z) (drop-drop 2 last xs)
    ∙ sym (ap (take 8) here ∙ all) in
    word ∙ ap₂ (mixed (at - last)) e down ∙ sym (mixed-part 8 last at xs (moved_down 2 xs) (length-down 2 xs (omega arith)))

-- the tag's bytes at its slot, once the others have moved
pub tag-stored : (at tag : ℕ) (xs s bytes : List ℕ) → at + 2 ≤ length xs → s ≡ mixed at xs (moved_up 2 xs) → bytes ≡ digits 256 2 tag
    → take at s ++ (bytes ++ drop 2 (drop at s)) ≡ take (length xs) (inserted at (digits 256 2 tag) xs)
tag-stored at tag xs s bytes h e d =
    rw (d, drop-drop 2 at s, e) (up-stored 2 xs (omega arith) at (digits 256 2 tag) (length_digits 256 2 tag) h)
