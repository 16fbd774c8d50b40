-- `shifts::tags::insert_tag` meets its contract. The loop's invariant: the bytes so far, but for those that the last word has beyond them, are done.
use Rattle.std.proofs.Common.{◌≡◌, ℕ, ◌+◌, ◌-◌, ◌*◌, ◌/◌, ◌≤◌, List, length, take, refl, ap, ◌∙◌, le_refl, arith}
use Rattle.multiset.specs.Digits.{digits}
use Rattle.shifts.specs.Steps.Shifts.{mixed}
use Rattle.shifts.proofs.LaneLaws.{length-mixed}
use Rattle.shifts.proofs.MoveLaws.{moved_up, length_up, mixed-under, up-part, up_turn, up-last}
use Rattle.shifts.proofs.TagLaws.{first-up, tag-bytes, tag-stored}
use Rattle.shifts.proofs.tags.insert_tag.Invariants.{done, partly}
use Rattle.shifts.proofs.tags.insert_tag.Goals as goal

length-done : (slot : ℕ) (xs : List ℕ) → 2 ≤ length xs → length (done slot xs) ≡ length xs
length-done slot xs h = length-mixed (slot * 2) xs (moved_up 2 xs) (length_up 2 xs h)

length-partly : (slot end : ℕ) (xs : List ℕ) → 2 ≤ length xs → length (partly slot end xs) ≡ length xs
length-partly slot end xs h = length-mixed end (done slot xs) xs (length-done slot xs h) ∙ length-done slot xs h

pub loop-turn-preserved : goal.loop-turn-preserved
loop-turn-preserved c =
    let l = c.loop-turn in
    let a = c.args in
    let xs = a.s.now in
    let end = (length xs - 8 + 7) / 8 * 8 in
    let o = (l.turn - 1) * 8 in
    let t = partly a.slot end xs in
    let word = digits 256 8 c.moved_word-word.result in
    let back : l.turn * 8 ≡ o + 8 = omega arith in
    let so_far : l.s ≡ mixed (o + 8) xs t = l.invariant.1 ∙ ap (λ (k : ℕ). mixed k xs t) back in
    let same : take (o + 8) l.s ≡ take (o + 8) xs = ap (take (o + 8)) so_far ∙ mixed-under (o + 8) xs t (o + 8) (le_refl (o + 8)) (omega arith) in
    let goal : take (o + 8) t ≡ take (o + 8) (done a.slot xs) =
    mixed-under end (done a.slot xs) xs (o + 8) (omega arith) (omega (arith, length-done a.slot xs (omega arith))) in
    let part = up-part 2 xs (omega arith) (a.slot * 2) 8 o (o + 8) l.s t word
    (omega arith) (omega arith) (omega arith) same goal c.moved_word-word.ensures in
    (omega arith, c.put_at.ensures ∙ up_turn 8 o xs l.s word t (length-partly a.slot end xs (omega arith)) (omega arith) part so_far)

pub returns : goal.returns
returns c =
    let put = c.put_at-3 in
    let l = c.loop-turn in
    let a = c.args in
    let xs = a.s.now in
    let end = (length xs - 8 + 7) / 8 * 8 in
    let last = length xs - 8 in
    let at = a.slot * 2 in
    let t = partly a.slot end xs in
    let low = digits 256 8 c.from_byte.result in
    let top = digits 256 8 c.moved_word-top.result in
    let eight : l.turn * 8 ≡ 8 = omega arith in
    let reached : l.s ≡ mixed 8 xs t = l.invariant.1 ∙ ap (λ (k : ℕ). mixed k xs t) eight in
    let old : take 8 l.s ≡ take 8 xs = ap (take 8) reached ∙ mixed-under 8 xs t 8 (le_refl 8) (omega arith) in
    let first = first-up at c.word_at-first.result xs low (omega arith) (c.word_at-first.ensures ∙ old) c.from_byte.ensures in
    let part = up-part 2 xs (omega arith) at 8 last (length xs) xs (done a.slot xs) top
    (omega arith) (omega arith) (omega arith) refl refl c.moved_word-top.ensures in
    let moved = up-last 8 end last xs l.s c.put_at-2.new.s put.new.s low top
    (done a.slot xs) (length-done a.slot xs (omega arith)) (omega arith) (omega arith) (omega arith) (omega arith)
    reached first c.put_at-2.ensures part put.ensures in
    let two : at + 2 - at ≡ 2 = omega arith in
    rw two (tag-stored at a.tag xs put.new.s c.copy_from_slice.new.self (omega arith) moved
    (c.copy_from_slice.ensures.after ∙ c.to_le_bytes.ensures ∙ tag-bytes a.tag))
