-- `shifts::tags::remove_tag` meets its contract. The loop's invariant: the bytes so far are done, the others are the old ones.
use Rattle.std.proofs.Common.{◌≡◌, ◌+◌, ◌-◌, ◌*◌, length, drop, ap, ◌∙◌, arith}
use Rattle.multiset.specs.Digits.{digits}
use Rattle.shifts.specs.Steps.Shifts.{mixed}
use Rattle.shifts.proofs.LaneLaws.{length-mixed}
use Rattle.shifts.proofs.MoveLaws.{moved_down, length-down, mixed-back, down-part, down_turn, down-whole, last_turn}
use Rattle.shifts.proofs.TagLaws.{last-down}
use Rattle.shifts.proofs.tags.remove_tag.Goals as goal

pub loop-turn-preserved : goal.loop-turn-preserved
loop-turn-preserved c =
    let l = c.loop-turn in
    let xs = c.args.s.now in
    let at = c.args.slot * 2 in
    let o = l.turn * 8 in
    let t = mixed at xs (moved_down 2 xs) in
    let word = digits 256 8 c.moved_word-word.result in
    let next : (l.turn + 1) * 8 ≡ o + 8 = omega arith in
    let long : length t ≡ length xs = length-mixed at xs (moved_down 2 xs) (length-down 2 xs (omega arith)) in
    let rest : drop o l.s ≡ drop o xs = ap (drop o) l.invariant ∙ mixed-back o t xs o (omega arith) (omega arith) in
    let part = down-part 2 xs (omega arith) at 8 o l.s word (omega arith) rest c.moved_word-word.ensures in
    rw next (c.put_at.ensures ∙ down_turn 8 o xs l.s word t long (omega arith) part l.invariant)

pub returns : goal.returns
returns c =
    let l = c.loop-turn in
    let xs = c.args.s.now in
    let at = c.args.slot * 2 in
    let last = length xs - 8 in
    let t = mixed at xs (moved_down 2 xs) in
    let top = digits 256 8 c.from_byte-top.result in
    let long : length t ≡ length xs = length-mixed at xs (moved_down 2 xs) (length-down 2 xs (omega arith)) in
    let part = last-down at last c.word_at-end.result xs top (omega arith) (omega arith) c.word_at-end.ensures c.from_byte-top.ensures in
    c.put_at-2.ensures ∙ last_turn 8 (l.turn * 8) last xs l.s top t long (omega arith) (omega arith) (omega arith) part l.invariant
    ∙ down-whole 2 xs (omega arith) at (omega arith)
