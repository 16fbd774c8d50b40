-- `borders::border::borders` meets its contract. The invariant: the bits are those of the places of the turns so far.
use mathlib.Core.Path.{◌≡◌, refl}
use Prim.Native.Nat.{◌+◌, ◌-◌, ◌*◌, ◌/◌, ◌%◌, ◌^◌}
use native.Mathlib.Omega.{arith}
use lib.Pow.{shr-shr}
use Rattle.borders.specs.Steps.Borders.{zeros_in, ends_in, borders_in}
use Rattle.borders.proofs.BorderLaws.{borders-next, borders-lt}
use Rattle.borders.proofs.border.borders.Goals.{After-piece-here}
use Rattle.borders.proofs.border.borders.Goals as goal

-- a turn puts the bits of seven places more below the others
turned : (c : After-piece-here) → let l = c.loop-turn in
    l.bits * 2 ^ (c.piece-here.result % 8) % 2 ^ 64 + c.piece-here.result / 8
    ≡ borders_in (7 * (9 - (l.turn - 1))) (c.args.w / 2 ^ (7 * (l.turn - 1)))
turned c =
    let l = c.loop-turn in
    let w = c.args.w in
    let to = 7 * (l.turn - 1) in
    let back : to + 7 ≡ 7 * l.turn = omega arith in
    let places : 7 * (9 - (l.turn - 1)) ≡ 7 + 7 * (9 - l.turn) = omega arith in
    let up : w / 2 ^ to / 2 ^ 7 ≡ w / 2 ^ (7 * l.turn) = rw back at (shr-shr w to 7) in
    rw places (borders-next (7 * (9 - l.turn)) l.bits c.piece-here.result (w / 2 ^ to) (omega arith) (rw up l.invariant) c.piece-here.ensures)

pub loop-turn-init : goal.loop-turn-init
unfolding zeros_in ends_in
loop-turn-init c = refl

pub overflow_add-bits : goal.overflow_add-bits
overflow_add-bits c =
    let to = c.loop-turn.turn - 1 in
    omega (arith, turned c, borders-lt (7 * (9 - to)) (c.args.w / 2 ^ (7 * to)) (omega arith))

pub loop-turn-preserved : goal.loop-turn-preserved
loop-turn-preserved c = turned c

pub returns : goal.returns
returns c =
    let done : c.loop-turn.turn ≡ 0 = omega arith in
    let whole : c.args.w / 1 ≡ c.args.w = omega arith in
    rw (done, whole) at c.loop-turn.invariant
