-- `number_of` reads digit by digit: the number of all is that of the rest behind what is read.
use native.Mathlib.Omega.{arith}
use mathlib.Core.Path.{◌≡◌, sym, ◌∙◌}
use Prim.Native.Nat.{◌≤◌}
use mathlib.Core.Option.{some}
use lib.ListN.{length, get_or, drop_of_length-le}
use Rattle.text.specs.Texts.{unhex, digit_of}
use Rattle.text.proofs.TextLaws.{unhex-read, unhex-stopped, digit-some, digit-none, digit_of-lt, digit-fits, digit_room}
use Rattle.text.proofs.hex.number_of.Goals.{In_ok-digit}
use Rattle.text.proofs.hex.number_of.Goals as goal

pub returns-in_err-digit : goal.returns-in_err-digit
returns-in_err-digit c =
    let l = c.loop-byte in
    let t = c.args.text.now in
    let e = digit-none (digit_of (get_or t l.byte-index 0)) (sym c.in_err-digit.ensures) in
    rw c.from_residual.ensures (rw (l.invariant.1 ∙ unhex-stopped l.byte-index l.v t (omega arith) e))

-- the digit that was read
read : (c : In_ok-digit) → digit_of (get_or c.args.text.now c.loop-byte.byte-index 0) ≡ some c.in_ok-digit.digit
read c = digit-some (digit_of (get_or c.args.text.now c.loop-byte.byte-index 0)) c.in_ok-digit.digit (sym c.in_ok-digit.ensures)

pub overflow_mul-v : goal.overflow_mul-v
overflow_mul-v c = let l = c.loop-byte in omega (arith, digit_room l.byte-index l.v 0 (omega arith) l.invariant.0 (omega arith))

pub overflow_add-v : goal.overflow_add-v
overflow_add-v c =
    let l = c.loop-byte in
    omega (arith, digit_room l.byte-index l.v c.in_ok-digit.digit (omega arith) l.invariant.0 (digit_of-lt _ _ (read (goal.at.overflow_add-v c).In_ok-digit)))

pub loop-byte-preserved : goal.loop-byte-preserved
loop-byte-preserved c =
    let l = c.loop-byte in
    let r = read (goal.at.loop-byte-preserved c).In_ok-digit in
    (digit-fits l.byte-index l.v _ l.invariant.0 (digit_of-lt _ _ r), l.invariant.1 ∙ unhex-read l.byte-index l.v _ _ (omega arith) r)

pub returns : goal.returns
unfolding unhex
returns c =
    let l = c.loop-byte in
    let t = c.args.text.now in
    let h : length t ≤ l.byte-index = omega arith in
    rw (l.invariant.1, drop_of_length-le t h)
