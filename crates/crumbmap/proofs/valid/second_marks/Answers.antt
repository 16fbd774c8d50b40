-- `second_marks` has the lowest bits, one for each valid digit; the shift is by 8 at most and loses no bit.
use native.Mathlib.Omega.{arith}
use lib.Pow.{pow_pos}
use Rattle.crumbmap.proofs.MarkLaws.{one_shl}
use Rattle.crumbmap.proofs.ValidLaws.{second-lowest}
use Rattle.crumbmap.proofs.valid.second_marks.Goals as goal

pub overflow_sub-result : goal.overflow_sub-result
overflow_sub-result c = rw (one_shl 32 c.second_digits.result (omega arith)) (pow_pos _)

pub returns : goal.returns
returns c =
    let d = c.second_digits in
    rw (one_shl 32 d.result (omega arith))
    (second-lowest c.args.size c.args.from.0 d.result d.ensures.0
    (rw (c.requires.1.whole, c.requires.1.rest) at d.ensures.1))
