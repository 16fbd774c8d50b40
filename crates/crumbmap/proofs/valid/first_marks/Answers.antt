-- `first_marks` has no bit past the last b0, else all eight but that of the front bucket whose two buckets are this one.
use mathlib.Core.Path.{◌≡◌, sym, ◌∙◌}
use Prim.Native.Nat.{◌*◌, ◌%◌, ◌^◌, ◌≤◌, ◌<◌}
use native.Mathlib.Omega.{arith}
use lib.Pow.{pow_mono}
use Rattle.crumbmap.proofs.StrideLaws.{few-strides}
use Rattle.crumbmap.proofs.MarkLaws.{one_shl}
use Rattle.crumbmap.proofs.ValidLaws.{first-none, first-all, first-but}
use Rattle.crumbmap.proofs.valid.first_marks.Goals.{Else-size-j}
use Rattle.crumbmap.proofs.valid.first_marks.Goals as goal

pub returns-then-size-j : goal.returns-then-size-j
returns-then-size-j c = first-none c.args.size c.args.from.0 c.if-size-j.true

-- the stride's count is below 8
few : (c : Else-size-j) → let a = c.args in a.strides.whole < 8
few c = rw c.requires.1.whole (few-strides c.args.size c.args.from.0 (omega (arith, c.if-size-j.false)))

-- so the bit is one of eight
bit : (c : Else-size-j) → let a = c.args in (1 * 2 ^ a.strides.whole) % 2 ^ 32 ≡ 2 ^ a.strides.whole
bit c = one_shl 32 c.args.strides.whole (omega (arith, few c))

pub overflow_shl-result : goal.overflow_shl-result
overflow_shl-result c = omega (arith, few (goal.at.overflow_shl-result c).Else-size-j)

pub overflow_sub-result : goal.overflow_sub-result
overflow_sub-result c =
    let l : c.args.strides.whole ≤ 7 = omega (arith, few (goal.at.overflow_sub-result c).Else-size-j) in
    rw (bit (goal.at.overflow_sub-result c).Else-size-j) (omega (arith, pow_mono l))

pub returns-then-strides-j : goal.returns-then-strides-j
returns-then-strides-j c =
    rw (bit (goal.at.returns-then-strides-j c).Else-size-j, c.requires.1.whole)
    (first-but c.args.size c.args.from.0 (omega (arith, c.if-size-j.false)) (sym c.requires.1.rest ∙ c.if-strides-j.true))

pub returns : goal.returns
returns c =
    first-all c.args.size c.args.from.0 (omega (arith, c.if-size-j.false)) (λ r. c.if-strides-j.false (c.requires.1.rest ∙ r))
