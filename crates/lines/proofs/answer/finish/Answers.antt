-- `finish` answers a last line that has no newline, where there is one.
use native.Mathlib.Omega.{arith}
use mathlib.Core.Path.{◌≡◌, sym}
use Prim.Native.Nat.{◌<◌}
use lib.ListN.{length, take}
use lib.Seq.{length-take-le}
use Rattle.lines.proofs.TurnLaws.{ends-none, ends-line}
use Rattle.lines.proofs.answer.finish.Goals as goal

pub slice_bounds-answer-end : goal.slice_bounds-answer-end
slice_bounds-answer-end c = let a = c.args in sym (length-take-le a.held a.line.now (omega arith))

pub returns-then-held-gt0 : goal.returns-then-held-gt0
returns-then-held-gt0 c =
    let a = c.args in
    let l : 0 < length (take a.held a.line.now) = rw (length-take-le a.held a.line.now (omega arith)) (omega arith) in
    ends-line a.image.now _ _ (take a.held a.line.now) _ l c.answer.ensures

pub returns : goal.returns
returns c =
    let a = c.args in
    let e : a.held ≡ 0 = omega arith in
    ends-none a.image.now a.out.now a.line.now a.held e
