-- `take_in`: a step more of those bytes that are left.
use Rattle.std.proofs.Common.{arith}
use Rattle.frames.proofs.RunLaws.{took_more, used-within}
use Rattle.frames.proofs.take_in.Goals as goal

pub loop-at-preserved : goal.loop-at-preserved
loop-at-preserved c =
    let l = c.loop-at in
    let e = c.step-s.ensures in
    let u = used-within c.args.buffer.now l.at c.args.n c.requires.1 (omega arith) e in
    (u.0, e.few, took_more l.invariant.2 e)
