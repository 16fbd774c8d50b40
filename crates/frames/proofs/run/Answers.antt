-- `run`: a piece of the input more.
use Rattle.frames.proofs.RunLaws.{came-more}
use Rattle.frames.proofs.run.Goals as goal

pub loop-preserved : goal.loop-preserved
loop-preserved c =
    let h = c.take_in-held.ensures in
    (h.0, came-more _ _ c.read_some-n.ensures c.loop.invariant.1 h.1)
