-- `answer`: image and output fit, so the text is the frame's, and no longer than the output.
use Rattle.lines.proofs.TurnLaws.{replied}
use Rattle.lines.proofs.answer.answer.Goals as goal

pub returns : goal.returns
returns c =
    let a = c.args in
    rw c.unwrap_or.ensures (replied a.line.now a.image.now a.out.now _ _ _ c.requires.0 c.requires.1 c.frame.ensures)
