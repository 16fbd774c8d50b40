-- `start`: an image of this length becomes the empty image with B = 3.
use Rattle.lines.proofs.TurnLaws.{started}
use Rattle.lines.proofs.piece.start.Goals as goal

pub returns : goal.returns
returns c =
    started c.args.image.now _ c.requires c.fresh.ensures.bytes
