-- `put_bar` fills the members' columns, then those behind them.
use Rattle.crumbmap.specs.Layouts.{layout1}
use Rattle.printing.proofs.LineLaws.{bar-filled}
use Rattle.printing.proofs.line.put_bar.Goals as goal

pub returns : goal.returns
returns c =
    bar-filled layout1 c.args.members c.args.out.now c.requires.0 c.requires.1 _ _ (c.fill.ensures.after (λ y e. e)) (c.fill-2.ensures.after (λ y e. e))
