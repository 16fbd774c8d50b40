-- `put_column` writes a number into a part of the output, and the blank behind it.
use Rattle.printing.proofs.LineLaws.{over-column}
use Rattle.printing.proofs.line.put_column.Goals as goal

pub returns : goal.returns
returns c =
    over-column c.args.at c.args.columns c.args.number c.args.out.now _ c.requires c.put_aligned.ensures
