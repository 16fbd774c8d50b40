-- `put_line` writes three numbers, the bar and the newline, each behind the one before.
use Rattle.crumbmap.specs.Layouts.{layout1}
use Rattle.printing.proofs.LineLaws.{line-written}
use Rattle.printing.proofs.line.put_line.Goals as goal

pub returns : goal.returns
returns c =
    line-written layout1 c.args.front c.args.near c.args.far c.args.out.now _ _ _ _ c.requires.0 c.requires.1
    c.put_column.ensures c.put_column-2.ensures c.put_column-3.ensures c.put_bar.ensures
