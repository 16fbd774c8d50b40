-- `put_line` writes operation, answer number and value, each behind the one before.
use mathlib.Core.Path.{refl}
use Rattle.text.proofs.PrintLaws.{over-line}
use Rattle.text.proofs.print.put_line.Goals as goal

pub returns : goal.returns
returns c =
    let a = c.args in (
      refl,
      over-line a.operation a.said.number a.said.value a.out.now _ _ _
          c.put_digits.ensures c.put_digits-2.ensures c.put_entry.ensures,
    )
