-- `put_entry` writes 16 digits and a newline.
use Rattle.text.proofs.PrintLaws.{over-entry}
use Rattle.text.proofs.print.put_entry.Goals as goal

pub returns : goal.returns
returns c =
    let a = c.args in
    over-entry a.at a.number a.out.now _ c.requires c.put_digits.ensures
