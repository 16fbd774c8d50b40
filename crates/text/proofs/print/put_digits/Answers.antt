-- `put_digits` writes digits into a part of the output.
use Rattle.text.proofs.PrintLaws.{over-hex}
use Rattle.text.proofs.print.put_digits.Goals as goal

pub returns : goal.returns
returns c =
    let a = c.args in
    over-hex a.at a.digits a.number a.out.now _ c.requires c.put_hex.ensures
