-- `put_malformed` copies the fixed bytes, which are the line of operation 255 and number 9.
use mathlib.Core.Path.{refl}
use Rattle.text.specs.Texts.{letter, hex}
use Rattle.text.specs.Lines.{entry, line}
use Rattle.text.proofs.print.put_malformed.Goals as goal

pub returns : goal.returns
unfolding line entry hex letter
returns c = (refl, c.put_text.ensures)
