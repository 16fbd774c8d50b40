-- `put_text` copies the text into the part that it covers.
use Rattle.text.specs.Texts.{over}
use Rattle.text.proofs.print.put_text.Goals as goal

pub returns : goal.returns
unfolding over
returns c = rw c.copy_from_slice.ensures.after
