-- `letter_of` goes by the two ranges.
use borrow.Author.Tests.{lt-ltb, le-ltb}
use Rattle.text.specs.Texts.{letter}
use Rattle.text.proofs.hex.letter_of.Goals as goal

pub returns-then-digit-lt10 : goal.returns-then-digit-lt10
unfolding letter
returns-then-digit-lt10 c = rw (lt-ltb _ _ c.if-digit-lt10.true)

pub returns-else-digit-lt10 : goal.returns-else-digit-lt10
unfolding letter
returns-else-digit-lt10 c = rw (le-ltb _ _ c.if-digit-lt10.false)
