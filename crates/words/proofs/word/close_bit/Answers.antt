-- `words::word::close_bit` meets its contract: the part below the place stays, the part above the bit there moves down by one.
use mathlib.Core.Path.{sym}
use Rattle.buckets.proofs.BitLaws.{closed-moved}
use Rattle.crumbmap.proofs.MarkLaws.{one_shl}
use Rattle.words.proofs.word.close_bit.Goals as goal

pub returns : goal.returns
returns c = rw (one_shl 64 c.args.place c.requires) (sym (closed-moved c.args.place c.args.word))
