-- `words::word::open_bit` meets its contract: the part below the place stays, the part above moves up by one.
use mathlib.Core.Path.{sym}
use native.Mathlib.Omega.{arith}
use Rattle.buckets.proofs.BitLaws.{opened-moved}
use Rattle.crumbmap.proofs.MarkLaws.{one_shl}
use Rattle.words.proofs.word.open_bit.Goals as goal

pub returns : goal.returns
returns c = rw (one_shl 64 c.args.place (omega arith)) (sym (opened-moved c.args.place c.args.word))
