-- `words::word::is_slot_of` meets its contract: the ones below a place are those of the word's lowest bits.
use Rattle.crumbmap.proofs.MarkLaws.{one_shl}
use Rattle.words.proofs.SelectLaws.{ones_low}
use Prim.Native.Nat.{◌+◌}
use Rattle.words.proofs.word.is_slot_of.Goals as goal

pub returns : goal.returns
returns c = let p = c.args.mini + c.args.slot in rw (one_shl 64 p c.requires, ones_low p c.args.word)
