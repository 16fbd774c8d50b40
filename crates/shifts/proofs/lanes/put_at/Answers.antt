-- `shifts::lanes::put_at` meets its contract: the stretch from a byte on comes back with its first eight bytes changed.
use Rattle.shifts.proofs.LaneLaws.{word-stored}
use Rattle.shifts.proofs.lanes.put_at.Goals as goal

pub returns : goal.returns
returns c =
    word-stored c.args.from c.args.word c.args.s.now c.put_word.new.b c.requires c.put_word.ensures
