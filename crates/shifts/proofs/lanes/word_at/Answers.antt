-- `shifts::lanes::word_at` meets its contract: eight bytes are the digits of their value.
use Rattle.buckets.proofs.ElementLaws.{below-bytes}
use Rattle.shifts.proofs.LaneLaws.{word-digits}
use Rattle.shifts.proofs.lanes.word_at.Goals as goal

pub returns : goal.returns
returns c =
    let l = c.args.s.now in
    word-digits c.args.from c.word_of.result l c.requires (below-bytes l c.type_inv.s) c.word_of.ensures
