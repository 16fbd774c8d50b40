-- What holds at each turn of the loop.
use Rattle.edits.proofs.WriteLaws.{TagsTo}
use Rattle.edits.proofs.write.put_tags.Given as goal

abbrev pub invariant-loop-slot : goal.invariant-loop-slot
invariant-loop-slot l = TagsTo l.keys l.slot l.s
