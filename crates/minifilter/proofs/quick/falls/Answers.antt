-- `minifilter::quick::falls` meets its contract: a slot is marked where its tag is above the next one's.
use Rattle.std.proofs.Common.{arith}
use Rattle.crumbmap.specs.Layouts.{layout1}
use Rattle.minifilter.specs.Steps.Marks.{fall_at}
use Rattle.minifilter.proofs.quick.falls.Goals as goal

pub returns : goal.returns
unfolding fall_at
returns c = c.marks.ensures (fall_at layout1 c.args.b.now) 1 (λ i r h p. grind arith)
