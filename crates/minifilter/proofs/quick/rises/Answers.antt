-- `minifilter::quick::rises` meets its contract: a slot is marked where its tag is below the next one's.
use Rattle.std.proofs.Common.{arith}
use Rattle.crumbmap.specs.Layouts.{layout1}
use Rattle.minifilter.specs.Steps.Marks.{rise_at}
use Rattle.minifilter.proofs.quick.rises.Goals as goal

pub returns : goal.returns
unfolding rise_at
returns c = c.marks.ensures (rise_at layout1 c.args.b.now) 1 (λ i r h p. grind arith)
