-- `search::find::scan` meets its contract: every slot passed holds less than `low` (`smaller-on`).
use Rattle.std.proofs.Common.{arith}
use Rattle.crumbmap.specs.Layouts.{layout1}
use Rattle.minifilter.specs.Steps.Slots.{low_at}
use Rattle.search.proofs.SearchLaws.{smaller-on}
use Rattle.search.proofs.find.scan.Goals as goal

pub loop-slot-init : goal.loop-slot-init
loop-slot-init c i h l = omega arith

pub returns-then-low-low_of : goal.returns-then-low-low_of
returns-then-low-low_of c = record {
  start = omega arith;
  stop = omega arith;
  smaller = c.loop-slot.invariant;
  here = λ l. omega arith;
}

pub loop-slot-preserved : goal.loop-slot-preserved
loop-slot-preserved c = smaller-on (low_at layout1 c.args.crumbs c.args.b.now) c.args.from c.loop-slot.slot c.args.low c.loop-slot.invariant (omega arith)

pub returns : goal.returns
returns c = record {
  start = omega arith;
  stop = omega arith;
  smaller = λ i h l. c.loop-slot.invariant i h (omega arith);
  here = λ l. omega arith;
}
