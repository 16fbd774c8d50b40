-- What holds at each turn of the loop.
use Rattle.crumbmap.specs.Layouts.{layout1}
use Rattle.paging.proofs.PageSteps.{Measured}
use Rattle.paging.proofs.page.measure.Given as goal

abbrev pub invariant-loop-f : goal.invariant-loop-f
invariant-loop-f l = Measured layout1 l.size l.start l.end l.room l.image l.f l.left
