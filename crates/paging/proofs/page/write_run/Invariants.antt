-- What holds at each turn of the loop.
use Rattle.crumbmap.specs.Layouts.{layout1}
use Rattle.paging.proofs.PageSteps.{Written}
use Rattle.paging.proofs.page.write_run.Given as goal

abbrev pub invariant-loop-f : goal.invariant-loop-f
invariant-loop-f l = Written layout1 l.size l.start l.next l.image l.initial.out l.out l.f l.n
