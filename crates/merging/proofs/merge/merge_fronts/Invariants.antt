-- What holds at each turn of the loop.
use Rattle.crumbmap.specs.Layouts.{layout1}
use Rattle.joining.specs.Steps.Joins.{Scratch}
use Rattle.merging.proofs.MergeSteps.{Reaching}
use Rattle.merging.proofs.merge.merge_fronts.Given as goal

abbrev pub invariant-loop-f : goal.invariant-loop-f
invariant-loop-f l =
    Reaching layout1 l.size l.first l.second l.initial.target l.f l.target × Scratch layout1 l.a l.b l.over
