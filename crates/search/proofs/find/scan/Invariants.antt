-- What holds at each turn of the loop: every slot passed holds less than `low`.
use Rattle.std.proofs.Common.{ℕ, ◌≤◌, ◌<◌}
use Rattle.crumbmap.specs.Layouts.{layout1}
use Rattle.minifilter.specs.Steps.Slots.{low_at}
use Rattle.search.proofs.find.scan.Given as goal

abbrev pub invariant-loop-slot : goal.invariant-loop-slot
invariant-loop-slot l = (i : ℕ) → l.from ≤ i → i < l.slot → low_at layout1 l.crumbs l.b i < l.low
