-- What holds at each turn of the loop, and what gets less.
use mathlib.Core.Path.{◌≡◌}
use Prim.Native.Nat.{◌-◌}
use lib.ListN.{drop}
use Rattle.crumbmap.specs.Layouts.{layout1}
use Rattle.buckets.specs.Buckets.{back_list}
use Rattle.machine.specs.Checks.{all_in_turn}
use Rattle.search.specs.Steps.Searches.{OnSlot}
use Rattle.validation.proofs.check.bucket_in_turn.Given as goal

abbrev pub invariant-loop-at : goal.invariant-loop-at
invariant-loop-at l =
    OnSlot l.mine l.at
    × (all_in_turn layout1 l.size l.bucket.0 l.image (back_list layout1 l.mine) ≡ all_in_turn layout1 l.size l.bucket.0 l.image (drop l.at.slot (back_list layout1 l.mine)))

abbrev pub decreases-loop-at : goal.decreases-loop-at
decreases-loop-at l = l.members - l.at.slot
