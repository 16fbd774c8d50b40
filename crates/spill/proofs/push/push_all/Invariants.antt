-- What holds at each turn of the loop.
use mathlib.Core.Path.{◌≡◌}
use lib.ListN.{drop}
use Rattle.crumbmap.specs.Layouts.{layout1}
use Rattle.machine.specs.Steps.Spills.{push_all}
use Rattle.listing.specs.Steps.Listings.{BackyardRead}
use Rattle.spill.proofs.push.push_all.Given as goal

abbrev pub invariant-loop-key : goal.invariant-loop-key
invariant-loop-key l =
    BackyardRead layout1 l.size l.front.0 l.target
    × (push_all layout1 l.size l.front.0 l.keys l.initial.target ≡ push_all layout1 l.size l.front.0 (drop l.key-index l.keys) l.target)
