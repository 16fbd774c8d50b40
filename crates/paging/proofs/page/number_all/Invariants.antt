-- What holds at each turn of the loop.
use mathlib.Core.Path.{◌≡◌}
use mathlib.Core.List.{◌++◌, map}
use lib.ListN.{take, drop}
use Rattle.crumbmap.specs.Layouts.{layout1}
use Rattle.crumbmap.specs.Fingerprints.{fingerprint}
use Rattle.paging.proofs.page.number_all.Given as goal

abbrev pub invariant-loop-i : goal.invariant-loop-i
invariant-loop-i l = l.out ≡ map (fingerprint layout1 l.front.0) (take l.i l.keys) ++ drop l.i l.initial.out
