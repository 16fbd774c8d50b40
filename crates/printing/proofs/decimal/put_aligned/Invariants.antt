-- What holds at each turn of the loop.
use mathlib.Core.Path.{◌≡◌}
use mathlib.Core.List.{◌++◌}
use lib.ListN.{length, drop}
use Rattle.machine.specs.OccupancyPages.{aligned}
use Rattle.printing.proofs.decimal.put_aligned.Given as goal

abbrev pub invariant-loop-i : goal.invariant-loop-i
invariant-loop-i l = aligned (length l.initial.out) l.number ≡ aligned l.i l.v ++ drop l.i l.out
