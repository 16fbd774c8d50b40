-- The first `i` buckets are empty, and the rest is as it was.
use mathlib.Core.Path.{◌≡◌}
use Prim.Native.Nat.{◌*◌}
use mathlib.Core.List.{[], ◌++◌}
use lib.ListN.{drop}
use Rattle.crumbmap.specs.Layouts.{layout1}
use Rattle.buckets.specs.Buckets.{front_bytes}
use Rattle.machine.specs.Images.{repeated}
use Rattle.image.proofs.fresh.clear_all.Given as goal

abbrev pub invariant-loop-i : goal.invariant-loop-i
invariant-loop-i l = l.image ≡ repeated l.i (front_bytes layout1 []) ++ drop (64 * l.i) l.initial.image
