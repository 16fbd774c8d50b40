-- `tails::tail::slots_of` meets its contract.
use native.Mathlib.Omega.{arith}
use Rattle.crumbmap.specs.Layouts.{fronts, backyards}
use Rattle.form.specs.Tails.{slots}
use Rattle.tails.proofs.tail.slots_of.Goals as goal

pub returns : goal.returns
unfolding slots fronts backyards
returns c = omega arith
