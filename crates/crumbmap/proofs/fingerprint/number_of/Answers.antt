-- `number_of` gives document 01's g.
use native.Mathlib.Omega.{arith}
use mathlib.Core.Path.{refl}
use Rattle.crumbmap.specs.Layouts.{fronts}
use Rattle.crumbmap.specs.Fingerprints.{fingerprint}
use Rattle.crumbmap.proofs.fingerprint.number_of.Goals as goal

pub overflow_mul-result : goal.overflow_mul-result
unfolding fronts
overflow_mul-result c = omega arith

pub overflow_add-result : goal.overflow_add-result
unfolding fronts
overflow_add-result c = omega arith

pub returns : goal.returns
unfolding fingerprint
returns c = refl
