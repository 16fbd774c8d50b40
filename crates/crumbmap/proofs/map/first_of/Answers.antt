-- `first_of` is choice 0 of the map.
use native.Mathlib.Omega.{arith}
use mathlib.Core.Path.{refl}
use Rattle.crumbmap.specs.Layouts.{fronts, backyards}
use Rattle.crumbmap.specs.CrumbMap.{first_bucket, first_crumb}
use Rattle.crumbmap.proofs.map.first_of.Goals as goal

pub returns : goal.returns
unfolding first_bucket first_crumb fronts backyards
returns c = record { bucket = refl; crumb = refl; inside = omega arith; small = omega arith }
