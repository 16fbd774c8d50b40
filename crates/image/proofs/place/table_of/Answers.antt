-- `image::place::table_of` meets its contract. The table number of a backyard bucket.
use native.Mathlib.Omega.{arith}
use Rattle.crumbmap.specs.Layouts.{fronts, backyards}
use Rattle.image.proofs.place.table_of.Goals as goal

pub overflow_add-result : goal.overflow_add-result
unfolding backyards
overflow_add-result c = omega arith

pub returns : goal.returns
unfolding fronts
returns c = omega arith
