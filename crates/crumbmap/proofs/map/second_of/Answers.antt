-- `second_of` is choice 1 of the map.
use native.Mathlib.Omega.{arith}
use mathlib.Core.Path.{refl}
use mathlib.Core.Bool.{false}
use Prim.Native.Nat.{◌≤◌, ◌%◌}
use native.Mathlib.Nat.{mul-le-mul_right}
use Rattle.crumbmap.specs.Layouts.{fronts}
use Rattle.crumbmap.specs.CrumbMap.{first_bucket, first_crumb, second_bucket, second_crumb}
use Rattle.crumbmap.proofs.CrumbMapLaws.{bucket_of-lt, crumb_of-lt}
use Rattle.crumbmap.proofs.map.second_of.Goals as goal

pub overflow_mul-result : goal.overflow_mul-result
overflow_mul-result c = let d : c.args.front.0 % 8 ≤ 7 = omega arith in omega (arith, mul-le-mul_right c.stride_of-stride.result d)

pub overflow_add-result : goal.overflow_add-result
unfolding fronts
overflow_add-result c = let d : c.args.front.0 % 8 ≤ 7 = omega arith in omega (arith, mul-le-mul_right c.stride_of-stride.result d)

pub returns : goal.returns
unfolding first_bucket first_crumb second_bucket second_crumb
returns c =
    let a = c.args in
    rw c.stride_of-stride.ensures.0 (record {
      bucket = refl;
      crumb = omega arith;
      inside = bucket_of-lt false a.size a.front.0 c.requires.0;
      small = crumb_of-lt false a.front.0;
    })
