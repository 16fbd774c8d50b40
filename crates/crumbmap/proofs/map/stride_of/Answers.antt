-- `stride_of` gives document 01's K.
use native.Mathlib.Omega.{arith}
use Rattle.crumbmap.specs.CrumbMap.{stride}
use Rattle.crumbmap.proofs.map.stride_of.Goals as goal

pub returns : goal.returns
unfolding stride
returns c = omega arith
