-- `front_of` gives document 01's f: the product stays below 2 ^ 51.
use native.Mathlib.Omega.{arith}
use mathlib.Core.Path.{refl}
use Prim.Native.Nat.{◌≤◌, ◌/◌, ◌*◌}
use native.Mathlib.Nat.{mul-le-mul_right}
use Rattle.crumbmap.specs.Layouts.{fronts}
use Rattle.crumbmap.specs.Fingerprints.{front_of}
use Rattle.crumbmap.proofs.FingerprintLaws.{front_of-lt}
use Rattle.crumbmap.proofs.fingerprint.front_of.Goals as goal

pub overflow_mul-f : goal.overflow_mul-f
overflow_mul-f c = let q : c.args.hash / 4294967296 ≤ 4294967296 = omega arith in omega (arith, mul-le-mul_right (8 * c.args.size) q)

pub returns : goal.returns
unfolding front_of fronts
returns c = (refl, front_of-lt c.args.size c.args.hash (omega arith) c.ranges.hash.fits)
