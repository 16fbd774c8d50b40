-- `mini_of` gives document 01's m.
use native.Mathlib.Omega.{arith}
use mathlib.Core.Path.{refl}
use Rattle.crumbmap.specs.Fingerprints.{mini_of}
use Rattle.crumbmap.proofs.fingerprint.mini_of.Goals as goal

pub returns : goal.returns
unfolding mini_of
returns c = (refl, omega arith)
