-- `tag_of` gives document 01's r.
use native.Mathlib.Omega.{arith}
use mathlib.Core.Path.{refl}
use Rattle.crumbmap.specs.Fingerprints.{tag_of}
use Rattle.crumbmap.proofs.fingerprint.tag_of.Goals as goal

pub returns : goal.returns
unfolding tag_of
returns c = (refl, omega arith)
