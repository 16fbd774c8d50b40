-- `key_of` joins m and r.
use native.Mathlib.Omega.{arith}
use Rattle.crumbmap.specs.Fingerprints.{key_of}
use Rattle.crumbmap.proofs.fingerprint.key_of.Goals as goal

pub returns : goal.returns
unfolding key_of
returns c = (rw (c.mini_of.ensures.0, c.tag_of.ensures.0), omega arith)
