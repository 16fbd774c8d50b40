-- `words::word::occupancy` meets its contract: the leading zeros, the 36 ends and the members make 64.
use native.Mathlib.Omega.{arith}
use Rattle.crumbmap.specs.Layouts.{layout1}
use Rattle.buckets.proofs.WordLaws.{leading-minis_in}
use Rattle.words.proofs.word.occupancy.Goals as goal

pub overflow_sub-result : goal.overflow_sub-result
overflow_sub-result c = omega (arith, leading-minis_in 64 layout1.minis c.args.word c.ranges.word.fits c.requires (omega arith))

pub returns : goal.returns
returns c = omega (arith, leading-minis_in 64 layout1.minis c.args.word c.ranges.word.fits c.requires (omega arith))
