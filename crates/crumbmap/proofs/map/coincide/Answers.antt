-- `coincide` compares the two buckets that the map gives.
use Rattle.crumbmap.specs.CrumbMap.{coincide}
use Rattle.crumbmap.proofs.map.coincide.Goals as goal

pub returns : goal.returns
unfolding coincide
returns c = rw (c.first_of.ensures.bucket, c.second_of.ensures.bucket)
