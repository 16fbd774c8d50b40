-- `image::back::read_backyard` meets its contract: both backyard buckets lie in the image.
use Rattle.image.proofs.ImageReadLaws.{back_in}
use Rattle.image.proofs.back.read_backyard.Goals as goal

pub read_way-requires : goal.read_way-requires
read_way-requires c = let p = c.requires in (back_in p.0.whole p.1.first.inside, p.1.first.small, p.2)

pub read_way-requires-2 : goal.read_way-requires-2
read_way-requires-2 c = let p = c.requires in (back_in p.0.whole p.1.second.inside, p.1.second.small, p.2)
