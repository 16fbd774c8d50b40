-- `grouping::fetch::fetch` meets its contract. The front bucket of any hash lies in the image.
use Rattle.image.proofs.ImageReadLaws.{front-in}
use Rattle.grouping.proofs.fetch.fetch.Goals as goal

pub bucket-b-requires : goal.bucket-b-requires
bucket-b-requires c = front-in (record { whole = c.requires; front = c.front_of-front.ensures.1 })
