-- `image::place::bucket` meets its contract: the part is the bucket (`part-bucket`).
use mathlib.Core.Path.{refl}
use Rattle.machine.proofs.ImageLaws.{length-bucket_at}
use Rattle.image.proofs.PartLaws.{part-bucket}
use Rattle.image.proofs.place.bucket.Goals as goal

pub returns : goal.returns
returns c = rw part-bucket (refl, length-bucket_at c.args.table c.args.image.now c.requires)
