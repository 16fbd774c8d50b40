-- `image::back::read_back_at` meets its contract: what the reader says of the bucket's bytes is what the image says of that bucket (`back-says`).
use mathlib.Core.Path.{refl}
use Rattle.crumbmap.specs.Layouts.{layout1}
use Rattle.buckets.proofs.BucketLaws.{fits1}
use Rattle.image.proofs.PartLaws.{back-says}
use Rattle.image.proofs.back.read_back_at.Goals as goal

pub returns : goal.returns
returns c =
    let a = c.args in
    back-says layout1 fits1 a.size a.bucket.0 a.image.now c.requires.0 (λ i. (c.type_inv.image i).fits) a.member (rw c.back_bucket.ensures.0 at c.in-Some.ensures) refl

pub returns-in_default : goal.returns-in_default
returns-in_default c =
    let a = c.args in
    rw c.table_of.ensures
    (back-says layout1 fits1 a.size a.bucket.0 a.image.now c.requires.0 (λ i. (c.type_inv.image i).fits) a.member
    (rw c.back_bucket.ensures.0 at c.in_default.ensures) refl)
