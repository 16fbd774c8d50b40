-- `image::back::remove_back_at` meets its contract. The part that is written is the backyard bucket (`put-part`).
use Prim.Native.Nat.{◌+◌}
use Rattle.crumbmap.specs.Layouts.{fronts}
use Rattle.machine.specs.Images.{put_back}
use Rattle.image.proofs.PartLaws.{part-bucket, put-part}
use Rattle.image.proofs.back.remove_back_at.Goals as goal

pub remove_back-requires : goal.remove_back-requires
remove_back-requires c =
    let p = c.requires in
    rw (c.table_of-at.ensures, part-bucket) (p.0.sound, p.1.inside, p.1.same)

pub returns : goal.returns
unfolding put_back
returns c =
    let a = c.args in
    let i = c.table_of-at.ensures in
    rw i (put-part (fronts a.size + a.bucket.0) a.image.now (rw (i, part-bucket) at c.remove_back.ensures))
