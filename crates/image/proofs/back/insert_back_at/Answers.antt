-- `image::back::insert_back_at` meets its contract. The part that is written is the backyard bucket (`put-part`).
use Prim.Native.Nat.{◌+◌}
use Rattle.crumbmap.specs.Layouts.{fronts}
use Rattle.machine.specs.Images.{put_back}
use Rattle.image.proofs.PartLaws.{part-bucket, put-part}
use Rattle.image.proofs.back.insert_back_at.Goals as goal

pub insert_back-requires : goal.insert_back-requires
insert_back-requires c =
    let p = c.requires in
    rw (c.table_of-at.ensures, part-bucket) (record { sound = p.read.sound; free = p.room; range = p.member; rank = p.rank })

pub returns : goal.returns
unfolding put_back
returns c =
    let a = c.args in
    let i = c.table_of-at.ensures in
    rw i (put-part (fronts a.size + a.bucket.0) a.image.now (rw (i, part-bucket) at c.insert_back.ensures))
