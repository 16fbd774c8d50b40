-- `image::front::insert_front_at` meets its contract. The part that is written is the front bucket (`put-part`).
use Rattle.machine.specs.Images.{put_front}
use Rattle.image.proofs.PartLaws.{part-bucket, put-part}
use Rattle.image.proofs.front.insert_front_at.Goals as goal

pub insert_front-requires : goal.insert_front-requires
insert_front-requires c = let p = c.requires in rw part-bucket (record { sound = p.read.sound; free = p.room; range = p.key; rank = p.rank })

pub returns : goal.returns
unfolding put_front
returns c =
    let a = c.args in
    put-part a.front.0 a.image.now (rw part-bucket at c.insert_front.ensures)
