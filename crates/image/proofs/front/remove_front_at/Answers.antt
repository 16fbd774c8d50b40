-- `image::front::remove_front_at` meets its contract. The part that is written is the front bucket (`put-part`).
use Rattle.machine.specs.Images.{put_front}
use Rattle.image.proofs.PartLaws.{part-bucket, put-part}
use Rattle.image.proofs.front.remove_front_at.Goals as goal

pub remove_front-requires : goal.remove_front-requires
remove_front-requires c = let p = c.requires in rw part-bucket (p.0.sound, p.1.inside, p.1.same)

pub returns : goal.returns
unfolding put_front
returns c =
    let a = c.args in
    put-part a.front.0 a.image.now (rw part-bucket at c.remove_front.ensures)
