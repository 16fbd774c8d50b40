-- The part that is written is the front bucket (`put-part`).
use Rattle.machine.specs.Images.{put_front}
use Rattle.image.proofs.PartLaws.{put-part}
use Rattle.image.proofs.front.fill_front_at.Goals as goal

pub returns : goal.returns
unfolding put_front
returns c = let a = c.args in put-part a.front.0 a.image.now c.write_front.ensures
