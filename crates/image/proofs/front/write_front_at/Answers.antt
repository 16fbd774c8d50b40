-- The 64 bytes that are written are the front bucket.
use Rattle.image.proofs.PartLaws.{put-part}
use Rattle.image.proofs.front.write_front_at.Goals as goal

pub returns : goal.returns
returns c = let a = c.args in put-part a.front.0 a.image.now c.copy_from_slice.ensures.after
