-- `image::fresh::clear_at` meets its contract. The part that is written is the bucket (`put-part`).
use Rattle.image.proofs.PartLaws.{put-part}
use Rattle.image.proofs.fresh.clear_at.Goals as goal

pub returns : goal.returns
returns c =
    let a = c.args in
    put-part a.table a.image.now c.clear.ensures
