-- `deletion::delete::take_out` meets its contract. One copy leaves the backyard bucket, from the slot behind the members below it.
use mathlib.Core.Path.{refl}
use Rattle.image.proofs.ImageReadLaws.{rank-at}
use Rattle.deletion.specs.Steps.Deletions.{without}
use Rattle.deletion.proofs.delete.take_out.Goals as goal

pub remove_back_at-requires : goal.remove_back_at-requires
remove_back_at-requires c =
    let p = c.requires in
    (p.back, rank-at p.back.list.order p.slot p.there)

pub returns : goal.returns
unfolding without
returns c = (refl, c.remove_back_at.ensures)
