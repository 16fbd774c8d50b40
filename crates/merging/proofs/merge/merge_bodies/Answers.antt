-- `merging::merge::merge_bodies` meets its contract. All buckets cleared are the fresh target (`cleared-all`), which takes front bucket after front bucket.
use mathlib.Core.Path.{◌≡◌, refl, ◌∙◌}
use native.Mathlib.Omega.{arith}
use Rattle.crumbmap.specs.Layouts.{layout1}
use Rattle.machine.specs.Images.{length_of, empty_image}
use Rattle.image.proofs.EmptyLaws.{cleared-all, empty-back1}
use Rattle.merging.proofs.merge.merge_bodies.Goals.{After-clear_all}
use Rattle.merging.proofs.merge.merge_bodies.Goals as goal

-- the target was made fresh
emptied : (c : After-clear_all) → c.clear_all.new.image ≡ empty_image layout1 c.args.size
emptied c = c.clear_all.ensures ∙ cleared-all layout1 empty-back1 c.args.size

pub clear_all-requires : goal.clear_all-requires
clear_all-requires c = c.requires.1.long ∙ unfold length_of in omega arith

pub merge_fronts-requires : goal.merge_fronts-requires
merge_fronts-requires c =
    (c.entries-table.ensures, c.requires.0, emptied (goal.at.merge_fronts-requires c).After-clear_all, record { first = refl; second = refl; leaving = refl })

pub returns : goal.returns
returns c =
    rw (emptied (goal.at.returns c).After-clear_all) at c.merge_fronts.ensures
