-- `search::find::count_front` meets its contract: the word has a mini-bucket for each member (`held-count1`).
use mathlib.Core.Path.{◌∙◌}
use mathlib.Core.Bool.{false}
use Rattle.crumbmap.specs.Layouts.{layout1}
use Rattle.buckets.specs.Buckets.{front_list}
use Rattle.buckets.proofs.ElementLaws.{below-bytes}
use Rattle.buckets.proofs.BucketLaws.{fits1}
use Rattle.minifilter.proofs.HeldLaws.{Held, held-many1, held-count1, held}
use Rattle.search.proofs.find.count_front.Goals.{After-word_of}
use Rattle.search.proofs.find.count_front.Goals as goal

-- the bucket that was read
known : (c : After-word_of) → let b = c.args.b.now in Held layout1 false b (front_list layout1 b)
known c = let b = c.args.b.now in held layout1 fits1 false b (below-bytes b c.shared_slice_known-1.given) c.requires

pub occupancy-requires : goal.occupancy-requires
occupancy-requires c =
    let b = c.args.b.now in
    held-many1 b (front_list layout1 b) c.word_of.result c.word_of.ensures false (known c)

pub returns : goal.returns
returns c =
    let b = c.args.b.now in
    c.occupancy.ensures.0 ∙ held-count1 b (front_list layout1 b) c.word_of.result c.word_of.ensures false (known (goal.at.returns c).After-word_of)
