-- `search::find::count_back` meets its contract: the word has a mini-bucket for each member (`held-count1`).
use mathlib.Core.Path.{◌∙◌}
use mathlib.Core.Bool.{true}
use Rattle.crumbmap.specs.Layouts.{layout1}
use Rattle.buckets.specs.Buckets.{back_list}
use Rattle.buckets.proofs.ElementLaws.{below-bytes}
use Rattle.buckets.proofs.BucketLaws.{fits1}
use Rattle.minifilter.proofs.HeldLaws.{held-count1, held-many1, Held, held}
use Rattle.search.proofs.find.count_back.Goals.{After-word_of}
use Rattle.search.proofs.find.count_back.Goals as goal

-- the bucket that was read
known : (c : After-word_of) → let b = c.args.b.now in Held layout1 true b (back_list layout1 b)
known c = let b = c.args.b.now in held layout1 fits1 true b (below-bytes b c.shared_slice_known-1.given) c.requires

pub occupancy-requires : goal.occupancy-requires
occupancy-requires c =
    let b = c.args.b.now in
    held-many1 b (back_list layout1 b) c.word_of.result c.word_of.ensures true (known c)

pub returns : goal.returns
returns c =
    let b = c.args.b.now in
    c.occupancy.ensures.0 ∙ held-count1 b (back_list layout1 b) c.word_of.result c.word_of.ensures true (known (goal.at.returns c).After-word_of)
