-- `listing::members::list_overflow` meets its contract. The choices lead to First(f) and Second(f); the second is written behind the first, and merged
-- they are both together.
use mathlib.Core.Bool.{false}
use native.Mathlib.Omega.{arith}
use Rattle.image.proofs.ImageReadLaws.{chosen-read, bag-read}
use Rattle.listing.proofs.ListingLaws.{first-rest, bags-room, bags-parts, bags-merged}
use Rattle.listing.proofs.members.list_overflow.Goals as goal

pub list_bag-m-requires : goal.list_bag-m-requires
list_bag-m-requires c =
    let p = c.requires in (
      bag-read c.second_of.ensures (chosen-read p.0.both false),
      first-rest p.0.both c.first_of.ensures c.list_bag-n.ensures p.1,
    )

pub merge_parts-requires : goal.merge_parts-requires
merge_parts-requires c =
    let p = c.requires in (
      bags-parts p.0.both c.first_of.ensures c.list_bag-n.ensures p.1 c.second_of.ensures c.list_bag-m.ensures,
      omega (arith, bags-room p.0.both c.first_of.ensures c.list_bag-n.ensures p.1 c.second_of.ensures c.list_bag-m.ensures),
    )

pub returns : goal.returns
returns c =
    let p = c.requires in
    bags-merged p.0.both c.first_of.ensures c.list_bag-n.ensures p.1 c.second_of.ensures c.list_bag-m.ensures c.merge_parts.ensures
