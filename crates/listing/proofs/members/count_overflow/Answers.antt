-- `listing::members::count_overflow` meets its contract. The choices lead to First(f) and Second(f).
use mathlib.Core.Path.{◌∙◌, ap}
use mathlib.Core.Bool.{true, false}
use native.Mathlib.Omega.{arith}
use lib.ListN.{length}
use Rattle.crumbmap.specs.Layouts.{layout1}
use Rattle.machine.specs.Machine.{bag_in}
use Rattle.machine.proofs.BagLaws.{length-added_all}
use Rattle.listing.proofs.ListingLaws.{bag-is}
use Rattle.listing.proofs.members.count_overflow.Goals as goal

pub returns : goal.returns
returns c =
    let a = c.args in
    omega (
      arith,
      c.count_bag-first.ensures.0 ∙ ap length (bag-is c.first_of.ensures layout1 a.image.now),
      c.count_bag-second.ensures.0 ∙ ap length (bag-is c.second_of.ensures layout1 a.image.now),
      length-added_all (bag_in layout1 a.size a.front.0 true a.image.now) (bag_in layout1 a.size a.front.0 false a.image.now),
    )
