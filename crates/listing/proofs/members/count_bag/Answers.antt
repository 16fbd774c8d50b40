-- `listing::members::count_bag` meets its contract. The lent bytes are those of the bucket that was read.
use native.Mathlib.Omega.{arith}
use Rattle.image.proofs.ListedLaws.{carrying-room}
use Rattle.listing.proofs.members.count_bag.Goals as goal

pub count_carrying-requires : goal.count_carrying-requires
count_carrying-requires c = let p = c.requires in rw c.back_bucket.ensures.0 (p.read.sound, p.crumb)

pub returns : goal.returns
returns c =
    let e = rw c.back_bucket.ensures.0 at c.count_carrying.ensures in
    (e, omega (arith, e, carrying-room c.requires.read c.args.way.crumb))
