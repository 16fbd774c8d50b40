-- `listing::members::list_bag` meets its contract. The lent bytes are those of the bucket that was read, and the list is written where it is wanted
-- (`listed-part`).
use mathlib.Core.Path.{◌≡◌, refl}
use Prim.Native.Nat.{ℕ}
use mathlib.Core.List.{List}
use native.Mathlib.Omega.{arith}
use lib.ListN.{length, take}
use lib.Seq.{length-take-le}
use Rattle.crumbmap.specs.Layouts.{layout1}
use Rattle.buckets.specs.Buckets.{carrying, back_list}
use Rattle.image.proofs.ListedLaws.{listed-bytes, listed-part, carrying-room}
use Rattle.listing.proofs.members.list_bag.Goals.{Start}
use Rattle.listing.proofs.members.list_bag.Goals as goal

-- the start of the output that is lent
room : (s : Start) → length (take layout1.back_slots s.args.out.now) ≡ layout1.back_slots
room s = length-take-le layout1.back_slots s.args.out.now s.requires.1

pub list_carrying-requires : goal.list_carrying-requires
list_carrying-requires c =
    rw c.back_bucket.ensures.0 (c.requires.0.read.sound, c.requires.0.crumb, room (goal.at.list_carrying-requires c).Start)

pub returns : goal.returns
returns c =
    let crumb = c.args.way.crumb in
    let e = listed-bytes (λ (b : List ℕ). carrying crumb (back_list layout1 b)) c.back_bucket.ensures.0 c.list_carrying.ensures in
    listed-part e layout1.back_slots c.args.out.now refl (omega (arith, e.many, room (goal.at.returns c).Start, carrying-room c.requires.0.read crumb))
