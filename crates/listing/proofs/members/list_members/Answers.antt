-- `listing::members::list_members` meets its contract. Fewer in front than its slots are all there are, and are listed where they are wanted
-- (`listed-part`).
use mathlib.Core.Path.{◌≡◌, refl, sym}
use Prim.Native.Nat.{◌<◌}
use native.Mathlib.Omega.{arith}
use lib.ListN.{length, take}
use lib.Seq.{length-take-le}
use Rattle.crumbmap.specs.Layouts.{layout1}
use Rattle.buckets.specs.Buckets.{front_list}
use Rattle.machine.specs.Images.{in_front}
use Rattle.image.proofs.ListedLaws.{listed-bytes, listed-part}
use Rattle.listing.proofs.ListingLaws.{members-few}
use Rattle.listing.proofs.members.list_members.Goals.{After-count_front, Start}
use Rattle.listing.proofs.members.list_members.Goals as goal

-- how many there are in front, and the start of the output that is lent
many : (c : After-count_front) → let a = c.args in c.count_front.result ≡ length (in_front layout1 a.front.0 a.image.now)
many c = rw c.bucket-mine.ensures.0 at c.count_front.ensures

lent : (s : Start) → length (take layout1.front_slots s.args.out.now) ≡ layout1.front_slots
lent s = length-take-le layout1.front_slots s.args.out.now (omega (arith, s.requires.1))

pub slice_bounds-list_front-end-then-count_front-lt-FRONT_SLOTS : goal.slice_bounds-list_front-end-then-count_front-lt-FRONT_SLOTS
slice_bounds-list_front-end-then-count_front-lt-FRONT_SLOTS c = sym (lent (goal.at.slice_bounds-list_front-end-then-count_front-lt-FRONT_SLOTS c).Start)

pub list_front-requires : goal.list_front-requires
list_front-requires c =
    rw c.bucket-mine.ensures.0 (c.requires.0.front.sound, lent (goal.at.list_front-requires c).Start)

pub returns-then-count_front-lt-FRONT_SLOTS : goal.returns-then-count_front-lt-FRONT_SLOTS
returns-then-count_front-lt-FRONT_SLOTS c =
    let few : length (in_front layout1 c.args.front.0 c.args.image.now) < layout1.front_slots = omega (arith, many (goal.at.returns-then-count_front-lt-FRONT_SLOTS c).After-count_front, c.if-count_front-lt-FRONT_SLOTS.true) in
    let e = listed-bytes (front_list layout1) c.bucket-mine.ensures.0 c.list_front.ensures in
    rw (members-few c.requires.0 few)
    (listed-part e layout1.front_slots c.args.out.now refl (omega (arith, e.many, lent (goal.at.returns-then-count_front-lt-FRONT_SLOTS c).Start, few)))
