-- `listing::members::list_full` meets its contract. Front(f), all of its slots, is written where it is wanted (`listed-part`), those behind it are
-- written behind it, and both are merged.
use mathlib.Core.Path.{◌≡◌, refl, sym}
use Prim.Native.Nat.{◌≤◌}
use mathlib.Core.List.{◌++◌}
use native.Mathlib.Omega.{arith}
use lib.ListN.{length, take, drop}
use lib.Seq.{length-take-le}
use Rattle.crumbmap.specs.Layouts.{layout1, most_members}
use Rattle.buckets.specs.Buckets.{front_list}
use Rattle.machine.specs.Images.{in_front}
use Rattle.image.specs.Steps.Listed.{Listed}
use Rattle.image.proofs.ListedLaws.{listed-bytes, listed-part}
use Rattle.listing.proofs.ListingLaws.{members-fit, members-parts, members-merged}
use Rattle.listing.proofs.members.list_full.Goals.{Start, After-list_front-n}
use Rattle.listing.proofs.members.list_full.Goals as goal

-- the room for all members; the start of the output that is lent; and the output once Front(f) is listed
room : (s : Start) → most_members layout1 ≤ length s.args.out.now
room s = omega (arith, s.requires.2)

lent : (s : Start) → length (take layout1.front_slots s.args.out.now) ≡ layout1.front_slots
lent s = length-take-le layout1.front_slots s.args.out.now (omega (arith, s.requires.2))

front : (c : After-list_front-n) →
    Listed (in_front layout1 c.args.front.0 c.args.image.now) c.args.out.now c.list_front-n.result
    (c.list_front-n.new.out ++ drop layout1.front_slots c.args.out.now)
front c =
    let e = listed-bytes (front_list layout1) c.bucket.ensures.0 c.list_front-n.ensures in
    let l : length (take layout1.front_slots c.args.out.now) ≡ layout1.front_slots =
    length-take-le layout1.front_slots c.args.out.now (omega (arith, c.requires.2)) in
    listed-part e layout1.front_slots c.args.out.now refl (omega (arith, e.many, l, c.requires.0.front.list.room))

pub slice_bounds-list_front-end-2 : goal.slice_bounds-list_front-end-2
slice_bounds-list_front-end-2 c = sym (lent (goal.at.slice_bounds-list_front-end-2 c).Start)

pub list_front-n-requires : goal.list_front-n-requires
list_front-n-requires c =
    rw c.bucket.ensures.0 (c.requires.0.front.sound, lent (goal.at.list_front-n-requires c).Start)

pub merge_parts-requires : goal.merge_parts-requires
merge_parts-requires c =
    let p = c.requires in
    let a = goal.at.merge_parts-requires c in (
      members-parts p.0 p.1 (front a.After-list_front-n) (room a.Start) c.list_overflow-m.ensures,
      members-fit p.0 p.1 (front a.After-list_front-n) (room a.Start) c.list_overflow-m.ensures,
    )

pub returns : goal.returns
returns c =
    let p = c.requires in
    let a = goal.at.returns c in
    members-merged p.0 p.1 (front a.After-list_front-n) (room a.Start) c.list_overflow-m.ensures c.merge_parts.ensures
