-- `joining::join::add_behind` meets its contract. The members past those in front are those behind, where the front bucket is full; else there are
-- none.
use mathlib.Core.Path.{◌≡◌, refl, ◌∙◌, ap}
use Prim.Native.Nat.{◌≤◌}
use mathlib.Core.List.{List}
use native.Mathlib.Omega.{arith}
use lib.ListN.{length}
use Rattle.crumbmap.specs.Layouts.{layout1, most_members}
use Rattle.buckets.proofs.BucketLaws.{fits1}
use Rattle.machine.specs.Images.{in_front}
use Rattle.machine.specs.Steps.Spills.{push_all}
use Rattle.joining.proofs.CheckedImages.{Known, known, members-known}
use Rattle.joining.proofs.JoinLaws.{behind-nothing, listed-many, listed-behind, listed-range}
use Rattle.joining.proofs.join.add_behind.Goals.{After-bucket, After-count_front, Else-count_front-lt-FRONT_SLOTS, After-list_members-n}
use Rattle.joining.proofs.join.add_behind.Goals as goal

-- the source is known
source : (c : After-bucket) → Known layout1 c.args.size c.args.source.now
source c = known fits1 (λ i. (c.type_inv.source i).fits) c.requires.1

-- how many stand in front
many : (c : After-count_front) → c.count_front.result ≡ length (in_front layout1 c.args.front.0 c.args.source.now)
many c = rw c.bucket.ensures.0 at c.count_front.ensures

-- all slots
full : (c : Else-count_front-lt-FRONT_SLOTS) → layout1.front_slots ≤ length (in_front layout1 c.args.front.0 c.args.source.now)
full c = omega (arith, rw c.bucket.ensures.0 at c.count_front.ensures, c.if-count_front-lt-FRONT_SLOTS.false)

-- as many are listed as the slots, or more
enough : (c : After-list_members-n) → (layout1.front_slots ≤ c.list_members-n.result) × (c.list_members-n.result ≤ most_members layout1)
enough c =
    listed-many (known fits1 (λ i. (c.type_inv.source i).fits) c.requires.1) c.requires.2.within.front
    (omega (arith, rw c.bucket.ensures.0 at c.count_front.ensures, c.if-count_front-lt-FRONT_SLOTS.false)) c.list_members-n.ensures

pub count_front-requires : goal.count_front-requires
count_front-requires c =
    rw c.bucket.ensures.0 (members-known (source (goal.at.count_front-requires c).After-bucket) c.requires.2.within.front).front.sound

pub returns-then-count_front-lt-FRONT_SLOTS : goal.returns-then-count_front-lt-FRONT_SLOTS
returns-then-count_front-lt-FRONT_SLOTS c =
    let at = goal.at.returns-then-count_front-lt-FRONT_SLOTS c in (
      behind-nothing (source at.After-bucket) c.requires.2.within.front c.args.target.now
          (omega (arith, many at.After-count_front, c.if-count_front-lt-FRONT_SLOTS.true)),
      c.requires.2,
    )

pub list_members-n-requires : goal.list_members-n-requires
list_members-n-requires c =
    (members-known (source (goal.at.list_members-n-requires c).After-bucket) c.requires.2.within.front, refl)

pub slice_bounds-push_all-count : goal.slice_bounds-push_all-count
slice_bounds-push_all-count c = (enough (goal.at.slice_bounds-push_all-count c).After-list_members-n).0

pub slice_bounds-push_all-start : goal.slice_bounds-push_all-start
slice_bounds-push_all-start c = (enough (goal.at.slice_bounds-push_all-start c).After-list_members-n).0

pub push_all-requires : goal.push_all-requires
push_all-requires c =
    let at = goal.at.push_all-requires c in (
      c.requires.0,
      c.requires.2,
      listed-range (source at.After-bucket) c.requires.2.within.front (full at.Else-count_front-lt-FRONT_SLOTS) c.list_members-n.ensures,
    )

pub returns : goal.returns
returns c =
    let a = c.args in
    let at = goal.at.returns c in
    let e = c.push_all.ensures in (
      e.0 ∙ ap (λ (l : List _). push_all layout1 a.size a.front.0 l a.target.now)
          (listed-behind (source at.After-bucket) c.requires.2.within.front (full at.Else-count_front-lt-FRONT_SLOTS) c.list_members-n.ensures),
      e.1,
    )
