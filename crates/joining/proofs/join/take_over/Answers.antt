-- `joining::join::take_over` meets its contract. The bytes of the one front bucket that has members, and those behind it pushed, are what putting in
-- all of them one by one gives (`take_on`, `take-full`).
use Rattle.crumbmap.specs.Layouts.{layout1}
use Rattle.buckets.proofs.BucketLaws.{fits1}
use Rattle.image.proofs.ImageReadLaws.{front-in}
use Rattle.joining.proofs.CheckedImages.{Known, known, backyard-known}
use Rattle.joining.proofs.JoinLaws.{take_behind, take_on, take-full}
use Rattle.joining.proofs.join.take_over.Goals.{After-occupied_front-served}
use Rattle.joining.proofs.join.take_over.Goals as goal

-- the three images are known
first : (c : After-occupied_front-served) → Known layout1 c.args.size c.args.first.now
first c = known fits1 (λ i. (c.type_inv.first i).fits) c.requires.1.from.first

second : (c : After-occupied_front-served) → Known layout1 c.args.size c.args.second.now
second c = known fits1 (λ i. (c.type_inv.second i).fits) c.requires.1.from.second

target : (c : After-occupied_front-served) → Known layout1 c.args.size c.args.target.now
target c = known fits1 (λ i. (c.type_inv.target i).fits) c.requires.1.into.checked

pub occupied_front-served-requires : goal.occupied_front-served-requires
occupied_front-served-requires c =
    let p = c.requires.1 in (
      (known fits1 (λ i. (c.type_inv.first i).fits) p.from.first).read.front _ p.into.front,
      (known fits1 (λ i. (c.type_inv.second i).fits) p.from.second).read.front _ p.into.front,
    )

pub write_front_at-requires : goal.write_front_at-requires
write_front_at-requires c =
    (front-in (backyard-known (target (goal.at.write_front_at-requires c).After-occupied_front-served) c.requires.1.into.front).within, c.occupied_front-served.ensures.1)

pub add_behind-requires : goal.add_behind-requires
add_behind-requires c = (
  c.requires.0,
  c.requires.1.from.first,
  take_behind fits1 (target (goal.at.add_behind-requires c).After-occupied_front-served) c.requires.1.into (first (goal.at.add_behind-requires c).After-occupied_front-served) (second (goal.at.add_behind-requires c).After-occupied_front-served) c.requires.2
      c.occupied_front-served.ensures.0 c.write_front_at.ensures,
)

pub returns-then-add_behind : goal.returns-then-add_behind
returns-then-add_behind c =
    take_on fits1 (target (goal.at.returns-then-add_behind c).After-occupied_front-served) c.requires.1.into (first (goal.at.returns-then-add_behind c).After-occupied_front-served) (second (goal.at.returns-then-add_behind c).After-occupied_front-served) c.requires.2 c.occupied_front-served.ensures.0 c.write_front_at.ensures
    c.add_behind.result c.add_behind.new.target c.add_behind.ensures.0 c.if-add_behind.true c.add_behind-then-add_behind.ensures.0

pub returns : goal.returns
returns c =
    take-full fits1 (target (goal.at.returns c).After-occupied_front-served) c.requires.1.into (first (goal.at.returns c).After-occupied_front-served) (second (goal.at.returns c).After-occupied_front-served) c.requires.2 c.occupied_front-served.ensures.0 c.write_front_at.ensures
    c.add_behind.result c.add_behind.new.target c.add_behind.ensures.0 c.if-add_behind.false
