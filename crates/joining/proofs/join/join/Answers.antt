-- `joining::join::join` meets its contract. One front write and pushes are what putting in all keys of both lists one by one gives (`join-on`,
-- `join-full`).
use Rattle.crumbmap.specs.Layouts.{layout1}
use Rattle.buckets.proofs.BucketLaws.{fits1}
use Rattle.joining.proofs.CheckedImages.{Known, known}
use Rattle.joining.proofs.JoinLaws.{join-sharing, join-rest, join-behind, join-gone, join-on, join-full}
use Rattle.joining.proofs.join.join.Goals.{After-in_front-own}
use Rattle.joining.proofs.join.join.Goals as goal

-- the target is known
target : (c : After-in_front-own) → Known layout1 c.args.size c.args.target.now
target c = known fits1 (λ i. (c.type_inv.target i).fits) c.requires.1.into.checked

pub fill_both-gone-requires : goal.fill_both-gone-requires
fill_both-gone-requires c =
    let j = c.requires.1 in
    join-sharing fits1 (target (goal.at.fill_both-gone-requires c).After-in_front-own) j.into j.first j.second c.in_front-own.result c.in_front-own.ensures c.requires.2

pub push_all-requires : goal.push_all-requires
push_all-requires c =
    let j = c.requires.1 in
    let e = c.fill_both-gone.ensures in (
      c.requires.0,
      join-behind fits1 (target (goal.at.push_all-requires c).After-in_front-own) j.into j.first j.second c.in_front-own.result c.in_front-own.ensures e.2 e.1,
      join-rest fits1 (target (goal.at.push_all-requires c).After-in_front-own) j.into j.first j.second c.in_front-own.result c.in_front-own.ensures,
    )

pub push_all-requires-then-push_all : goal.push_all-requires-then-push_all
push_all-requires-then-push_all c =
    let j = c.requires.1 in
    let e = c.fill_both-gone.ensures in (
      c.requires.0,
      c.push_all.ensures.1,
      join-gone fits1 (target (goal.at.push_all-requires-then-push_all c).After-in_front-own) j.into j.first j.second c.in_front-own.result c.in_front-own.ensures e.2 e.1,
    )

pub returns-then-push_all : goal.returns-then-push_all
returns-then-push_all c =
    let j = c.requires.1 in
    let e = c.fill_both-gone.ensures in
    join-on fits1 (target (goal.at.returns-then-push_all c).After-in_front-own) j.into j.first j.second c.in_front-own.result c.in_front-own.ensures e.2 e.1
    c.push_all.result c.push_all.new.target c.push_all.ensures.0 c.if-push_all.true c.push_all-then-push_all.ensures.0

pub returns : goal.returns
returns c =
    let j = c.requires.1 in
    let e = c.fill_both-gone.ensures in
    join-full fits1 (target (goal.at.returns c).After-in_front-own) j.into j.first j.second c.in_front-own.result c.in_front-own.ensures e.2 e.1
    c.push_all.result c.push_all.new.target c.push_all.ensures.0 c.if-push_all.false
