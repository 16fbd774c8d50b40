-- `merging::merge::merge_fronts` meets its contract. The loop's invariant: the target is good, its front buckets from f on hold nothing, and what is
-- left of the merge is that from f on (`Reaching`).
use mathlib.Core.Path.{◌∙◌}
use Prim.Native.Nat.{◌<◌}
use native.Mathlib.Omega.{arith}
use Rattle.crumbmap.specs.Layouts.{layout1, fronts}
use Rattle.buckets.proofs.BucketLaws.{fits1}
use Rattle.joining.specs.Steps.Joins.{Scratch}
use Rattle.joining.proofs.CheckedImages.{Known, known}
use Rattle.merging.proofs.MergeSteps.{fronts-start, fronts-merging, fronts-full, fronts-on, fronts-end}
use Rattle.merging.proofs.merge.merge_fronts.Goals.{After-merge_front, In-loop-f}
use Rattle.merging.proofs.merge.merge_fronts.Goals as goal

-- both sources are known
first : (c : After-merge_front) → Known layout1 c.args.size c.args.first.now
first c = known fits1 (λ i. (c.type_inv.first i).fits) c.requires.1.first

second : (c : After-merge_front) → Known layout1 c.args.size c.args.second.now
second c = known fits1 (λ i. (c.type_inv.second i).fits) c.requires.1.second

-- f is the number of a front bucket
inside : (c : In-loop-f) → c.loop-f.f < fronts c.args.size
unfolding fronts
inside c = omega arith

-- the lists to work in keep their room
scratch : (d : After-merge_front) → let l = d.merge_front.new in Scratch layout1 l.a l.b l.over
scratch d =
    let k = d.merge_front.auto in
    let s = d.loop-f.invariant.1 in
    record { first = k.a ∙ s.first; second = k.b ∙ s.second; leaving = k.over ∙ s.leaving }

pub overflow_mul-f-end : goal.overflow_mul-f-end
overflow_mul-f-end c = omega (arith, c.requires.1.first.size.small)

pub loop-f-init : goal.loop-f-init
loop-f-init c =
    let p = c.requires in
    (fronts-start fits1 p.1 p.2 (λ i. (c.type_inv.target i).fits), p.3)

pub merge_front-requires : goal.merge_front-requires
merge_front-requires c =
    let v = c.loop-f.invariant in
    (c.requires.0, fronts-merging v.0 (inside (goal.at.merge_front-requires c).In-loop-f) c.requires.1, v.1)

pub returns-then-not-merge_front : goal.returns-then-not-merge_front
returns-then-not-merge_front c =
    let at = goal.at.returns-then-not-merge_front c in
    let m = c.merge_front in
    fronts-full c.loop-f.invariant.0 (first at.After-merge_front) (second at.After-merge_front) (inside at.In-loop-f) m.result m.new.target m.ensures
    c.if-not-merge_front.true

pub loop-f-preserved : goal.loop-f-preserved
loop-f-preserved c =
    let at = goal.at.loop-f-preserved c in
    let m = c.merge_front in (
      fronts-on c.loop-f.invariant.0 (first at.After-merge_front) (second at.After-merge_front) (inside at.In-loop-f) m.result m.new.target m.ensures
          fits1 c.if-not-merge_front.false m.auto.target (λ i. (c.type_inv.target i).fits),
      scratch at.After-merge_front,
    )

pub returns : goal.returns
unfolding fronts
returns c = fronts-end c.loop-f.invariant.0 (omega arith)
