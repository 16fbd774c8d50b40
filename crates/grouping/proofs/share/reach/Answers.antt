-- `grouping::share::reach` meets its contract: a slot is free, or the largest key stands in the last one.
use Rattle.std.proofs.Common.{◌≡◌, suc, length, ap, ◌∙◌, add-one, arith}
use Rattle.crumbmap.specs.Layouts.{layout1}
use Rattle.buckets.proofs.BucketLaws.{fits1}
use Rattle.multiset.specs.Multisets.{largest}
use Rattle.machine.specs.Images.{in_front}
use Rattle.image.specs.Steps.ImageReads.{FrontFull}
use Rattle.image.proofs.ImageReadLaws.{front-full, largest-key}
use Rattle.grouping.proofs.LoneLaws.{reach_few, reach-full}
use Rattle.grouping.proofs.share.reach.Goals.{After-count_front, Else-count_front-lt-FRONT_SLOTS, After-largest_front}
use Rattle.grouping.proofs.share.reach.Goals as goal

-- the members are counted
many : (c : After-count_front) → let a = c.args in length (in_front layout1 a.front.0 a.image.now) ≡ c.count_front.result
many c = let e = rw c.bucket-b.ensures.0 at c.count_front.ensures in omega (arith, e)

-- all slots are in use, and the largest key is known
whole : (c : Else-count_front-lt-FRONT_SLOTS) → let a = c.args in
    length (in_front layout1 a.front.0 a.image.now) ≡ c.count_front.result → FrontFull layout1 a.front.0 a.image.now
whole c m = front-full c.requires m c.if-count_front-lt-FRONT_SLOTS.false

top : (c : After-largest_front) → let a = c.args in c.largest_front.result ≡ largest (in_front layout1 a.front.0 a.image.now)
top c = rw c.bucket-b.ensures.0 at c.largest_front.ensures

pub returns-then-count_front-lt-FRONT_SLOTS : goal.returns-then-count_front-lt-FRONT_SLOTS
returns-then-count_front-lt-FRONT_SLOTS c =
    let a = c.args in
    (reach_few layout1 a.front.0 a.image.now (omega (arith, many (goal.at.returns-then-count_front-lt-FRONT_SLOTS c).After-count_front)), omega arith)

pub overflow_add-result : goal.overflow_add-result
overflow_add-result c =
    let p = goal.at.overflow_add-result c in
    omega (arith, top c, (largest-key fits1 (whole p.Else-count_front-lt-FRONT_SLOTS (many p.After-count_front))).1)

pub returns : goal.returns
returns c =
    let a = c.args in
    let p = goal.at.returns c in
    let w = whole p.Else-count_front-lt-FRONT_SLOTS (many p.After-count_front) in
    let t = top p.After-largest_front in
    (add-one _ ∙ ap suc t ∙ reach-full layout1 a.front.0 a.image.now w.full, omega (arith, t, (largest-key fits1 w).1))
