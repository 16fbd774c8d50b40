-- `insertion::plan::overflow_of` meets its contract. The larger of the key and the largest in front.
use mathlib.Core.Path.{◌≡◌, sym, ◌∙◌}
use native.Mathlib.Omega.{arith}
use Rattle.multiset.specs.Multisets.{largest}
use Rattle.crumbmap.specs.Layouts.{layout1}
use Rattle.buckets.proofs.BucketLaws.{fits1}
use Rattle.machine.specs.Images.{in_front}
use Rattle.image.proofs.ImageReadLaws.{largest-key}
use Rattle.insertion.proofs.InsertSteps.{over-largest, over-key}
use Rattle.insertion.proofs.plan.overflow_of.Goals.{After-largest_front-largest}
use Rattle.insertion.proofs.plan.overflow_of.Goals as goal

-- the largest in front
top : (c : After-largest_front-largest) →
    let a = c.args in
    c.largest_front-largest.result ≡ largest (in_front layout1 a.front.0 a.image.now)
top c = rw c.bucket.ensures.0 at c.largest_front-largest.ensures

pub returns-then-key-largest : goal.returns-then-key-largest
returns-then-key-largest c =
    let xs = in_front layout1 c.args.front.0 c.args.image.now in
    let l = top (goal.at.returns-then-key-largest c).After-largest_front-largest in (
      l ∙ sym (over-largest c.args.key xs c.requires.0.read.list.order (omega (arith, l))),
      omega (arith, l, (largest-key fits1 c.requires.0).1),
    )

pub returns : goal.returns
returns c =
    let xs = in_front layout1 c.args.front.0 c.args.image.now in
    let l = top (goal.at.returns c).After-largest_front-largest in (
      sym (over-key c.args.key xs c.requires.0.read.list.order (omega (arith, l))),
      c.requires.1,
    )
