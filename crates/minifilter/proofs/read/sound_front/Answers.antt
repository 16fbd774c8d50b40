-- `minifilter::read::sound_front` meets its contract: a bucket that passes the quick test is in order, and none of its members is below 0.
use mathlib.Core.Path.{refl, sym, ◌∙◌}
use mathlib.Core.Bool.{false}
use native.Mathlib.Omega.{arith}
use Rattle.crumbmap.specs.Layouts.{layout1}
use Rattle.minifilter.specs.Steps.Slots.{Ordered, slot_members}
use Rattle.multiset.proofs.RankLaws.{below-zero}
use Rattle.buckets.proofs.ElementLaws.{below-bytes}
use Rattle.buckets.proofs.BucketLaws.{fits1}
use Rattle.minifilter.proofs.ReadLaws.{reading-front, reading-slots}
use Rattle.minifilter.proofs.read.sound_front.Goals as goal

pub occupancy-requires : goal.occupancy-requires
occupancy-requires c = (c.passes.ensures c.if-passes.true).full

pub returns-then-passes : goal.returns-then-passes
returns-then-passes c =
    let b = c.args.b.now in
    let w = c.word_of-w.result in
    let o : Ordered layout1 false w b = c.passes.ensures c.if-passes.true in
    sym (reading-front layout1 0 b c.requires refl
    ∙ reading-slots layout1 fits1 b c.requires 0 w false c.word_of-w.ensures (omega (arith, c.word_of-w.type_inv)) o.full
    (omega (arith, c.occupancy.ensures.0, c.occupancy.ensures.1)) (below-bytes b c.shared_slice_known-1.given) (omega arith)
    ∙ rw (o.order, below-zero (slot_members layout1 false w b), c.occupancy.ensures.0))
