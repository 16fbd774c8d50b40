-- `minifilter::read::quick_back` meets its contract: a bucket that passes the quick test is in order, with nothing behind its slots, and none of its
-- members is below 0. What is left are the crumbs of the members.
use mathlib.Core.Path.{refl, sym, ◌∙◌}
use mathlib.Core.Bool.{true}
use mathlib.Core.Logic.{inl, inr}
use lib.ListN.{take}
use native.Mathlib.Omega.{arith}
use Rattle.crumbmap.specs.Layouts.{layout1}
use Rattle.minifilter.specs.Steps.Slots.{BackOrdered, slot_crumbs, slot_members}
use Rattle.multiset.proofs.MultisetLaws.{below-take}
use Rattle.multiset.proofs.RankLaws.{below-zero}
use Rattle.buckets.proofs.ElementLaws.{below-bytes}
use Rattle.buckets.proofs.BucketLaws.{fits1, below-crumbs_in}
use Rattle.minifilter.proofs.ReadLaws.{reading-slots}
use Rattle.minifilter.proofs.CrumbLaws.{reading-back, marked-valid}
use Rattle.minifilter.proofs.read.quick_back.Goals.{Then-passes}
use Rattle.minifilter.proofs.read.quick_back.Goals as goal

-- what the quick test found
passed : (c : Then-passes) → BackOrdered layout1 c.word_of-w.result c.args.b.now
passed c = c.passes.ensures c.if-passes.true

pub occupancy-members-requires : goal.occupancy-members-requires
occupancy-members-requires c = (passed c).slots.full

pub crumbs_marked-requires : goal.crumbs_marked-requires
crumbs_marked-requires c =
    (c.requires.long, omega (arith, c.occupancy-members.ensures.0, (passed (goal.at.crumbs_marked-requires c).Then-passes).room))

pub returns-then-crumbs_marked : goal.returns-then-crumbs_marked
returns-then-crumbs_marked c =
    let b = c.args.b.now in
    let w = c.word_of-w.result in
    let p = passed (goal.at.returns-then-crumbs_marked c).Then-passes in
    let n = c.occupancy-members.result in
    let cs = slot_crumbs layout1 true b in
    inr (sym (reading-back layout1 fits1 0 c.args.size c.args.bucket.0 b c.requires.long
    ∙ rw (
      reading-slots layout1 fits1 b c.requires.long 0 w true c.word_of-w.ensures (omega (arith, c.word_of-w.type_inv)) p.slots.full p.room
          (below-bytes b c.shared_slice_known-1.given) (omega arith),
      p.slots.order,
      below-zero (slot_members layout1 true w b),
      p.unused,
      ← c.occupancy-members.ensures.0,
      marked-valid c.args.size c.args.bucket.0 c.valid_crumbs-marks.result c.valid_crumbs-marks.ensures (take n cs) (below-take 16 n cs (below-crumbs_in layout1 b)),
      ← c.crumbs_marked.ensures,
      c.if-crumbs_marked.true,
    )))

-- else it says nothing
pub returns-else-crumbs_marked : goal.returns-else-crumbs_marked
returns-else-crumbs_marked c = inl refl

pub returns-else-passes : goal.returns-else-passes
returns-else-passes c = inl refl
