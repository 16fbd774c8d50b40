-- `minifilter::read::crumbs_marked` meets its contract: all crumbs are marked where all bits are set, and else one after the other is looked at.
use Rattle.std.proofs.Common.{◌≡◌, true, List, ℕ, length, take, get_or, sym, ◌∙◌, add-one, arith}
use Rattle.std.proofs.Math.ListN.{drop_of_length-le}
use lib.Seq.{length-take-le, get_or-take}
use Rattle.crumbmap.specs.Layouts.{layout1}
use Rattle.minifilter.specs.Steps.Slots.{slot_crumbs, marked}
use Rattle.multiset.proofs.MultisetLaws.{below-take}
use Rattle.buckets.proofs.BucketLaws.{fits1, below-crumbs_in}
use Rattle.minifilter.proofs.CrumbLaws.{marked-on, marked-stop, marked_all}
use Rattle.minifilter.proofs.PassLaws.{length-slot_crumbs}
use Rattle.minifilter.proofs.read.crumbs_marked.Goals.{Start, After-crumb_of-crumb}
use Rattle.minifilter.proofs.read.crumbs_marked.Goals as goal

-- the crumbs of the members, as many as those
abbrev crumbs : Start → List ℕ
crumbs c = take c.args.members (slot_crumbs layout1 true c.args.b.now)

crumbs-are : (c : Start) → length (crumbs c) ≡ c.args.members
crumbs-are c =
    let b = c.args.b.now in
    length-take-le c.args.members (slot_crumbs layout1 true b) (omega (arith, length-slot_crumbs layout1 fits1 b c.requires.0))

-- what `crumb_of` gave is the member's
crumb-is : (c : After-crumb_of-crumb) → get_or (crumbs (goal.at.After-crumb_of-crumb c).Start) c.loop-slot.slot 0 ≡ c.crumb_of-crumb.result
crumb-is c =
    get_or-take c.args.members (slot_crumbs layout1 true c.args.b.now) c.loop-slot.slot 0 c.loop-slot-test.true ∙ sym c.crumb_of-crumb.ensures.0

pub returns-then-marks-eq65535 : goal.returns-then-marks-eq65535
returns-then-marks-eq65535 c =
    let cs = slot_crumbs layout1 true c.args.b.now in
    rw c.if-marks-eq65535.true (sym (marked_all (take c.args.members cs) (below-take 16 c.args.members cs (below-crumbs_in layout1 c.args.b.now))))

pub returns-then-marks-crumb-eq0 : goal.returns-then-marks-crumb-eq0
returns-then-marks-crumb-eq0 c =
    let g = goal.at.returns-then-marks-crumb-eq0 c in
    sym (c.loop-slot.invariant
    ∙ marked-stop c.args.marks c.loop-slot.slot (crumbs g.Start) (omega (arith, crumbs-are g.Start)) (rw (crumb-is g.After-crumb_of-crumb) c.if-marks-crumb-eq0.true))

pub loop-slot-preserved : goal.loop-slot-preserved
loop-slot-preserved c =
    let g = goal.at.loop-slot-preserved c in
    c.loop-slot.invariant
    ∙ marked-on c.args.marks c.loop-slot.slot (crumbs g.Start) (omega (arith, crumbs-are g.Start)) (rw (crumb-is g.After-crumb_of-crumb) c.if-marks-crumb-eq0.false)
    ∙ rw (add-one c.loop-slot.slot)

pub returns : goal.returns
unfolding marked
returns c =
    let s = (goal.at.returns c).Start in
    sym (c.loop-slot.invariant ∙ rw (drop_of_length-le (crumbs s) {i = c.loop-slot.slot} (omega (arith, crumbs-are s))))
