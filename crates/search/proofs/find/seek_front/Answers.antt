-- `search::find::seek_front` meets its contract: no slot has the tag, or the first that has is the key's and its copies are marked, or select finds the slot.
use Rattle.std.proofs.Common.{◌≡◌, ◌*◌, ◌-◌, ◌/◌, ◌%◌, ◌<◌, false, length, sym, ap, arith}
use native.Mathlib.Nat.{div-add-mod'}
use Rattle.multiset.proofs.RankLaws.{found_some}
use Rattle.multiset.proofs.SlotLaws.{slot-inside}
use Rattle.crumbmap.specs.Layouts.{layout1, tags}
use Rattle.buckets.specs.Buckets.{front_list}
use Rattle.buckets.proofs.ElementLaws.{below-bytes}
use Rattle.buckets.proofs.BucketLaws.{fits1}
use Rattle.minifilter.specs.Steps.Slots.{span_of, tag_at}
use Rattle.minifilter.specs.Steps.Marks.{marks_of}
use Rattle.minifilter.proofs.HeldLaws.{Held, held}
use Rattle.search.specs.Steps.Searches.{search_of, Lowest}
use Rattle.search.proofs.TagLaws.{marks-absent}
use Rattle.search.proofs.find.seek_front.Goals.{After-marks_of-marks, In-Some}
use Rattle.search.proofs.find.seek_front.Goals as goal

-- the bucket that was read
known : (c : After-marks_of-marks) → Held layout1 false c.args.b.now (front_list layout1 c.args.b.now)
known c = held layout1 fits1 false c.args.b.now (below-bytes c.args.b.now c.shared_slice_known-1.given) c.requires.0

pub overflow_sub-b : goal.overflow_sub-b
overflow_sub-b c = omega (arith, c.requires.0.long)

pub marks_of-marks-requires : goal.marks_of-marks-requires
marks_of-marks-requires c = (c.requires.0.long, omega (arith, c.requires.0.long))

-- the slots by the bucket's length
marks-are : (c : After-marks_of-marks)
    → c.marks_of-marks.result ≡ 2 * marks_of (tag_at layout1 false c.args.b.now) (c.args.key % tags layout1) 0 layout1.front_slots
marks-are c =
    let all : (length c.args.b.now - 8) / 2 ≡ layout1.front_slots = omega (arith, c.requires.0.long) in
    rw all at c.marks_of-marks.ensures

pub returns-then-marks-eq0 : goal.returns-then-marks-eq0
returns-then-marks-eq0 c =
    let k = (goal.at.returns-then-marks-eq0 c).After-marks_of-marks in
    ap search_of (sym (marks-absent c.args.b.now (front_list layout1 c.args.b.now) (known k) c.args.key c.marks_of-marks.result c.requires.1 (marks-are k) c.if-marks-eq0.true))

pub first_marked-requires : goal.first_marked-requires
first_marked-requires c =
    (c.requires.0, c.requires.1, omega (arith, c.if-marks-eq0.false), marks-are (goal.at.first_marked-requires c).After-marks_of-marks)

-- the first slot with the tag is the key's lowest, and within the bucket
lowest : (c : In-Some) → Lowest layout1 c.args.b.now c.args.key c.marks_of-marks.result c.in-Some.slot
lowest c = c.first_marked.ensures c.in-Some.slot c.in-Some.is

within : (c : In-Some) → c.in-Some.slot < layout1.front_slots
within c =
    let k = known (goal.at.In-Some c).After-marks_of-marks in
    omega (arith, (lowest c).rank, slot-inside c.args.key (front_list layout1 c.args.b.now) k.order (lowest c).there, k.room)

pub overflow_cast-slot : goal.overflow_cast-slot
overflow_cast-slot c = omega (arith, within (goal.at.overflow_cast-slot c).In-Some)

pub overflow_add-slot : goal.overflow_add-slot
overflow_add-slot c = omega (arith, within (goal.at.overflow_add-slot c).In-Some)

pub overflow_shr-marks : goal.overflow_shr-marks
overflow_shr-marks c = omega (arith, within (goal.at.overflow_shr-marks c).In-Some)

pub copies_marked-requires : goal.copies_marked-requires
copies_marked-requires c =
    let l = lowest (goal.at.copies_marked-requires c).In-Some in
    let whole = div-add-mod' c.args.key (tags layout1) in
    record {
      standing = record {
        rank = record { sound = c.requires.0; mini = omega (arith, c.requires.1); low = omega arith; rank = rw whole l.rank };
        there = rw whole l.there;
      };
      marks-are = l.rest;
    }

pub returns-in-Some : goal.returns-in-Some
returns-in-Some c =
    let l = lowest (goal.at.returns-in-Some c).In-Some in
    let k = known (goal.at.returns-in-Some c).After-marks_of-marks in
    let many = rw (div-add-mod' c.args.key (tags layout1)) at c.copies_marked.ensures in
    rw (many, l.rank) (ap search_of (sym (found_some c.args.key (front_list layout1 c.args.b.now) k.order l.there)))

pub seek_in-requires : goal.seek_in-requires
seek_in-requires c = record { sound = c.requires.0; mini = omega (arith, c.requires.1); low = omega arith }

pub returns : goal.returns
returns c = rw (div-add-mod' c.args.key (span_of layout1 false)) at c.seek_in.ensures
