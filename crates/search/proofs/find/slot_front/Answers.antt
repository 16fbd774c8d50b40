-- `search::find::slot_front` meets its contract: no slot has the tag, or the first that has is the key's, or select finds the slot.
use Rattle.std.proofs.Common.{◌≡◌, false, sym, ap, ◌∙◌, arith}
use native.Mathlib.Nat.{div-add-mod'}
use Rattle.multiset.specs.Multisets.{found_in}
use Rattle.multiset.proofs.RankLaws.{found_some}
use Rattle.crumbmap.specs.Layouts.{layout1}
use Rattle.buckets.specs.Buckets.{front_list}
use Rattle.buckets.proofs.ElementLaws.{below-bytes}
use Rattle.buckets.proofs.BucketLaws.{fits1}
use Rattle.minifilter.specs.Steps.Slots.{span_of}
use Rattle.minifilter.proofs.HeldLaws.{Held, held}
use Rattle.search.specs.Steps.Searches.{search_of, slot_else}
use Rattle.search.proofs.FoundLaws.{search-some, search-none}
use Rattle.search.proofs.TagLaws.{marks-absent}
use Rattle.search.proofs.find.slot_front.Goals.{After-marks_of-marks, After-seek_in}
use Rattle.search.proofs.find.slot_front.Goals as goal

-- the bucket that was read
known : (c : After-marks_of-marks) → Held layout1 false c.args.b.now (front_list layout1 c.args.b.now)
known c = held layout1 fits1 false c.args.b.now (below-bytes c.args.b.now c.shared_slice_known-1.given) c.requires.0

pub marks_of-marks-requires : goal.marks_of-marks-requires
marks_of-marks-requires c = (c.requires.0.long, omega arith)

pub returns-then-marks-eq0 : goal.returns-then-marks-eq0
returns-then-marks-eq0 c =
    ap (slot_else layout1.front_slots)
    (sym (marks-absent c.args.b.now (front_list layout1 c.args.b.now) (known (goal.at.returns-then-marks-eq0 c).After-marks_of-marks) c.args.key c.marks_of-marks.result
    c.requires.1 c.marks_of-marks.ensures c.if-marks-eq0.true))

pub first_marked-requires : goal.first_marked-requires
first_marked-requires c = (c.requires.0, c.requires.1, omega (arith, c.if-marks-eq0.false), c.marks_of-marks.ensures)

pub returns-in-Some : goal.returns-in-Some
returns-in-Some c =
    let k = known (goal.at.returns-in-Some c).After-marks_of-marks in
    let l = c.first_marked.ensures c.in-Some.slot c.in-Some.is in
    l.rank ∙ ap (slot_else layout1.front_slots) (sym (found_some c.args.key (front_list layout1 c.args.b.now) k.order l.there))

pub seek_in-requires : goal.seek_in-requires
seek_in-requires c = record { sound = c.requires.0; mini = omega (arith, c.requires.1); low = omega arith }

-- what select found
found : (c : After-seek_in) → c.seek_in.result ≡ search_of (found_in c.args.key (front_list layout1 c.args.b.now))
found c = rw (div-add-mod' c.args.key (span_of layout1 false)) at c.seek_in.ensures

pub returns-in-None : goal.returns-in-None
returns-in-None c =
    ap (slot_else layout1.front_slots)
    (sym (search-none (found_in c.args.key (front_list layout1 c.args.b.now)) (found (goal.at.returns-in-None c).After-seek_in) c.in-None.is))

pub returns-in-Some-seek_in : goal.returns-in-Some-seek_in
returns-in-Some-seek_in c =
    ap (slot_else layout1.front_slots)
    (sym (search-some (found_in c.args.key (front_list layout1 c.args.b.now)) (found (goal.at.returns-in-Some-seek_in c).After-seek_in) c.in-Some-seek_in.is))
