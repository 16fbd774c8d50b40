-- `search::find::find_front` meets its contract: no slot was found, or the copies from it on are counted.
use Rattle.std.proofs.Common.{◌≡◌, ◌<◌, false, sym, ap, arith}
use native.Mathlib.Nat.{div-add-mod'}
use Rattle.multiset.specs.Multisets.{below, copies}
use Rattle.multiset.proofs.RankLaws.{found_some}
use Rattle.crumbmap.specs.Layouts.{layout1, tags}
use Rattle.buckets.specs.Buckets.{front_list}
use Rattle.buckets.proofs.ElementLaws.{below-bytes}
use Rattle.buckets.proofs.BucketLaws.{fits1}
use Rattle.minifilter.proofs.HeldLaws.{Held, held}
use Rattle.search.specs.Steps.Searches.{search_of}
use Rattle.search.proofs.FoundLaws.{slot-none, slot-some}
use Rattle.search.proofs.find.find_front.Goals.{After-slot_front-slot, Else-slot-eq-FRONT_SLOTS}
use Rattle.search.proofs.find.find_front.Goals as goal

-- the bucket that was read
known : (c : After-slot_front-slot) → Held layout1 false c.args.b.now (front_list layout1 c.args.b.now)
known c = held layout1 fits1 false c.args.b.now (below-bytes c.args.b.now c.shared_slice_known-1.given) c.requires.0

pub returns-then-slot-eq-FRONT_SLOTS : goal.returns-then-slot-eq-FRONT_SLOTS
returns-then-slot-eq-FRONT_SLOTS c =
    let h = known (goal.at.returns-then-slot-eq-FRONT_SLOTS c).After-slot_front-slot in
    ap search_of (sym (slot-none layout1.front_slots c.args.key (front_list layout1 c.args.b.now) h.order h.room c.slot_front-slot.ensures c.if-slot-eq-FRONT_SLOTS.true))

-- where a slot was found
there : (c : Else-slot-eq-FRONT_SLOTS) → let xs = front_list layout1 c.args.b.now in
    (c.slot_front-slot.result ≡ below c.args.key xs) × (0 < copies c.args.key xs)
there c =
    let h = known (goal.at.Else-slot-eq-FRONT_SLOTS c).After-slot_front-slot in
    slot-some layout1.front_slots c.args.key (front_list layout1 c.args.b.now) h.order h.room c.slot_front-slot.ensures c.if-slot-eq-FRONT_SLOTS.false

pub copies_front-requires : goal.copies_front-requires
copies_front-requires c =
    let t = there (goal.at.copies_front-requires c).Else-slot-eq-FRONT_SLOTS in
    let whole = div-add-mod' c.args.key (tags layout1) in
    record {
      rank = record { sound = c.requires.0; mini = omega (arith, c.requires.1); low = omega arith; rank = rw whole t.0 };
      there = rw whole t.1;
    }

pub returns : goal.returns
returns c =
    let t = there (goal.at.returns c).Else-slot-eq-FRONT_SLOTS in
    let h = known (goal.at.returns c).After-slot_front-slot in
    let many = rw (div-add-mod' c.args.key (tags layout1)) at c.copies_front.ensures in
    rw (many, t.0) (ap search_of (sym (found_some c.args.key (front_list layout1 c.args.b.now) h.order t.1)))
