-- `search::find::first_marked` meets its contract: the first slot that has the tag is the key's lowest, if it is one of its mini-bucket (`marks-lowest`).
use Rattle.std.proofs.Common.{◌≡◌, ◌+◌, ◌-◌, ◌<◌, false, sym, ◌∙◌, arith}
use lib.Count.{count_trailing_zeros}
use Rattle.crumbmap.specs.Layouts.{layout1}
use Rattle.buckets.specs.Buckets.{front_list}
use Rattle.buckets.proofs.ElementLaws.{below-bytes}
use Rattle.buckets.proofs.BucketLaws.{fits1}
use Rattle.minifilter.proofs.HeldLaws.{Held, held}
use Rattle.search.proofs.TagLaws.{first, marks-lowest}
use Rattle.search.proofs.find.first_marked.Goals.{After-shared_slice_known-1}
use Rattle.search.proofs.find.first_marked.Goals as goal

-- the bucket that was read
known : (c : After-shared_slice_known-1) → Held layout1 false c.args.b.now (front_list layout1 c.args.b.now)
known c = held layout1 fits1 false c.args.b.now (below-bytes c.args.b.now c.shared_slice_known-1.given) c.requires.0

-- the place of the first mark
near : (c : After-shared_slice_known-1) → let place = count_trailing_zeros 32 c.args.marks in (0 < place) × (place - 1 < layout1.front_slots)
near c =
    let f = first c.args.b.now (front_list layout1 c.args.b.now) (known c) c.args.key c.args.marks c.requires.1 c.requires.3 c.requires.2 in
    (f.0, f.1)

pub overflow_sub-slot : goal.overflow_sub-slot
overflow_sub-slot c = (near (goal.at.overflow_sub-slot c).After-shared_slice_known-1).0

pub overflow_cast-slot : goal.overflow_cast-slot
overflow_cast-slot c = omega (arith, (near (goal.at.overflow_cast-slot c).After-shared_slice_known-1).1)

pub word_of-requires : goal.word_of-requires
word_of-requires c = omega (arith, c.requires.0.long)

pub is_slot_of-requires : goal.is_slot_of-requires
is_slot_of-requires c = omega (arith, c.requires.1, (near (goal.at.is_slot_of-requires c).After-shared_slice_known-1).1)

pub returns-then-is_slot_of : goal.returns-then-is_slot_of
returns-then-is_slot_of c slot e =
    let k = (goal.at.returns-then-is_slot_of c).After-shared_slice_known-1 in
    let b = c.args.b.now in
    let xs = front_list layout1 b in
    let f = first b xs (known k) c.args.key c.args.marks c.requires.1 c.requires.3 c.requires.2 in
    let l = marks-lowest b xs (known k) c.args.key c.args.marks c.requires.1 c.requires.3 c.requires.2
    c.word_of.result c.word_of.ensures (omega (arith, c.word_of.type_inv)) c.is_slot_of.ensures c.if-is_slot_of.true in
    let same : count_trailing_zeros 32 c.args.marks - 1 ≡ slot = cc in
    let place : count_trailing_zeros 32 c.args.marks ≡ slot + 1 = omega (arith, f.0, same) in
    record { rank = sym same ∙ l.0; there = l.1; rest = rw (same, place) at f.4 }
