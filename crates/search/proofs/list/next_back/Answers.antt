-- `search::list::next_back` meets its contract: the lowest zero stands over the member's mini-bucket, and the others are those from the next slot on.
use Rattle.std.proofs.Common.{◌≡◌, ℕ, ◌+◌, ◌*◌, ◌/◌, ◌^◌, ◌<◌, true, take, get_or, refl, ◌∙◌, add-one, arith}
use lib.Seq.{length-take-le}
use Rattle.multiset.specs.Digits.{value}
use Rattle.crumbmap.specs.Layouts.{layout1}
use Rattle.buckets.specs.Words.{minis_in}
use Rattle.buckets.specs.Buckets.{back_list}
use Rattle.words.specs.Steps.Wide.{word_bytes1}
use Rattle.minifilter.specs.Steps.Slots.{end_of, slot_minis}
use Rattle.search.specs.Steps.Searches.{without}
use Rattle.multiset.proofs.MultisetLaws.{below-take}
use Rattle.multiset.proofs.DigitLaws.{value-lt}
use Rattle.buckets.proofs.BucketLaws.{fits1}
use Rattle.buckets.proofs.ElementLaws.{below-bytes}
use Rattle.minifilter.proofs.HeldLaws.{Held, held, held-lt, held-member, held-many1, held-count1}
use Rattle.search.proofs.ListLaws.{Turn, turn1, key1, without-gaps}
use Rattle.search.proofs.list.next_back.Goals.{After-shared_slice_known-1, After-key_at, After-crumb_of}
use Rattle.search.proofs.list.next_back.Goals as goal

-- the bucket that was read, and its word
known : (c : After-shared_slice_known-1) → Held layout1 true c.args.b.now (back_list layout1 c.args.b.now)
known c = held layout1 fits1 true c.args.b.now (below-bytes c.args.b.now c.shared_slice_known-1.given) c.requires.0

abbrev word : After-shared_slice_known-1 → ℕ
word c = value 256 (take word_bytes1 c.args.b.now)

small : (c : After-shared_slice_known-1) → word c < 2 ^ 64
small c =
    let b = c.args.b.now in
    rw (length-take-le word_bytes1 b (omega (arith, c.requires.0.long)))
    at (value-lt 256 (take word_bytes1 b) (below-take 256 word_bytes1 b (below-bytes b c.shared_slice_known-1.given)))

-- the zeros from the slot on
turns : (c : After-shared_slice_known-1) → Turn 64 (minis_in 64 layout1.minis (word c)) (slot_minis layout1 true (word c)) c.args.at.slot c.args.at.zeros
turns c =
    let b = c.args.b.now in
    let at = c.args.at in
    let full = held-many1 b (back_list layout1 b) (word c) refl true (known c) in
    let many = held-count1 b (back_list layout1 b) (word c) refl true (known c) in
    turn1 true (word c) (small c) full at.slot at.zeros (omega (arith, c.requires.2, many))
    (c.requires.1.1 ∙ without-gaps true (word c) (small c) full at.slot (omega (arith, c.requires.2, many)))

within : (c : After-shared_slice_known-1) → c.args.at.slot < layout1.back_slots
within c = omega (arith, c.requires.2, (known c).room)

-- the member's key, and the member
key-is : (c : After-key_at) → c.key_at.result ≡ get_or (back_list layout1 c.args.b.now) c.args.at.slot 0 / 16
key-is c =
    let l = (goal.at.After-key_at c).After-shared_slice_known-1 in
    let b = c.args.b.now in
    c.key_at.ensures ∙ key1 true b (back_list layout1 b) (word l) c.args.at.slot c.args.at.zeros refl (known l) (turns l) c.requires.2

member-lt : (c : After-shared_slice_known-1) → get_or (back_list layout1 c.args.b.now) c.args.at.slot 0 < end_of layout1 true
member-lt c = held-lt layout1 true c.args.b.now (back_list layout1 c.args.b.now) (known c) c.args.at.slot c.requires.2

member_is : (c : After-crumb_of) → c.key_at.result * 16 + c.crumb_of.result ≡ get_or (back_list layout1 c.args.b.now) c.args.at.slot 0
member_is c =
    let g = goal.at.After-crumb_of c in
    let b = c.args.b.now in
    held-member layout1 b (back_list layout1 b) (known g.After-shared_slice_known-1) c.args.at.slot c.requires.2 c.key_at.result c.crumb_of.result
    (key-is g.After-key_at) c.crumb_of.ensures.0

pub key_at-requires : goal.key_at-requires
key_at-requires c =
    let l = (goal.at.key_at-requires c).After-shared_slice_known-1 in
    (c.requires.0.long, omega (arith, within l), omega (arith, (turns l).place))

pub overflow_mul-result : goal.overflow_mul-result
overflow_mul-result c =
    let g = goal.at.overflow_mul-result c in
    omega (arith, key-is g.After-key_at, member-lt g.After-shared_slice_known-1)

pub crumb_of-requires : goal.crumb_of-requires
crumb_of-requires c = (c.requires.0.long, within (goal.at.crumb_of-requires c).After-shared_slice_known-1)

pub overflow_add-result : goal.overflow_add-result
overflow_add-result c =
    let g = goal.at.overflow_add-result c in
    omega (arith, member_is g.After-crumb_of, member-lt g.After-shared_slice_known-1)

pub overflow_add-result-2 : goal.overflow_add-result-2
overflow_add-result-2 c = omega (arith, within (goal.at.overflow_add-result-2 c).After-shared_slice_known-1)

pub overflow_sub-result : goal.overflow_sub-result
overflow_sub-result c = (turns (goal.at.overflow_sub-result c).After-shared_slice_known-1).some

pub returns : goal.returns
unfolding without
returns c =
    let at = c.args.at in
    (member_is (goal.at.returns c).After-crumb_of, refl, (omega (arith, c.requires.2), rw (add-one at.slot) (rw c.requires.1.1)))
