-- `minifilter::read::read_slots` meets its contract: two tests of the word refuse what the specification refuses, and the pass over the slots
-- decides the rest.
use Rattle.std.proofs.Common.{◌≡◌, ◌<◌, ◌^◌, None, length, sym, ◌∙◌, ap, arith}
use Rattle.crumbmap.specs.Layouts.{layout1}
use Rattle.minifilter.specs.Steps.Readings.{reading_of}
use Rattle.minifilter.specs.Steps.Slots.{slot_list, word_of, bits_of, minis_of}
use Rattle.buckets.proofs.ElementLaws.{below-bytes}
use Rattle.buckets.proofs.BucketLaws.{fits1}
use Rattle.minifilter.proofs.ReadLaws.{reading-unlike, reading-over, order_reading, reading-slots}
use Rattle.minifilter.proofs.PassLaws.{word1, small1, minis1}
use Rattle.minifilter.proofs.read.read_slots.Goals.{After-word_of-w, After-occupancy-members, After-ascends}
use Rattle.minifilter.proofs.read.read_slots.Goals as goal

-- the word is the bucket's
word-is : (c : After-word_of-w) → c.word_of-w.result ≡ word_of layout1 c.args.crumbs c.args.b.now
word-is c = c.word_of-w.ensures ∙ word1 c.args.crumbs c.args.b.now

small : (c : After-word_of-w) → c.word_of-w.result < 2 ^ bits_of layout1 c.args.crumbs
small c = small1 c.args.crumbs c.word_of-w.result (omega (arith, c.word_of-w.type_inv))

-- its members' mini-buckets, as `occupancy` counts them
many-are : (c : After-occupancy-members) → c.occupancy-members.result ≡ length (minis_of layout1 c.args.crumbs c.word_of-w.result)
many-are c = c.occupancy-members.ensures.0 ∙ ap length (sym (minis1 c.args.crumbs c.word_of-w.result))

pub returns-then-w-ne-MINIS : goal.returns-then-w-ne-MINIS
returns-then-w-ne-MINIS c =
    sym (reading-unlike layout1 fits1 c.args.b.now c.requires.0 c.args.sought c.word_of-w.result c.args.crumbs (word-is (goal.at.returns-then-w-ne-MINIS c).After-word_of-w)
    (λ e. omega (arith, e, c.if-w-ne-MINIS.true)))

pub returns-then-slots-members : goal.returns-then-slots-members
returns-then-slots-members c =
    let read = (goal.at.returns-then-slots-members c).After-word_of-w in
    sym (reading-over layout1 fits1 c.args.b.now c.requires.0 c.args.sought c.word_of-w.result c.args.crumbs (word-is read) (small read)
    c.if-w-ne-MINIS.false (omega (arith, many-are (goal.at.returns-then-slots-members c).After-occupancy-members, c.requires.1)))

-- the reading that the pass decides
decided : (c : After-ascends) → reading_of c.args.sought (slot_list layout1 c.args.crumbs c.args.b.now) ≡ order_reading c.occupancy-members.result c.ascends.result
decided c =
    let read = (goal.at.After-ascends c).After-word_of-w in
    let many = many-are (goal.at.After-ascends c).After-occupancy-members in
    rw (many, c.ascends.ensures)
    (reading-slots layout1 fits1 c.args.b.now c.requires.0 c.args.sought c.word_of-w.result c.args.crumbs (word-is read) (small read)
    c.if-w-ne-MINIS.false (omega (arith, many, c.requires.1)) (below-bytes c.args.b.now c.shared_slice_known-1.given) (omega (arith, c.requires.2)))

pub returns-in_err-below : goal.returns-in_err-below
returns-in_err-below c =
    let none : c.from_residual.result ≡ None = grind arith in
    none ∙ sym (decided (goal.at.returns-in_err-below c).After-ascends ∙ rw c.in_err-below.was)

pub returns : goal.returns
returns c = sym (decided (goal.at.returns c).After-ascends ∙ rw c.in_ok-below.was)
