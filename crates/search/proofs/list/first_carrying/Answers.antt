-- `search::list::first_carrying` meets its contract: the first slot that holds the crumb holds the lowest key that carries it, and the members before it
-- are below it.
use Rattle.std.proofs.Common.{◌≡◌, ℕ, ◌/◌, ◌^◌, ◌<◌, true, List, length, get_or, sym, ap, ◌∙◌, below_more, arith}
use lib.Count.{ones}
use Rattle.crumbmap.specs.Layouts.{layout1}
use Rattle.buckets.specs.Words.{minis_in}
use Rattle.buckets.specs.Buckets.{back_list}
use Rattle.search.specs.Steps.Searches.{first_of}
use Rattle.minifilter.specs.Steps.Slots.{slot_minis}
use Rattle.buckets.proofs.BucketLaws.{fits1}
use Rattle.buckets.proofs.ElementLaws.{below-bytes}
use Rattle.minifilter.proofs.PassLaws.{gaps1}
use Rattle.minifilter.proofs.HeldLaws.{Held, held, held-crumb, held-many1, held-count1}
use Rattle.search.proofs.ListLaws.{Turn, turn1, key1, carrying-none, carrying-first}
use Rattle.search.proofs.list.first_carrying.Goals.{After-word_of-word, After-occupancy-members, In-loop-slot}
use Rattle.search.proofs.list.first_carrying.Goals as goal

-- the bucket that was read, and its word
abbrev members : After-word_of-word → List ℕ
members c = back_list layout1 c.args.b.now

known : (c : After-word_of-word) → Held layout1 true c.args.b.now (members c)
known c = held layout1 fits1 true c.args.b.now (below-bytes c.args.b.now c.shared_slice_known-1.given) c.requires.0

many_is : (c : After-word_of-word) → ones c.word_of-word.result ≡ layout1.minis
many_is c = held-many1 c.args.b.now (members c) c.word_of-word.result c.word_of-word.ensures true (known c)

small : (c : After-word_of-word) → c.word_of-word.result < 2 ^ 64
small c = omega (arith, c.word_of-word.type_inv)

members-are : (c : After-occupancy-members) → c.occupancy-members.result ≡ length (members (goal.at.After-occupancy-members c).After-word_of-word)
members-are c =
    let k = (goal.at.After-occupancy-members c).After-word_of-word in
    c.occupancy-members.ensures.0 ∙ held-count1 c.args.b.now (members k) c.word_of-word.result c.word_of-word.ensures true (known k)

pub word_of-word-requires : goal.word_of-word-requires
word_of-word-requires c = omega (arith, c.requires.0.long)

pub occupancy-members-requires : goal.occupancy-members-requires
occupancy-members-requires c = many_is (goal.at.occupancy-members-requires c).After-word_of-word

pub loop-slot-init : goal.loop-slot-init
loop-slot-init c =
    let k = (goal.at.loop-slot-init c).After-word_of-word in
    (omega (arith, gaps1 c.word_of-word.result (small k) (many_is k) true), λ i h e. omega arith)

-- in a turn
used : (c : In-loop-slot) → c.loop-slot.slot < length (members (goal.at.In-loop-slot c).After-word_of-word)
used c = omega (arith, members-are (goal.at.In-loop-slot c).After-occupancy-members)

turns : (c : In-loop-slot) → let w = c.word_of-word.result in Turn 64 (minis_in 64 layout1.minis w) (slot_minis layout1 true w) c.loop-slot.slot c.loop-slot.zeros
turns c =
    let k = (goal.at.In-loop-slot c).After-word_of-word in
    turn1 true c.word_of-word.result (small k) (many_is k) c.loop-slot.slot c.loop-slot.zeros (omega (arith, c.occupancy-members.ensures.0)) c.loop-slot.invariant.0

pub crumb_of-here-requires : goal.crumb_of-here-requires
crumb_of-here-requires c =
    let g = goal.at.crumb_of-here-requires c in
    (c.requires.0.long, omega (arith, used g.In-loop-slot, (known g.After-word_of-word).room))

pub key_at-requires : goal.key_at-requires
key_at-requires c =
    let g = goal.at.key_at-requires c in
    (c.requires.0.long, omega (arith, used g.In-loop-slot, (known g.After-word_of-word).room), omega (arith, (turns g.In-loop-slot).place))

pub returns-then-here-crumb : goal.returns-then-here-crumb
returns-then-here-crumb c =
    let g = goal.at.returns-then-here-crumb c in
    let t = g.In-loop-slot in
    let b = c.args.b.now in
    let ys = members g.After-word_of-word in
    let h = known g.After-word_of-word in
    let i = c.loop-slot.slot in
    let key : c.key_at.result ≡ get_or ys i 0 / 16 =
    c.key_at.ensures ∙ key1 true b ys c.word_of-word.result i c.loop-slot.zeros c.word_of-word.ensures h (turns t) (used t) in
    rw key
    (sym (carrying-first c.args.crumb i ys h.order (used t) (λ j k e. c.loop-slot.invariant.1 j k (held-crumb layout1 b ys h j (omega (arith, used t)) ∙ e))
    (sym (held-crumb layout1 b ys h i (used t)) ∙ sym c.crumb_of-here.ensures.0 ∙ c.if-here-crumb.true)))

pub overflow_sub-zeros : goal.overflow_sub-zeros
overflow_sub-zeros c = (turns (goal.at.overflow_sub-zeros c).In-loop-slot).some

pub loop-slot-preserved : goal.loop-slot-preserved
loop-slot-preserved c =
    ((turns (goal.at.loop-slot-preserved c).In-loop-slot).next, below_more _ _ c.loop-slot.invariant.1 (λ e. c.if-here-crumb.false (c.crumb_of-here.ensures.0 ∙ e)))

pub returns : goal.returns
returns c =
    let g = goal.at.returns c in
    let ys = members g.After-word_of-word in
    sym (ap (first_of c.args.crumb ys) (carrying-none c.args.crumb ys (λ i k e.
    c.loop-slot.invariant.1 i (omega (arith, members-are g.After-occupancy-members)) (held-crumb layout1 c.args.b.now ys (known g.After-word_of-word) i k ∙ e))))
