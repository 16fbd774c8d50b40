-- `search::list::list_in` meets its contract: a turn takes the word's next zero, and lists the slot's key where it is asked for (`listed-yes`, `listed-no`).
use Rattle.std.proofs.Common.{◌≡◌, ℕ, ◌+◌, ◌^◌, ◌≤◌, ◌<◌, List, length, take, get_or, ◌∙◌, arith}
use lib.Count.{ones}
use lib.Seq.{take_all}
use Rattle.crumbmap.specs.Layouts.{layout1}
use Rattle.buckets.specs.Words.{minis_in}
use Rattle.minifilter.specs.Steps.Slots.{slots_of, slot_minis}
use Rattle.minifilter.specs.Steps.Readings.{members_of}
use Rattle.buckets.proofs.BucketLaws.{fits1}
use Rattle.buckets.proofs.ElementLaws.{below-bytes}
use Rattle.minifilter.proofs.PassLaws.{gaps1}
use Rattle.minifilter.proofs.HeldLaws.{Held, sound-long, held, member_key, held-many1, held-count1}
use Rattle.search.proofs.ListLaws.{Turn, turn1, key1, Listed, listed_start, listed-yes, listed-no}
use Rattle.search.proofs.list.list_in.Goals.{After-word_of-word, After-occupancy-members, In-loop-slot, After-key_at-key, then-wanted, else-wanted}
use Rattle.search.proofs.list.list_in.Goals as goal

-- the bucket that was read, and its word
abbrev members : After-word_of-word → List ℕ
members c = members_of layout1 c.args.crumbs c.args.b.now

known : (c : After-word_of-word) → Held layout1 c.args.crumbs c.args.b.now (members c)
known c = held layout1 fits1 c.args.crumbs c.args.b.now (below-bytes c.args.b.now c.shared_slice_known-1.given) c.requires.0

many_is : (c : After-word_of-word) → ones c.word_of-word.result ≡ layout1.minis
many_is c = held-many1 c.args.b.now (members c) c.word_of-word.result c.word_of-word.ensures c.args.crumbs (known c)

small : (c : After-word_of-word) → c.word_of-word.result < 2 ^ 64
small c = omega (arith, c.word_of-word.type_inv)

members-are : (c : After-occupancy-members) → c.occupancy-members.result ≡ length (members (goal.at.After-occupancy-members c).After-word_of-word)
members-are c =
    let k = (goal.at.After-occupancy-members c).After-word_of-word in
    c.occupancy-members.ensures.0 ∙ held-count1 c.args.b.now (members k) c.word_of-word.result c.word_of-word.ensures c.args.crumbs (known k)

pub word_of-word-requires : goal.word_of-word-requires
word_of-word-requires c = omega (arith, sound-long layout1 c.args.crumbs c.args.b.now c.requires.0)

pub occupancy-members-requires : goal.occupancy-members-requires
occupancy-members-requires c = many_is (goal.at.occupancy-members-requires c).After-word_of-word

pub loop-slot-init : goal.loop-slot-init
loop-slot-init c =
    let k = (goal.at.loop-slot-init c).After-word_of-word in
    (omega arith, omega (arith, gaps1 c.word_of-word.result (small k) (many_is k) c.args.crumbs), listed_start c.args.crumbs c.args.crumb (members k) c.args.out.now)

-- in a turn
used : (c : In-loop-slot) → c.loop-slot.slot < length (members (goal.at.In-loop-slot c).After-word_of-word)
used c = omega (arith, members-are (goal.at.In-loop-slot c).After-occupancy-members)

within : (c : In-loop-slot) → c.loop-slot.slot < slots_of layout1 c.args.crumbs
within c = omega (arith, used c, (known (goal.at.In-loop-slot c).After-word_of-word).room)

turns : (c : In-loop-slot) → let w = c.word_of-word.result in
    Turn 64 (minis_in 64 layout1.minis w) (slot_minis layout1 c.args.crumbs w) c.loop-slot.slot c.loop-slot.zeros
turns c =
    let k = (goal.at.In-loop-slot c).After-word_of-word in
    turn1 c.args.crumbs c.word_of-word.result (small k) (many_is k) c.loop-slot.slot c.loop-slot.zeros (omega (arith, c.occupancy-members.ensures.0)) c.loop-slot.invariant.1

key-is : (c : After-key_at-key) → let ys = members (goal.at.After-key_at-key c).After-word_of-word in
    c.key_at-key.result ≡ member_key c.args.crumbs (get_or ys c.loop-slot.slot 0)
key-is c =
    let g = goal.at.After-key_at-key c in
    let k = g.After-word_of-word in
    c.key_at-key.ensures
    ∙ key1 c.args.crumbs c.args.b.now (members k) c.word_of-word.result c.loop-slot.slot c.loop-slot.zeros c.word_of-word.ensures (known k)
    (turns g.In-loop-slot) (used g.In-loop-slot)

pub key_at-key-requires : goal.key_at-key-requires
key_at-key-requires c =
    let t = turns (goal.at.key_at-key-requires c).In-loop-slot in
    (sound-long layout1 c.args.crumbs c.args.b.now c.requires.0, omega (arith, c.occupancy-members.ensures.1), omega (arith, t.place))

pub wanted-requires : goal.wanted-requires
wanted-requires c = (sound-long layout1 c.args.crumbs c.args.b.now c.requires.0, within (goal.at.wanted-requires c).In-loop-slot)

pub bounds-out-n : goal.bounds-out-n
bounds-out-n c = omega (arith, within (goal.at.bounds-out-n c).In-loop-slot, c.requires.1)

pub overflow_sub-zeros : goal.overflow_sub-zeros
overflow_sub-zeros c = (turns (goal.at.overflow_sub-zeros c).In-loop-slot).some

-- one key more, or none
pub loop-slot-preserved : goal.loop-slot-preserved
loop-slot-preserved c =
    let g = goal.at.loop-slot-preserved c in
    let k = g.After-word_of-word in
    let a = c.args in
    let l = c.loop-slot in
    let u = used g.In-loop-slot in
    let listed : (c.if-wanted.n ≤ l.slot + 1) × Listed a.crumbs a.crumb (l.slot + 1) c.if-wanted.n (members k) c.if-wanted.out a.out.now =
    elim c.if-wanted.branch [
      | then-wanted w ↦
          rw (w.out-is, w.n-is) (
            omega arith,
            listed-yes layout1 a.crumbs a.crumb a.b.now (members k) (known k) l.slot l.n l.out a.out.now u l.invariant.2
                c.wanted.result c.wanted.ensures w.if-wanted.true c.key_at-key.result (key-is g.After-key_at-key)
                (omega (arith, within g.In-loop-slot, c.requires.1)),
          )
      | else-wanted w ↦
          rw (w.out-is, w.n-is) (
            omega arith,
            listed-no layout1 a.crumbs a.crumb a.b.now (members k) (known k) l.slot l.n l.out a.out.now u l.invariant.2
                c.wanted.result c.wanted.ensures w.if-wanted.false,
          )
    ] in
    (listed.0, (turns g.In-loop-slot).next, listed.1)

pub returns : goal.returns
returns c =
    let g = goal.at.returns c in
    let ys = members g.After-word_of-word in
    let all : take c.loop-slot.slot ys ≡ ys = take_all c.loop-slot.slot ys (omega (arith, members-are g.After-occupancy-members)) in
    (rw all at c.loop-slot.invariant.2.many, rw all at c.loop-slot.invariant.2.keys)
