-- `search::find::past_of` meets its contract: what is left of the word's mini-bucket is what is left of the members'.
use Rattle.std.proofs.Common.{◌≡◌, ℕ, suc, ◌+◌, ◌≤◌, List, ap, ◌∙◌, arith}
use Rattle.multiset.specs.Multisets.{below}
use Rattle.multiset.specs.Digits.{highs}
use Rattle.crumbmap.specs.Layouts.{layout1}
use Rattle.buckets.specs.Words.{minis_in}
use Rattle.minifilter.specs.Steps.Slots.{span_of, slots_of}
use Rattle.minifilter.specs.Steps.Readings.{members_of}
use Rattle.buckets.proofs.ElementLaws.{below-bytes}
use Rattle.buckets.proofs.BucketLaws.{fits1}
use Rattle.minifilter.proofs.HeldLaws.{sound-long, Held, held, held-past, held-minis1, held-many1}
use Rattle.minifilter.proofs.PassLaws.{slots1-le}
use Rattle.search.proofs.SearchLaws.{rank-from, rank-past}
use Rattle.search.proofs.find.past_of.Goals.{After-word_of, After-rest}
use Rattle.search.proofs.find.past_of.Goals as goal

-- the members, their mini-buckets, and the bucket that was read
abbrev members : After-word_of → List ℕ
members c = members_of layout1 c.args.crumbs c.args.b.now

abbrev minis : After-word_of → List ℕ
minis c = highs (span_of layout1 c.args.crumbs) (members c)

known : (c : After-word_of) → Held layout1 c.args.crumbs c.args.b.now (members c)
known c = held layout1 fits1 c.args.crumbs c.args.b.now (below-bytes c.args.b.now c.shared_slice_known-1.given) c.requires.sound

minis-are : (c : After-word_of) → minis_in 64 layout1.minis c.word_of.result ≡ minis c
minis-are c = held-minis1 c.args.b.now (members c) c.word_of.result c.word_of.ensures c.args.crumbs (known c)

past_is : (c : After-rest) → c.args.slot + c.rest.result ≡ below (suc c.args.mini) (minis (goal.at.After-rest c).After-word_of)
past_is c = c.rest.ensures ∙ ap (below (suc c.args.mini)) (minis-are (goal.at.After-rest c).After-word_of)

past-le : (c : After-rest) → below (suc c.args.mini) (minis (goal.at.After-rest c).After-word_of) ≤ slots_of layout1 c.args.crumbs
past-le c =
    let k = (goal.at.After-rest c).After-word_of in
    held-past layout1 c.args.crumbs c.args.b.now (members k) (known k) (suc c.args.mini)

pub word_of-requires : goal.word_of-requires
word_of-requires c = omega (arith, sound-long layout1 c.args.crumbs c.args.b.now c.requires.sound)

pub rest-requires : goal.rest-requires
rest-requires c =
    let a = c.args in
    let k = (goal.at.rest-requires c).After-word_of in
    record {
      full = held-many1 a.b.now (members k) c.word_of.result c.word_of.ensures a.crumbs (known k);
      within = c.requires.mini;
      from = rw (minis-are k) (omega (arith, c.requires.rank, rank-from layout1 a.crumbs (members k) a.mini a.low c.requires.low));
      past = rw (minis-are k) (omega (arith, c.requires.rank, rank-past layout1 a.crumbs (members k) a.mini a.low c.requires.low));
    }

pub overflow_add-result : goal.overflow_add-result
overflow_add-result c =
    let r = (goal.at.overflow_add-result c).After-rest in
    omega (arith, past_is r, past-le r, slots1-le c.args.crumbs)

pub returns : goal.returns
returns c = let r = (goal.at.returns c).After-rest in (past_is r, omega arith, omega (arith, past_is r, past-le r))
