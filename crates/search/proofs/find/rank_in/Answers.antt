-- `search::find::rank_in` meets its contract: the bounds of the mini-bucket are those of its members, and a scan finds the slot.
use Rattle.std.proofs.Common.{◌≡◌, ℕ, suc, Bool, List, ap, ◌∙◌, arith}
use Rattle.multiset.specs.Multisets.{below}
use Rattle.multiset.specs.Digits.{highs}
use Rattle.crumbmap.specs.Layouts.{layout1}
use Rattle.buckets.specs.Words.{minis_in}
use Rattle.minifilter.specs.Steps.Readings.{members_of}
use Rattle.minifilter.specs.Steps.Slots.{span_of}
use Rattle.search.specs.Steps.Searches.{Scanned}
use Rattle.multiset.proofs.RankLaws.{below_suc}
use Rattle.buckets.proofs.ElementLaws.{below-bytes}
use Rattle.buckets.proofs.BucketLaws.{fits1}
use Rattle.minifilter.proofs.HeldLaws.{sound-long, held-many1, held-past, Held, held, held-minis1}
use Rattle.search.proofs.SearchLaws.{rank-scanned}
use Rattle.search.proofs.find.rank_in.Goals.{After-word_of, After-bounds-slots}
use Rattle.search.proofs.find.rank_in.Goals as goal

-- the members, those of all mini-buckets, and the bucket that was read
abbrev members : After-word_of → List ℕ
members c = members_of layout1 c.args.crumbs c.args.b.now

abbrev minis : After-word_of → List ℕ
minis c = highs (span_of layout1 c.args.crumbs) (members c)

known : (c : After-word_of) → Held layout1 c.args.crumbs c.args.b.now (members c)
known c = held layout1 fits1 c.args.crumbs c.args.b.now (below-bytes c.args.b.now c.shared_slice_known-1.given) c.requires.0.sound

minis-are : (c : After-word_of) → minis_in 64 layout1.minis c.word_of.result ≡ minis c
minis-are c = held-minis1 c.args.b.now (members c) c.word_of.result c.word_of.ensures c.args.crumbs (known c)

from_is : (c : After-bounds-slots) → c.bounds-slots.result.from ≡ below c.args.mini (minis (goal.at.After-bounds-slots c).After-word_of)
from_is c = c.bounds-slots.ensures.0 ∙ ap (below c.args.mini) (minis-are (goal.at.After-bounds-slots c).After-word_of)

past_is : (c : After-bounds-slots) → c.bounds-slots.result.past ≡ below (suc c.args.mini) (minis (goal.at.After-bounds-slots c).After-word_of)
past_is c = c.bounds-slots.ensures.1 ∙ ap (below (suc c.args.mini)) (minis-are (goal.at.After-bounds-slots c).After-word_of)

-- a scan between the same bounds
scanned : {crumbs : Bool} {b : List ℕ} {from from' past past' low r : ℕ} → from ≡ from' → past ≡ past' → Scanned layout1 crumbs b from past low r
    → Scanned layout1 crumbs b from' past' low r
scanned e h s = rw (e, h) at s

pub word_of-requires : goal.word_of-requires
word_of-requires c = omega (arith, sound-long layout1 c.args.crumbs c.args.b.now c.requires.0.sound)

pub bounds-slots-requires : goal.bounds-slots-requires
bounds-slots-requires c =
    let k = (goal.at.bounds-slots-requires c).After-word_of in
    record {
      full = held-many1 c.args.b.now (members k) c.word_of.result c.word_of.ensures c.args.crumbs (known k);
      within = c.requires.0.mini;
      place = rw c.word_of.ensures c.requires.1;
    }

pub scan-requires : goal.scan-requires
scan-requires c =
    let a = c.args in
    let g = goal.at.scan-requires c in
    let k = g.After-word_of in (
      sound-long layout1 a.crumbs a.b.now c.requires.0.sound,
      omega (arith, from_is g.After-bounds-slots, past_is g.After-bounds-slots, below_suc a.mini (minis k)),
      omega (arith, past_is g.After-bounds-slots, held-past layout1 a.crumbs a.b.now (members k) (known k) (suc a.mini)),
    )

pub returns : goal.returns
returns c =
    let a = c.args in
    let g = goal.at.returns c in
    rank-scanned layout1 a.crumbs a.b.now (members g.After-word_of) (known g.After-word_of) a.mini a.low c.scan.result c.requires.0.low
    (scanned (from_is g.After-bounds-slots) (past_is g.After-bounds-slots) c.scan.ensures)
