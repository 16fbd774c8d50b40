-- `search::find::copies_marked` meets its contract: the next slot has no mark, and there is one copy; or the marks in a row are counted.
use Rattle.std.proofs.Common.{◌≡◌, ◌+◌, ◌*◌, ◌-◌, min, false, arith}
use lib.Dec.{lit≤}
use lib.Count.{count_trailing_zeros, trailing_le}
use Rattle.multiset.specs.Multisets.{copies}
use Rattle.crumbmap.specs.Layouts.{layout1, tags}
use Rattle.buckets.specs.Buckets.{front_list}
use Rattle.buckets.proofs.ElementLaws.{below-bytes}
use Rattle.buckets.proofs.BucketLaws.{fits1}
use Rattle.minifilter.proofs.HeldLaws.{Held, held}
use Rattle.search.proofs.TagLaws.{marked-small, marked-one, marked-run}
use Rattle.search.proofs.find.copies_marked.Goals.{After-shared_slice_known-1, After-past_of}
use Rattle.search.proofs.find.copies_marked.Goals as goal

-- the bucket that was read
known : (c : After-shared_slice_known-1) → Held layout1 false c.args.b.now (front_list layout1 c.args.b.now)
known c = held layout1 fits1 false c.args.b.now (below-bytes c.args.b.now c.shared_slice_known-1.given) c.requires.standing.rank.sound

pub returns-then-marks-eq0 : goal.returns-then-marks-eq0
returns-then-marks-eq0 c =
    let a = c.args in
    marked-one layout1 a.b.now (known (goal.at.returns-then-marks-eq0 c).After-shared_slice_known-1) a.slot a.mini a.tag a.marks c.requires c.if-marks-eq0.true

pub past_of-requires : goal.past_of-requires
past_of-requires c = c.requires.standing.rank

pub overflow_sub-rest : goal.overflow_sub-rest
overflow_sub-rest c = omega (arith, c.past_of.ensures.1)

-- the marks in a row, as far as the mini-bucket goes
in-row : (c : After-past_of) → let a = c.args in
    min (c.past_of.result - a.slot) (count_trailing_zeros 32 (a.marks + 1)) ≡ copies (a.mini * tags layout1 + a.tag) (front_list layout1 a.b.now)
in-row c =
    let a = c.args in
    omega (
      arith,
      c.past_of.ensures.0,
      marked-run layout1 a.b.now (known (goal.at.After-past_of c).After-shared_slice_known-1) a.slot a.mini a.tag a.marks c.requires 32 (lit≤ tt),
    )

pub overflow_add-run : goal.overflow_add-run
overflow_add-run c =
    let a = c.args in
    omega (arith, marked-small layout1 a.b.now (known (goal.at.overflow_add-run c).After-shared_slice_known-1) a.slot a.mini a.tag a.marks c.requires)

pub overflow_cast-run : goal.overflow_cast-run
overflow_cast-run c = omega (arith, trailing_le 32 (c.args.marks + 1))

pub returns-then-rest-run : goal.returns-then-rest-run
returns-then-rest-run c = omega (arith, in-row (goal.at.returns-then-rest-run c).After-past_of, c.if-rest-run.true)

pub returns-else-rest-run : goal.returns-else-rest-run
returns-else-rest-run c = omega (arith, in-row (goal.at.returns-else-rest-run c).After-past_of, c.if-rest-run.false)
