-- `search::find::copies_front` meets its contract: a scan of what is left of the mini-bucket finds the end of the copies (`run-copies`), or there is
-- one (`lone-copy`).
use Rattle.std.proofs.Common.{false, ◌∙◌, arith}
use Rattle.crumbmap.specs.Layouts.{layout1}
use Rattle.buckets.specs.Buckets.{front_list}
use Rattle.buckets.proofs.ElementLaws.{below-bytes}
use Rattle.buckets.proofs.BucketLaws.{fits1}
use Rattle.minifilter.proofs.HeldLaws.{Held, held}
use Rattle.search.proofs.TagLaws.{in-mini, run-copies, lone-copy}
use Rattle.search.proofs.find.copies_front.Goals.{After-shared_slice_known-1}
use Rattle.search.proofs.find.copies_front.Goals as goal

-- the bucket that was read
known : (c : After-shared_slice_known-1) → Held layout1 false c.args.b.now (front_list layout1 c.args.b.now)
known c = held layout1 fits1 false c.args.b.now (below-bytes c.args.b.now c.shared_slice_known-1.given) c.requires.rank.sound

-- the slot is one of the mini-bucket's
pub scan-requires : goal.scan-requires
scan-requires c =
    let a = c.args in
    let r = c.requires.rank in
    let k = known (goal.at.scan-requires c).After-shared_slice_known-1 in (
      r.sound.long,
      omega (arith, c.past_of-past.ensures.0, in-mini layout1 a.b.now (front_list layout1 a.b.now) k a.mini a.tag a.slot r.low r.rank c.requires.there),
      c.past_of-past.ensures.2,
    )

pub returns-then-tag_of-tag : goal.returns-then-tag_of-tag
returns-then-tag_of-tag c =
    let a = c.args in
    let r = c.requires.rank in
    let k = known (goal.at.returns-then-tag_of-tag c).After-shared_slice_known-1 in
    run-copies layout1 a.b.now (front_list layout1 a.b.now) k a.mini a.tag a.slot r.low r.rank c.requires.there
    c.scan.result (rw c.past_of-past.ensures.0 at c.scan.ensures)

pub returns-else-tag_of-tag : goal.returns-else-tag_of-tag
returns-else-tag_of-tag c =
    let a = c.args in
    let r = c.requires.rank in
    let k = known (goal.at.returns-else-tag_of-tag c).After-shared_slice_known-1 in
    lone-copy layout1 a.b.now (front_list layout1 a.b.now) k a.mini a.tag a.slot r.low r.rank c.requires.there
    (λ l e. c.if-tag_of-tag.false (c.tag_of.ensures.0 ∙ e))

pub returns-else-slot-lt-LAST : goal.returns-else-slot-lt-LAST
returns-else-slot-lt-LAST c =
    let a = c.args in
    let r = c.requires.rank in
    let k = known (goal.at.returns-else-slot-lt-LAST c).After-shared_slice_known-1 in
    lone-copy layout1 a.b.now (front_list layout1 a.b.now) k a.mini a.tag a.slot r.low r.rank c.requires.there (λ l e. omega (arith, c.if-slot-lt-LAST.false))
