-- `minifilter::read::read_back` meets its contract: what `read_slots` leaves is byte 63 and the crumbs of the members.
use Rattle.std.proofs.Common.{◌≡◌, ◌&&◌, None, true, take, get_or, sym, ◌∙◌, eq-eqb, ne_eqb, arith}
use lib.Dec.{eqb}
use Rattle.crumbmap.specs.Layouts.{layout1}
use Rattle.buckets.specs.Buckets.{back_members, valid}
use Rattle.minifilter.specs.Steps.Readings.{reading_of}
use Rattle.minifilter.specs.Steps.Slots.{slot_crumbs}
use Rattle.multiset.proofs.MultisetLaws.{below-take}
use Rattle.buckets.proofs.BucketLaws.{fits1, below-crumbs_in}
use Rattle.minifilter.proofs.ReadLaws.{count_if}
use Rattle.minifilter.proofs.CrumbLaws.{back_reading, reading-room, reading-back, marked-valid, unused1}
use Rattle.minifilter.proofs.read.read_back.Goals.{After-read_slots, In_ok-reading, After-crumbs_marked}
use Rattle.minifilter.proofs.read.read_back.Goals as goal

-- what is to be said, by what `read_slots` said
by_slots : (c : After-read_slots) → reading_of c.args.member (back_members layout1 c.args.size c.args.bucket.0 c.args.b.now)
    ≡ back_reading layout1 c.args.size c.args.bucket.0 c.args.b.now c.read_slots.result
by_slots c = rw c.read_slots.ensures (reading-back layout1 fits1 c.args.member c.args.size c.args.bucket.0 c.args.b.now c.requires.long)

pub returns-in_err-reading : goal.returns-in_err-reading
returns-in_err-reading c =
    let none : c.from_residual.result ≡ None = grind arith in
    none ∙ sym (by_slots (goal.at.returns-in_err-reading c).After-read_slots ∙ rw c.in_err-reading.was)

-- where it gave a member count
by-rest : (c : In_ok-reading) → let r = c.in_ok-reading.reading in
    reading_of c.args.member (back_members layout1 c.args.size c.args.bucket.0 c.args.b.now)
    ≡ count_if (eqb (get_or c.args.b.now 63 0) 0 && valid c.args.size c.args.bucket.0 (take r.members (slot_crumbs layout1 true c.args.b.now))) r.members r.below
by-rest c =
    by_slots (goal.at.In_ok-reading c).After-read_slots
    ∙ rw (c.in_ok-reading.was, unused1 c.args.b.now c.requires.long (c.shared_slice_known-1.given 63).fits)

pub returns-then-b-ne0 : goal.returns-then-b-ne0
returns-then-b-ne0 c = sym (by-rest (goal.at.returns-then-b-ne0 c).In_ok-reading ∙ rw (ne_eqb (get_or c.args.b.now 63 0) 0 c.if-b-ne0.true))

-- at most as many as there are slots
pub crumbs_marked-requires : goal.crumbs_marked-requires
crumbs_marked-requires c =
    (c.requires.long, reading-room layout1 c.args.member c.args.b.now (sym c.read_slots.ensures ∙ c.in_ok-reading.was))

-- where byte 63 is 0
by-crumbs : (c : After-crumbs_marked) → let r = c.in_ok-reading.reading in
    reading_of c.args.member (back_members layout1 c.args.size c.args.bucket.0 c.args.b.now) ≡ count_if c.crumbs_marked.result r.members r.below
by-crumbs c =
    let cs = slot_crumbs layout1 true c.args.b.now in
    let n = c.in_ok-reading.reading.members in
    let v = c.valid_crumbs-marks in
    by-rest (goal.at.After-crumbs_marked c).In_ok-reading
    ∙ rw (
      eq-eqb (get_or c.args.b.now 63 0) 0 c.if-b-ne0.false,
      marked-valid c.args.size c.args.bucket.0 v.result v.ensures (take n cs) (below-take 16 n cs (below-crumbs_in layout1 c.args.b.now)),
      c.crumbs_marked.ensures,
    )

pub returns-then-crumbs_marked : goal.returns-then-crumbs_marked
returns-then-crumbs_marked c = sym (by-crumbs (goal.at.returns-then-crumbs_marked c).After-crumbs_marked ∙ rw c.if-crumbs_marked.true)

pub returns : goal.returns
returns c = sym (by-crumbs (goal.at.returns c).After-crumbs_marked ∙ rw c.if-crumbs_marked.false)
