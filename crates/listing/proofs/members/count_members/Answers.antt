-- `listing::members::count_members` meets its contract. What was read says how many: Front(f) alone, or with First(f) and Second(f).
use mathlib.Core.Path.{◌∙◌, ap}
use native.Mathlib.Omega.{arith}
use lib.ListN.{length}
use Rattle.std.proofs.lemmas.Result.{err_from_is_err_and}
use Rattle.crumbmap.specs.Layouts.{layout1}
use Rattle.machine.specs.Machine.{members_at}
use Rattle.image.proofs.ImageReadLaws.{front-in, both_read}
use Rattle.listing.proofs.ListingLaws.{bag-is, counting-few, counting-full, counting-unsound}
use Rattle.listing.proofs.members.count_members.Goals as goal

pub sound_front_at-requires : goal.sound_front_at-requires
sound_front_at-requires c = front-in c.requires

pub returns-in_err-reading : goal.returns-in_err-reading
unfolding members_at
returns-in_err-reading c =
    let p = err_from_is_err_and c.from_residual.result c.from_residual.ensures.1 in
    let q = c.in_err-reading.ensures in
    rw (p.1, p.2, q)

pub returns-then-reading-lt-FRONT_SLOTS : goal.returns-then-reading-lt-FRONT_SLOTS
returns-then-reading-lt-FRONT_SLOTS c =
    let r = c.in_ok-reading.ensures in
    let m = counting-few r.0 c.requires (omega (arith, r.1)) in
    (m.0, m.1 ∙ r.1)

pub returns-in_err-a : goal.returns-in_err-a
returns-in_err-a c =
    let p = err_from_is_err_and c.from_residual-in_err-a.result c.from_residual-in_err-a.ensures.1 in
    let r = c.in_ok-reading.ensures in
    rw (p.1, p.2) (counting-unsound r.0 c.args.size (omega (arith, r.1)) c.in_err-a.ensures)

pub returns : goal.returns
returns c =
    let r = c.in_ok-reading.ensures in
    let b = c.in_ok-a.ensures in
    let m = counting-full r.0 c.requires (omega (arith, r.1)) (both_read b.0 b.1) in (
      m.0,
      omega (
        arith,
        m.1,
        r.1,
        c.count_bag-first.ensures.0 ∙ ap length (bag-is b.0.leads layout1 c.args.image.now),
        c.count_bag-second.ensures.0 ∙ ap length (bag-is b.1.leads layout1 c.args.image.now),
      ),
    )
