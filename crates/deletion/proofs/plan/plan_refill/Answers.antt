-- `deletion::plan::plan_refill` meets its contract. The smallest member behind, if any, takes the room of the copy that leaves.
use Rattle.std.proofs.lemmas.Result.{err_from_is_err_and}
use Rattle.image.proofs.ImageReadLaws.{at_copies, both_read}
use Rattle.deletion.proofs.LeavingLaws.{least-member, least-nothing}
use Rattle.deletion.proofs.DeleteSteps.{refill-unsound, refill-nothing, refill-least}
use Rattle.deletion.proofs.plan.plan_refill.Goals as goal

pub rank_without-requires : goal.rank_without-requires
rank_without-requires c =
    let b = c.in_ok-a.ensures in
    let p = c.requires in
    (p.whole, at_copies p.whole.read.list.order p.here, (least-member b.0 b.1 c.least.ensures c.in-Some.is).0.stands.key)

pub returns-in_err-a : goal.returns-in_err-a
returns-in_err-a c =
    let w = c.requires.whole in
    let p = err_from_is_err_and c.from_residual.result c.from_residual.ensures.1 in
    rw (p.1, p.2) (refill-unsound c.args.target c.args.image.now w (at_copies w.read.list.order c.requires.here) c.in_err-a.ensures)

pub returns-in-None : goal.returns-in-None
returns-in-None c =
    let b = c.in_ok-a.ensures in
    let w = c.requires.whole in
    record {
      read = w.read;
      here = c.requires.here;
      delete = refill-nothing c.args.target c.args.image.now w (at_copies w.read.list.order c.requires.here) (both_read b.0 b.1)
          (least-nothing b.0 b.1 c.least.ensures c.in-None.is);
    }

pub returns-in-Some : goal.returns-in-Some
returns-in-Some c =
    let b = c.in_ok-a.ensures in
    let w = c.requires.whole in
    let v = least-member b.0 b.1 c.least.ensures c.in-Some.is in
    record {
      placed = c.requires.placed;
      swap = record { read = w.read; stands = c.requires.here; key = v.0.stands.key; rank = c.rank_without.ensures };
      stands = v.0.stands;
      delete = refill-least c.args.target c.args.image.now w (at_copies w.read.list.order c.requires.here) (both_read b.0 b.1) v.1.1 v.0;
    }
