-- `deletion::delete::refill_from` meets its contract. The front bucket's change keeps the backyard bucket (`stands-kept`), from which the member then
-- leaves.
use Rattle.buckets.proofs.BucketLaws.{fits1}
use Rattle.deletion.proofs.DeleteSteps.{stands-kept, refilled-put}
use Rattle.deletion.proofs.delete.refill_from.Goals as goal

pub take_out-requires : goal.take_out-requires
take_out-requires c = stands-kept fits1 c.requires c.swap_front_at.ensures

pub returns : goal.returns
returns c =
    let e = c.take_out.ensures in
    (e.0, refilled-put fits1 c.requires c.swap_front_at.ensures e.1)
