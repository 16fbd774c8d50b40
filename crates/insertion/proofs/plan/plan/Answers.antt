-- `insertion::plan::plan` meets its contract. The front bucket is unsound, has a free slot, or is full.
use Rattle.std.proofs.lemmas.Result.{err_from_is_err_and}
use Rattle.machine.specs.Machine.{insert_at}
use Rattle.image.proofs.ImageReadLaws.{front-in}
use Rattle.insertion.proofs.plan.plan.Goals as goal

pub read_front_at-requires : goal.read_front_at-requires
read_front_at-requires c = let p = c.requires in (front-in p.within, p.key)

pub returns-in_err-reading : goal.returns-in_err-reading
unfolding insert_at
returns-in_err-reading c =
    let p = err_from_is_err_and c.from_residual.result c.from_residual.ensures.1 in
    rw (p.1, p.2) (rw c.in_err-reading.ensures)
