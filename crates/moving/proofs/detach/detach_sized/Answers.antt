-- `moving::detach::detach_sized` meets its contract. A bad tail ends the move; else the body is checked against the total that the tail tells.
use Rattle.form.specs.Tails.{body}
use Rattle.form.specs.Calls.{checked_by}
use Rattle.tails.proofs.OpenLaws.{tail-good, whole_long}
use Rattle.moving.proofs.detach.detach_sized.Goals as goal

pub overflow_sub-end : goal.overflow_sub-end
overflow_sub-end c = whole_long c.args.image.now c.requires.0

pub detach_told-requires : goal.detach_told-requires
unfolding body
detach_told-requires c = c.requires

pub returns : goal.returns
unfolding body checked_by
returns c =
    let a = c.args in
    rw (tail-good a.size a.image.now c.tail_at.ensures c.in_ok-tail.ensures.ok_part) c.detach_told.ensures
