-- `moving::attach::attach` meets its contract. The move goes on at the size that both share, or is refused for their lengths.
use Prim.Native.Nat.{◌-◌}
use lib.ListN.{length}
use Rattle.machine.specs.Images.{size_of}
use Rattle.form.specs.Tails.{body}
use Rattle.form.specs.Moves.{attach_of}
use Rattle.form.proofs.TailLaws.{length-body}
use Rattle.image.specs.Steps.ImageReads.{Whole}
use Rattle.image.proofs.ImageReadLaws.{whole_of}
use Rattle.tails.proofs.OpenLaws.{form-whole}
use Rattle.moving.specs.Steps.Moves.{attach_at}
use Rattle.moving.proofs.MoveSteps.{sizes-refused, sizes-shared, moved_on, move-refused}
use Rattle.moving.proofs.attach.attach.Goals.{In_ok-size}
use Rattle.moving.proofs.attach.attach.Goals as goal

-- the size of both
sizes : (c : In_ok-size) → let a = c.args in Whole c.in_ok-size.size a.old.now × Whole c.in_ok-size.size (body a.target.now)
sizes c =
    let a = c.args in
    let s = sizes-shared (size_of (length a.old.now)) (size_of (length a.target.now - 64))
    (rw (c.size_of.ensures, c.form_size.ensures) at c.in_ok-size.ensures) in
    (whole_of a.old.now s.0, form-whole a.target.now s.1)

pub attach_sized-requires : goal.attach_sized-requires
attach_sized-requires c = sizes (goal.at.attach_sized-requires c).In_ok-size

pub returns-in_err-size : goal.returns-in_err-size
unfolding attach_of
returns-in_err-size c =
    let a = c.args in
    rw (length-body a.target.now)
    (move-refused _ a.target.now c.from_residual.result c.in_err-size.field-0.0 c.from_residual.ensures
    (sizes-refused (size_of (length a.old.now)) (size_of (length a.target.now - 64)) (λ B. attach_at B a.old.now)
    (rw (c.size_of.ensures, c.form_size.ensures) at c.in_err-size.ensures)))

pub returns : goal.returns
unfolding attach_of
returns c =
    let a = c.args in
    let s = sizes (goal.at.returns c).In_ok-size in
    rw (moved_on a.old.now (body a.target.now) (λ B. attach_at B a.old.now) s.0 s.1) c.attach_sized.ensures
