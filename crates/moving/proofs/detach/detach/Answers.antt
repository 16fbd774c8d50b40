-- `moving::detach::detach` meets its contract. The move goes on at the size that both share, or is refused for their lengths.
use Prim.Native.Nat.{◌-◌}
use lib.ListN.{length}
use Rattle.machine.specs.Images.{size_of}
use Rattle.form.specs.Tails.{body}
use Rattle.form.specs.Moves.{detach_of}
use Rattle.form.proofs.TailLaws.{length-body}
use Rattle.image.specs.Steps.ImageReads.{Whole}
use Rattle.image.proofs.ImageReadLaws.{whole_of}
use Rattle.tails.proofs.OpenLaws.{form-whole}
use Rattle.moving.specs.Steps.Moves.{detach_at}
use Rattle.moving.proofs.MoveSteps.{sizes-refused, sizes-shared, moved_on, move-refused}
use Rattle.moving.proofs.detach.detach.Goals.{In_ok-size}
use Rattle.moving.proofs.detach.detach.Goals as goal

-- the size of both
sizes : (c : In_ok-size) → let a = c.args in Whole c.in_ok-size.size (body a.image.now) × Whole c.in_ok-size.size a.target.now
sizes c =
    let a = c.args in
    let s = sizes-shared (size_of (length a.image.now - 64)) (size_of (length a.target.now))
    (rw (c.form_size.ensures, c.size_of.ensures) at c.in_ok-size.ensures) in
    (form-whole a.image.now s.0, whole_of a.target.now s.1)

pub detach_sized-requires : goal.detach_sized-requires
detach_sized-requires c = sizes (goal.at.detach_sized-requires c).In_ok-size

pub returns-in_err-size : goal.returns-in_err-size
unfolding detach_of
returns-in_err-size c =
    let a = c.args in
    rw (length-body a.image.now)
    (move-refused _ a.target.now c.from_residual.result c.in_err-size.field-0.0 c.from_residual.ensures
    (sizes-refused (size_of (length a.image.now - 64)) (size_of (length a.target.now)) (λ B. detach_at B a.image.now)
    (rw (c.form_size.ensures, c.size_of.ensures) at c.in_err-size.ensures)))

pub returns : goal.returns
unfolding detach_of
returns c =
    let a = c.args in
    let s = sizes (goal.at.returns c).In_ok-size in
    rw (moved_on (body a.image.now) a.target.now (λ B. detach_at B a.image.now) s.0 s.1) c.detach_sized.ensures
