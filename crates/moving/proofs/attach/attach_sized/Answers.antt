-- `moving::attach::attach_sized` meets its contract. The check's refusal is given on; the members that it counted are the tail's total.
use mathlib.Core.Path.{refl}
use native.Mathlib.Omega.{arith}
use Rattle.crumbmap.specs.Layouts.{layout1}
use Rattle.form.proofs.TailLaws.{length-body}
use Rattle.tails.proofs.OpenLaws.{whole_long}
use Rattle.validation.proofs.CheckSteps.{check-refused, check-counted}
use Rattle.moving.specs.Steps.Moves.{attach_at}
use Rattle.moving.proofs.MoveSteps.{move-refused}
use Rattle.moving.proofs.attach.attach_sized.Goals as goal

pub write_form-requires : goal.write_form-requires
write_form-requires c =
    let target = c.args.target.now in
    omega (arith, c.requires.0.long, c.requires.1.long, length-body target, whole_long target c.requires.1)

pub returns-in_err-members : goal.returns-in_err-members
returns-in_err-members c =
    let a = c.args in
    move-refused (attach_at a.size a.old.now) a.target.now c.from_residual.result c.in_err-members.field-0.0 c.from_residual.ensures
    (rw (check-refused layout1 a.size a.old.now c.in_err-members.ensures))

pub returns : goal.returns
returns c =
    let a = c.args in
    let p = check-counted layout1 a.size a.old.now c.in_ok-members.ensures in
    rw (p.0, p.1) record { answer = refl; bytes = c.write_form.ensures }
