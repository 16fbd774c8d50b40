-- `validation::check::check_total` meets its contract. The check's refusal is given on; the members that it counted are the total, or not.
use borrow.Author.Tests.{eq-eqb, ne_eqb}
use Rattle.std.proofs.lemmas.Result.{err_from_is_err_and}
use Rattle.crumbmap.specs.Layouts.{layout1}
use Rattle.form.specs.Calls.{checked_by}
use Rattle.validation.proofs.CheckSteps.{check-refused, check-counted}
use Rattle.validation.proofs.check.check_total.Goals as goal

pub returns-in_err-members : goal.returns-in_err-members
unfolding checked_by
returns-in_err-members c =
    let p = err_from_is_err_and c.from_residual.result c.from_residual.ensures.1 in
    rw (p.1, p.2, check-refused layout1 c.args.size c.args.image.now c.in_err-members.ensures)

pub returns-then-total-members : goal.returns-then-total-members
unfolding checked_by
returns-then-total-members c =
    let p = check-counted layout1 c.args.size c.args.image.now c.in_ok-members.ensures in
    rw (p.0, p.1, eq-eqb c.args.total c.in_ok-members.members c.if-total-members.true)

pub returns-else-total-members : goal.returns-else-total-members
unfolding checked_by
returns-else-total-members c =
    let p = check-counted layout1 c.args.size c.args.image.now c.in_ok-members.ensures in
    rw (p.0, p.1, ne_eqb c.args.total c.in_ok-members.members c.if-total-members.false)
