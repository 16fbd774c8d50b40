-- `deletion::delete::delete` meets its contract: opened, or refused before anything else.
use Rattle.std.proofs.lemmas.Result.{err_from_is_err_and}
use Rattle.machine.specs.Calls as M
use Rattle.form.specs.Tails.{body, lowered}
use Rattle.form.specs.Calls.{changed_by, delete_of}
use Rattle.answers.proofs.ChangeLaws.{changes, change-refused}
use Rattle.tails.proofs.OpenLaws.{then-shut}
use Rattle.deletion.proofs.delete.delete.Goals as goal

pub returns-in_err-opened : goal.returns-in_err-opened
unfolding delete_of
returns-in_err-opened c =
    let a = c.args in
    let why = c.in_err-opened.field-0.0 in
    let p = err_from_is_err_and c.from_residual.result c.from_residual.ensures.1 in
    rw (p.1, p.2)
    (changes
    (then-shut a.image.now why (λ h. changed_by h (M.delete_of h.layout (body a.image.now) a.hash) (lowered h.tail)) c.in_err-opened.ensures)
    (change-refused why a.image.now))
