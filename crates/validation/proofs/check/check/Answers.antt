-- `validation::check::check` meets its contract. The image is opened, and its body checked against the total that its tail tells.
use Rattle.std.proofs.lemmas.Result.{err_from_is_err_and}
use Rattle.form.specs.Calls.{checked_by, check_of}
use Rattle.tails.proofs.OpenLaws.{opened-at}
use Rattle.tails.proofs.PartLaws.{body-part}
use Rattle.tails.proofs.CallLaws.{body-whole}
use Rattle.validation.proofs.check.check.Goals as goal

pub returns-in_err-opened : goal.returns-in_err-opened
unfolding check_of
returns-in_err-opened c =
    let p = err_from_is_err_and c.from_residual.result c.from_residual.ensures.1 in
    rw (p.1, p.2, c.in_err-opened.ensures)

pub check_total-requires : goal.check_total-requires
check_total-requires c = body-whole c.in_ok-opened.ensures

pub returns : goal.returns
unfolding check_of checked_by
returns c =
    let o = c.in_ok-opened.ensures in
    rw (opened-at o, ← body-part c.args.image.now o.end) c.check_total.ensures
