-- `tails::open::tail` meets its contract: what opening the image tells.
use mathlib.Core.Path.{sym}
use Rattle.std.proofs.lemmas.Result.{err_from_is_err_and}
use Rattle.machine.specs.Results.{accepted}
use Rattle.form.specs.Calls.{tail_of}
use Rattle.tails.proofs.OpenLaws.{then-shut, then-opened}
use Rattle.tails.proofs.open.tail.Goals as goal

pub returns-in_err-opened : goal.returns-in_err-opened
unfolding tail_of
returns-in_err-opened c =
    let p = err_from_is_err_and c.from_residual.result c.from_residual.ensures.1 in
    rw (p.1, p.2) (sym (then-shut c.args.image.now c.in_err-opened.field-0.0 (λ h. accepted h.tail) c.in_err-opened.ensures))

pub returns : goal.returns
unfolding tail_of
returns c = sym (then-opened (λ h. accepted h.tail) c.in_ok-opened.ensures)
