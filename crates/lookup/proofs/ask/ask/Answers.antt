-- `lookup::ask::ask` meets its contract: on an image that was opened it is the body's ask at the hash's target.
use mathlib.Core.Path.{sym, ◌∙◌}
use Rattle.std.proofs.lemmas.Result.{err_from_is_err_and}
use Rattle.crumbmap.specs.Layouts.{layout1}
use Rattle.machine.specs.Machine.{ask_at}
use Rattle.machine.specs.Calls as M
use Rattle.form.specs.Tails.{body}
use Rattle.form.specs.Calls.{ask_of}
use Rattle.tails.proofs.OpenLaws.{then-shut, then-opened}
use Rattle.tails.proofs.CallLaws.{body-placed, hash-call}
use Rattle.lookup.proofs.ask.ask.Goals as goal

pub ask_at-requires : goal.ask_at-requires
ask_at-requires c = body-placed c.in_ok-opened.ensures c.target_of.ensures

pub returns-in_err-opened : goal.returns-in_err-opened
unfolding ask_of
returns-in_err-opened c =
    let a = c.args in
    let p = err_from_is_err_and c.from_residual.result c.from_residual.ensures.1 in
    rw (p.1, p.2) (sym (then-shut a.image.now c.in_err-opened.field-0.0 (λ h. M.ask_of h.layout (body a.image.now) a.hash) c.in_err-opened.ensures))

pub returns : goal.returns
unfolding ask_of M.ask_of
returns c =
    let a = c.args in
    c.ask_at.ensures
    ∙ hash-call c.in_ok-opened.ensures c.target_of.ensures (λ B f x b. ask_at layout1 B f x b)
    ∙ sym (then-opened (λ h. M.ask_of h.layout (body a.image.now) a.hash) c.in_ok-opened.ensures)
