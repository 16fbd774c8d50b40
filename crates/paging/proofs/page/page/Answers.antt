-- `paging::page::page` meets its contract: on an image that was opened it is the body's page, where the change count is the one brought.
use mathlib.Core.Path.{refl}
use lib.ListN.{length}
use Rattle.std.proofs.lemmas.Result.{err_from_is_err_and}
use Rattle.machine.specs.Calls as M
use Rattle.form.specs.Tails.{body}
use Rattle.form.specs.Calls.{unchanged, page_of}
use Rattle.tails.proofs.OpenLaws.{then-opened, then-shut}
use Rattle.tails.proofs.PartLaws.{body-part}
use Rattle.tails.proofs.CallLaws.{body-whole}
use Rattle.paging.proofs.page.page.Goals as goal

pub page_opened-requires : goal.page_opened-requires
page_opened-requires c = body-whole c.in_ok-opened.ensures

pub returns-in_err-opened : goal.returns-in_err-opened
unfolding page_of
returns-in_err-opened c =
    let a = c.args in
    let p = err_from_is_err_and c.from_residual.result c.from_residual.ensures.1 in
    rw (
      p.1,
      p.2,
      then-shut a.image.now c.in_err-opened.field-0.0
          (λ h. unchanged h.tail.changes a.changes (M.page_of h.layout (body a.image.now) a.start (length a.out.now)))
          c.in_err-opened.ensures,
    ) (record { answer = refl; bytes = refl })

pub returns : goal.returns
unfolding page_of
returns c =
    let a = c.args in
    let o = c.in_ok-opened.ensures in
    rw (
      then-opened (λ h. unchanged h.tail.changes a.changes (M.page_of h.layout (body a.image.now) a.start (length a.out.now))) o,
      ← body-part a.image.now o.end,
    ) c.page_opened.ensures
