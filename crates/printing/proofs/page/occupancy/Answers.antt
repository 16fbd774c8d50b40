-- `printing::page::occupancy` meets its contract: on an image that was opened it is the body's occupancy page.
use mathlib.Core.Path.{refl}
use lib.ListN.{length}
use Rattle.std.proofs.lemmas.Result.{err_from_is_err_and}
use Rattle.machine.specs.OccupancyPages as O
use Rattle.form.specs.Tails.{body}
use Rattle.form.specs.Calls.{occupancy_of}
use Rattle.tails.proofs.OpenLaws.{then-shut}
use Rattle.tails.proofs.CallLaws.{body-whole, body_call}
use Rattle.printing.proofs.page.occupancy.Goals as goal

pub returns-in_err-opened : goal.returns-in_err-opened
unfolding occupancy_of
returns-in_err-opened c =
    let a = c.args in
    let p = err_from_is_err_and c.from_residual.result c.from_residual.ensures.1 in
    rw (
      p.1,
      p.2,
      then-shut a.image.now c.in_err-opened.field-0.0 (λ h. O.occupancy_of h.layout (body a.image.now) a.page (length a.out.now)) c.in_err-opened.ensures,
    ) (record { answer = refl; bytes = refl })

pub print_sized-requires : goal.print_sized-requires
print_sized-requires c = body-whole c.in_ok-opened.ensures

pub returns : goal.returns
unfolding occupancy_of
returns c =
    let a = c.args in
    rw (body_call c.in_ok-opened.ensures (λ L b. O.occupancy_of L b a.page (length a.out.now))) c.print_sized.ensures
