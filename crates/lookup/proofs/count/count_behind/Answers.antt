-- `lookup::count::count_behind` meets its contract. The copies in front, in First(f) and in Second(f), no more than their slots; where b0 = b1 the one
-- bucket settles it.
use mathlib.Core.Bool.{true, false}
use mathlib.Core.Path.{sym, ◌∙◌}
use native.Mathlib.Omega.{arith}
use Rattle.std.proofs.lemmas.Result.{err_from_is_err_and}
use Rattle.lookup.proofs.CountSteps.{here-few, behind-unsound, behind-found, behind-counted}
use Rattle.lookup.proofs.count.count_behind.Goals as goal

pub returns-in_err-a : goal.returns-in_err-a
returns-in_err-a c =
    let p = err_from_is_err_and c.from_residual.result c.from_residual.ensures.1 in
    rw (p.1, p.2) (behind-unsound c.requires c.in_err-a.ensures)

pub overflow_add-result : goal.overflow_add-result
overflow_add-result c =
    let r = c.in_ok-a.ensures in
    omega (arith, here-few c.requires, (behind-found c.requires true r.0 c.find_at.ensures c.copies_of-first.ensures).1)

pub overflow_add-result-2 : goal.overflow_add-result-2
overflow_add-result-2 c =
    let r = c.in_ok-a.ensures in
    omega (
      arith,
      here-few c.requires,
      (behind-found c.requires true r.0 c.find_at.ensures c.copies_of-first.ensures).1,
      (behind-found c.requires false r.1 c.find_at-2.ensures c.copies_of-second.ensures).1,
    )

pub returns : goal.returns
returns c =
    let r = c.in_ok-a.ensures in
    behind-counted c.requires r.0 r.1 (behind-found c.requires true r.0 c.find_at.ensures c.copies_of-first.ensures).0
    (behind-found c.requires false r.1 c.find_at-2.ensures c.copies_of-second.ensures).0 (sym c.coincide.ensures ∙ c.if-coincide.false)
