-- `validation::check::check_sized` meets its contract. Each pass that found nothing leads to the next; what it found is the machine's refusal. What
-- the first two counted are the members.
use native.Mathlib.Omega.{arith}
use Rattle.std.proofs.lemmas.Result.{err_from_is_err_and}
use Rattle.crumbmap.specs.Layouts.{layout1, fronts, backyards}
use Rattle.buckets.proofs.BucketLaws.{fits1}
use Rattle.machine.specs.Checks.{early, check_sized}
use Rattle.form.specs.Tails.{members}
use Rattle.validation.specs.Steps.Passes.{counted_check}
use Rattle.validation.proofs.CheckSteps.{fault-none, fault-some, all_read}
use Rattle.validation.proofs.check.check_sized.Goals as goal

pub returns-in_err-front : goal.returns-in_err-front
unfolding counted_check check_sized
returns-in_err-front c =
    let p = err_from_is_err_and c.from_residual.result c.from_residual.ensures.1 in
    rw (p.1, p.2, c.in_err-front.ensures)

pub returns-in_err-back : goal.returns-in_err-back
unfolding counted_check check_sized
returns-in_err-back c =
    let p = err_from_is_err_and c.from_residual-in_err-back.result c.from_residual-in_err-back.ensures.1 in
    let q = c.in_ok-front.ensures in
    rw (p.1, p.2, q.0, c.in_err-back.ensures)

pub first_early-requires : goal.first_early-requires
first_early-requires c =
    all_read fits1 c.requires (λ i. (c.type_inv.image i).fits) c.in_ok-front.ensures.0 c.in_ok-back.ensures.0

pub overflow_add-result : goal.overflow_add-result
unfolding fronts backyards
overflow_add-result c = omega (arith, c.in_ok-front.ensures.1.few, c.in_ok-back.ensures.1.few, c.requires.small)

pub returns-in-Some : goal.returns-in-Some
unfolding counted_check check_sized
returns-in-Some c =
    let a = c.args in
    rw (c.in_ok-front.ensures.0, c.in_ok-back.ensures.0, fault-some (early layout1 a.size (backyards a.size) 0 a.image.now) c.in-Some.ensures)

pub returns-in-None : goal.returns-in-None
unfolding counted_check check_sized members
returns-in-None c =
    let a = c.args in
    let f = c.in_ok-front.ensures in
    let b = c.in_ok-back.ensures in
    rw (f.0, b.0, fault-none (early layout1 a.size (backyards a.size) 0 a.image.now) c.in-None.ensures, f.1.many, b.1.many)
