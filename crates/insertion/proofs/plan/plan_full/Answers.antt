-- `insertion::plan::plan_full` meets its contract. A backyard bucket is unsound, both are full, or the taker of the overflow has a slot left.
use mathlib.Core.Path.{◌≡◌}
use native.Mathlib.Omega.{arith}
use Rattle.std.specs.Prelude as S
use Rattle.std.proofs.lemmas.Result.{err_from_is_err_and}
use Rattle.answers.specs.declared.Refusal.TheVariants.{Full}
use Rattle.insertion.proofs.TakerLaws.{taking-full, taking-first, taking-second}
use Rattle.insertion.proofs.InsertSteps.{insert-unsound, plan-stuck, plan-first, plan-second}
use Rattle.insertion.proofs.plan.plan_full.Goals.{in-First, in-Second}
use Rattle.insertion.proofs.plan.plan_full.Goals as goal

pub returns-in_err-a : goal.returns-in_err-a
returns-in_err-a c =
    let p = err_from_is_err_and c.from_residual.result c.from_residual.ensures.1 in
    rw (p.1, p.2) (insert-unsound c.args.target c.args.image.now c.requires.whole c.in_err-a.ensures)

pub returns-in_err-choice : goal.returns-in_err-choice
returns-in_err-choice c =
    let b = c.in_ok-a.ensures in
    let p = err_from_is_err_and c.from_residual-in_err-choice.result c.from_residual-in_err-choice.ensures.1 in
    let none : c.taker.result ≡ S.None = grind arith in
    let why : c.in_err-choice.field-0.0 ≡ Full = grind arith in
    rw (p.1, p.2, why) (plan-stuck c.requires c.overflow_of-over.ensures.0 b.0 b.1 (taking-full (rw none at c.taker.ensures)))

pub returns : goal.returns
returns c =
    let b = c.in_ok-a.ensures in
    let some : c.taker.result ≡ S.Some c.in_ok-choice.choice = grind arith in
    rw c.spills.ensures (elim c.match-choice.branch [
      | in-First w ↦
          rw w.to-is (plan-first c.requires c.overflow_of-over.ensures.0 b.0 b.1 (taking-first (rw (some, w.in-First.is) at c.taker.ensures)))
      | in-Second w ↦
          rw w.to-is (plan-second c.requires c.overflow_of-over.ensures.0 b.0 b.1 (taking-second (rw (some, w.in-Second.is) at c.taker.ensures)))
    ])
