-- `deletion::plan::plan_behind` meets its contract. A copy behind leaves, or there is none.
use mathlib.Core.Path.{◌≡◌}
use native.Mathlib.Omega.{arith}
use Rattle.std.specs.Prelude as S
use Rattle.std.proofs.lemmas.Result.{err_from_is_err_and}
use Rattle.answers.specs.declared.Refusal.TheVariants.{Absent}
use Rattle.image.proofs.ImageReadLaws.{both_read}
use Rattle.deletion.proofs.LeavingLaws.{copy-member, copy-nothing}
use Rattle.deletion.proofs.DeleteSteps.{behind-unsound, behind-absent, behind-taken}
use Rattle.deletion.proofs.plan.plan_behind.Goals as goal

pub returns-in_err-a : goal.returns-in_err-a
returns-in_err-a c =
    let p = err_from_is_err_and c.from_residual.result c.from_residual.ensures.1 in
    rw (p.1, p.2) (behind-unsound c.args.target c.args.image.now c.requires.1 c.in_err-a.ensures)

pub returns-in_err-member : goal.returns-in_err-member
returns-in_err-member c =
    let b = c.in_ok-a.ensures in
    let p = err_from_is_err_and c.from_residual-in_err-member.result c.from_residual-in_err-member.ensures.1 in
    let none : c.copy.result ≡ S.None = grind arith in
    let why : c.in_err-member.field-0.0 ≡ Absent = grind arith in
    rw (p.1, p.2, why) (behind-absent c.args.target c.args.image.now c.requires.1 (both_read b.0 b.1) (copy-nothing b.0 b.1 c.copy.ensures none))

pub returns : goal.returns
returns c =
    let b = c.in_ok-a.ensures in
    let some : c.copy.result ≡ S.Some c.in_ok-member.member = grind arith in
    let m = copy-member b.0 b.1 c.copy.ensures some in
    record {
      stands = m.0.stands;
      delete = behind-taken c.args.target c.args.image.now c.requires.1 (both_read b.0 b.1) m.2 m.1 m.0;
    }
