-- `merging::merge::merge_told` meets its contract. A source that check refuses ends the merge with that refusal; two that pass are merged.
use mathlib.Core.Path.{sym}
use native.Mathlib.Omega.{arith}
use Rattle.std.proofs.lemmas.Result.{err_from_is_err_and}
use Rattle.crumbmap.specs.Layouts.{layout1, fronts, backyards}
use Rattle.form.specs.Tails.{slots}
use Rattle.form.specs.Calls.{merged_by}
use Rattle.tails.specs.Steps.Openings.{header_of}
use Rattle.merging.specs.Steps.Targets.{fresh_form}
use Rattle.merging.proofs.MergeSteps.{check-refuses, checked-body}
use Rattle.merging.proofs.merge.merge_told.Goals as goal

pub overflow_add-mine : goal.overflow_add-mine
unfolding slots fronts backyards
overflow_add-mine c =
    omega (arith, c.requires.0.most, c.requires.1.most, c.requires.0.whole.small)

pub merge_checked-requires : goal.merge_checked-requires
merge_checked-requires c =
    let a = c.args in (
      record {
        first = checked-body (header_of a.size a.mine 0) a.first.now (sym c.in_ok-check_total.ensures) c.requires.0.whole;
        second = checked-body (header_of a.size a.theirs 0) a.second.now (sym c.in_ok-check_total-2.ensures) c.requires.1.whole;
      },
      c.requires.2,
    )

pub returns-in_err-check_total : goal.returns-in_err-check_total
unfolding merged_by
returns-in_err-check_total c =
    let a = c.args in
    let p = err_from_is_err_and c.from_residual.result c.from_residual.ensures.1 in
    rw (p.1, p.2)
    (check-refuses (header_of a.size a.mine 0) a.first.now (fresh_form layout1 1 a.size) a.target.now _ (sym c.in_err-check_total.ensures))

pub returns-in_err-check_total-2 : goal.returns-in_err-check_total-2
unfolding merged_by
returns-in_err-check_total-2 c =
    let a = c.args in
    let p = err_from_is_err_and c.from_residual-in_err-check_total-2.result c.from_residual-in_err-check_total-2.ensures.1 in
    rw (p.1, p.2, sym c.in_ok-check_total.ensures)
    (check-refuses (header_of a.size a.theirs 0) a.second.now (fresh_form layout1 1 a.size) a.target.now _ (sym c.in_err-check_total-2.ensures))

pub returns : goal.returns
unfolding merged_by
returns c = rw (sym c.in_ok-check_total.ensures, sym c.in_ok-check_total-2.ensures) c.merge_checked.ensures
