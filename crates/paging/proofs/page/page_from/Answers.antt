-- `paging::page::page_from` meets its contract. Each ending of a page, by what measuring said.
use native.Mathlib.Omega.{arith}
use Rattle.std.proofs.lemmas.Result.{err_from_is_err_and}
use Rattle.crumbmap.specs.Layouts.{layout1, fronts}
use Rattle.paging.proofs.PageSteps.{moves, page-unsound, page-no-room, page-written}
use Rattle.paging.proofs.page.page_from.Goals.{else-next-start-via-then-next-start+else-start-end, else-next-start-via-else-next-start}
use Rattle.paging.proofs.page.page_from.Goals as goal

pub measure-requires : goal.measure-requires
unfolding fronts
measure-requires c = let p = c.requires in (p.0, p.1, omega arith)

pub returns-in_err-next : goal.returns-in_err-next
unfolding fronts
returns-in_err-next c =
    let p = err_from_is_err_and c.from_residual.result c.from_residual.ensures.1 in
    rw (p.1, p.2) (page-unsound layout1 c.args.size c.args.start c.args.image.now c.args.out.now c.requires.1 c.in_err-next.ensures)

pub returns-then-start-end : goal.returns-then-start-end
unfolding fronts
returns-then-start-end c =
    page-no-room layout1 c.args.size c.args.start c.args.image.now c.args.out.now c.requires.1 c.in_ok-next.ensures
    (omega (arith, c.if-next-start.true)) (omega arith)

pub write_run-entries-requires : goal.write_run-entries-requires
unfolding fronts
write_run-entries-requires c = c.in_ok-next.ensures

pub returns : goal.returns
unfolding fronts
returns c =
    let on = moves c.in_ok-next.next c.args.start (fronts c.args.size) (λ e d. elim c.else-next-start.branch [
      | else-next-start-via-then-next-start+else-start-end w ↦ omega arith
      | else-next-start-via-else-next-start w ↦ omega arith
    ]) in
    page-written layout1 c.args.size c.args.start c.args.image.now c.args.out.now c.requires.1 c.in_ok-next.ensures on c.write_run-entries.ensures
