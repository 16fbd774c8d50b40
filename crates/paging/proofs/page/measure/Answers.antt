-- `paging::page::measure` meets its contract. The loop's invariant: the run is measured up to bucket f (`Measured`).
use native.Mathlib.Omega.{arith}
use Rattle.std.proofs.lemmas.Result.{err_from_is_err_and}
use Rattle.crumbmap.specs.Layouts.{layout1}
use Rattle.paging.proofs.PageSteps.{measured-start, measured-on, measured-stop, measured-end, measured-unsound}
use Rattle.paging.proofs.page.measure.Goals as goal

pub loop-f-init : goal.loop-f-init
loop-f-init c =
    measured-start layout1 c.args.size c.args.start c.args.end c.args.room c.args.image.now c.requires.1

pub returns-in_err-n : goal.returns-in_err-n
returns-in_err-n c =
    let p = err_from_is_err_and c.from_residual.result c.from_residual.ensures.1 in
    rw (p.1, p.2) (measured-unsound c.loop-f.invariant (omega arith) c.in_err-n.ensures)

pub returns-then-left-n : goal.returns-then-left-n
returns-then-left-n c =
    let r = c.in_ok-n.ensures in
    measured-stop c.loop-f.invariant (omega arith) c.requires.0 r.0 (omega (arith, r.1))

pub loop-f-preserved : goal.loop-f-preserved
loop-f-preserved c =
    let r = c.in_ok-n.ensures in
    rw r.1 at (measured-on c.loop-f.invariant (omega arith) r.0 (omega (arith, r.1)))

pub returns : goal.returns
returns c = measured-end c.loop-f.invariant c.requires.0 (omega arith)
