-- `print_all` prints line after line. The loop's invariant: the lines so far stand over the output (`Stands`).
use mathlib.Core.Path.{◌≡◌}
use Prim.Native.Nat.{◌+◌}
use native.Mathlib.Omega.{arith}
use Rattle.crumbmap.specs.Layouts.{layout1, fronts}
use Rattle.machine.specs.OccupancyPages.{page_lines, lines_of}
use Rattle.printing.specs.Steps.Counts.{many_in}
use Rattle.printing.proofs.LineLaws.{stands-none}
use Rattle.printing.proofs.PageReads.{lines_more}
use Rattle.printing.proofs.page.print_all.Goals as goal

pub loop-i-init : goal.loop-i-init
unfolding lines_of
loop-i-init c = stands-none c.args.out.now

pub print_at-requires : goal.print_at-requires
print_at-requires c =
    let p = c.requires in
    (p.0.small, (λ h. p.2 (c.args.start + c.loop-i.i) (omega arith) (omega arith) h), omega arith)

pub loop-i-preserved : goal.loop-i-preserved
loop-i-preserved c =
    let l = c.loop-i in
    let a = c.args in
    lines_more layout1 (many_in layout1 a.size a.image.now) (fronts a.size) a.start l.i a.out.now l.out _ l.invariant c.print_at.ensures

pub returns : goal.returns
returns c =
    let l = c.loop-i in
    let e : l.i ≡ page_lines = omega arith in
    rw e at l.invariant.text
