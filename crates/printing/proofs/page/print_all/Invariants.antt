-- What holds at each turn of the loop.
use Prim.Native.Nat.{◌*◌}
use Rattle.crumbmap.specs.Layouts.{layout1, fronts}
use Rattle.machine.specs.OccupancyPages.{line_bytes, lines_of}
use Rattle.printing.specs.Steps.Counts.{many_in}
use Rattle.printing.proofs.LineLaws.{Stands}
use Rattle.printing.proofs.page.print_all.Given as goal

abbrev pub invariant-loop-i : goal.invariant-loop-i
invariant-loop-i l =
    Stands l.initial.out (lines_of layout1 (many_in layout1 l.size l.image) (fronts l.size) l.i l.start) (line_bytes layout1 * l.i) l.out
