-- `printing::page::print_sized` meets its contract: 6 past the last page; else the page of an image of that size.
use mathlib.Core.Path.{refl}
use Prim.Native.Nat.{◌*◌}
use native.Mathlib.Omega.{arith}
use borrow.Author.Tests.{le-leb, lt-leb}
use Rattle.crumbmap.specs.Layouts.{fronts}
use Rattle.machine.specs.OccupancyPages.{page_lines, occupancy_of}
use Rattle.image.proofs.ImageReadLaws.{whole-sized}
use Rattle.printing.proofs.page.print_sized.Goals as goal

pub returns-then-last-page : goal.returns-then-last-page
unfolding occupancy_of fronts
returns-then-last-page c =
    rw (whole-sized c.requires, le-leb (fronts c.args.size) (page_lines * c.args.page) (omega (arith, c.if-last-page.true))) (record { answer = refl; bytes = refl })

pub print_from-requires : goal.print_from-requires
unfolding fronts
print_from-requires c = (c.requires, omega (arith, c.requires.some))

pub returns : goal.returns
unfolding occupancy_of fronts
returns c =
    rw (whole-sized c.requires, lt-leb (fronts c.args.size) (page_lines * c.args.page) (omega (arith, c.if-last-page.false, c.requires.some)))
    c.print_from.ensures
