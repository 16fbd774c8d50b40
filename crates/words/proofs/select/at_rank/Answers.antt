-- `words::select::at_rank` meets its contract: the table that is lent has the entry of the byte value and the rank at that place.
use mathlib.Core.Path.{ap}
use native.Mathlib.Omega.{arith}
use lib.ListN.{length}
use Rattle.words.proofs.SelectLaws.{length-table, listed-entry}
use Rattle.words.proofs.select.at_rank.Goals as goal

pub bounds-table-at : goal.bounds-table-at
bounds-table-at c = omega (arith, ap length c.requires.0, length-table)

pub returns : goal.returns
returns c = rw c.requires.0 (listed-entry c.args.byte c.args.rank c.ranges.byte.fits c.requires.1)
