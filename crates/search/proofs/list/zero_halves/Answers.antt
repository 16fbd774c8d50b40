-- `search::list::zero_halves` meets its contract, as any number of halves does (`zero-halves`).
use native.Mathlib.Omega.{arith}
use Rattle.search.proofs.HalfLaws.{zero-halves}
use Rattle.search.proofs.list.zero_halves.Goals as goal

pub returns : goal.returns
returns c = zero-halves 16 c.args.x (omega (arith, c.ranges.x.fits))
