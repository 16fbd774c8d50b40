-- `shifts::crumbs::carried` meets its contract: the last of 16 falls off, or the new one stands behind them.
use Rattle.std.proofs.Common.{arith}
use Rattle.shifts.proofs.CrumbLaws.{fallen, behind}
use Rattle.shifts.proofs.crumbs.carried.Goals as goal

pub returns-then-n-lt16 : goal.returns-then-n-lt16
returns-then-n-lt16 c = (omega arith, fallen c.args.n c.args.crumb c.args.low c.if-n-lt16.true c.ranges.low.fits)

pub returns : goal.returns
returns c = (c.requires.1, behind c.args.n c.args.crumb c.args.low (omega arith))
