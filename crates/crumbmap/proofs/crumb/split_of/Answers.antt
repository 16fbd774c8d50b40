-- `split_of` line by line: 8 × choice + digit is the value. No crumb is left for the last line.
use native.Mathlib.Omega.{arith}
use Rattle.crumbmap.proofs.TestLaws.{none_below}
use Rattle.crumbmap.proofs.crumb.split_of.Goals as goal

pub returns-in-16-to-4294967295 : goal.returns-in-16-to-4294967295
returns-in-16-to-4294967295 c = absurd (omega (arith, none_below 16 c.args.crumb c.in-16-to-4294967295.in-16-to-4294967295-own.rest))
