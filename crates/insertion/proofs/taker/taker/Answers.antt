-- `insertion::taker::taker` meets its contract: the three cases of the rule.
use mathlib.Core.Path.{sym, ap}
use native.Mathlib.Omega.{arith}
use Rattle.crumbmap.specs.Layouts.{layout1}
use Rattle.insertion.specs.Steps.Insertions.{taking_of}
use Rattle.insertion.proofs.TakerLaws.{taker-first, taker-second, taker-full}
use Rattle.insertion.proofs.taker.taker.Goals as goal

pub returns-then-n0-n1 : goal.returns-then-n0-n1
returns-then-n0-n1 c = sym (ap taking_of (taker-first layout1 c.args.n0 c.args.n1 c.requires.0 c.requires.1 c.if-n0-n1.true))

pub returns-then-n1-eq-BACK_SLOTS : goal.returns-then-n1-eq-BACK_SLOTS
returns-then-n1-eq-BACK_SLOTS c =
    sym (ap taking_of (taker-full layout1 c.args.n0 c.args.n1 c.requires.0 c.requires.1 (omega arith) c.if-n1-eq-BACK_SLOTS.true))

pub returns : goal.returns
returns c =
    sym (ap taking_of (taker-second layout1 c.args.n0 c.args.n1 c.requires.0 c.requires.1 (omega arith) (omega (arith, c.requires.1))))
