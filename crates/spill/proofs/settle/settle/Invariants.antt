-- What holds at each turn of the loop.
use Rattle.crumbmap.specs.Layouts.{layout1}
use Rattle.spill.proofs.SettleLaws.{Settling}
use Rattle.spill.proofs.settle.settle.Given as goal

abbrev pub invariant-loop-key : goal.invariant-loop-key
invariant-loop-key l = Settling layout1 l.a l.b l.over l.kept l.taken l.gone l.key-index
