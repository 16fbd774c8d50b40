-- `spill::settle::gives_way` meets its contract. The last of the first `kept` is the largest of them.
use Rattle.spill.proofs.SettleLaws.{way-none, way-last}
use Rattle.spill.proofs.settle.gives_way.Goals as goal

pub returns-then-kept-eq0 : goal.returns-then-kept-eq0
returns-then-kept-eq0 c = let a = c.args in way-none a.kept a.key a.a.now c.if-kept-eq0.true

pub returns : goal.returns
returns c = let a = c.args in way-last a.kept a.key a.a.now c.if-kept-eq0.false c.requires
