-- `grouping::tell::reads_behind` meets its contract: 2 where b0 = b1, else 3.
use Rattle.std.proofs.Common.{sym, ◌∙◌}
use Rattle.machine.proofs.ChoiceLaws.{reads_same, reads-apart}
use Rattle.grouping.proofs.tell.reads_behind.Goals as goal

pub returns-then-coincide : goal.returns-then-coincide
returns-then-coincide c = let a = c.args in sym (reads_same a.size a.front.0 (sym c.coincide.ensures ∙ c.if-coincide.true))

pub returns : goal.returns
returns c = let a = c.args in sym (reads-apart a.size a.front.0 (sym c.coincide.ensures ∙ c.if-coincide.false))
