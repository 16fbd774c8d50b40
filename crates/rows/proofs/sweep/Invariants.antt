-- The loop of a sweep.
use Rattle.crumbmap.specs.Layouts.{layout1}
use Rattle.form.specs.Tails.{body}
use Rattle.rows.proofs.Swept.{Kept}
use Rattle.rows.proofs.sweep.Given as goal

-- the entries before this one are done
abbrev pub invariant-loop-entry : goal.invariant-loop-entry
invariant-loop-entry l = Kept layout1 (body l.fn.image) l.fn.start l.fn.row l.entry-index l.s l.row
