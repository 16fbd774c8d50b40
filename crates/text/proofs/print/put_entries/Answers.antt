-- `put_entries` writes entry by entry: the lines of what is passed stand over the output.
use native.Mathlib.Omega.{arith}
use Rattle.text.specs.Lines.{entry_lines}
use Rattle.text.proofs.PrintLaws.{over_nothing, over-more}
use Rattle.text.proofs.print.put_entries.Goals as goal

pub loop-i-init : goal.loop-i-init
unfolding entry_lines
loop-i-init c = over_nothing 21 c.args.out.now

pub loop-i-preserved : goal.loop-i-preserved
loop-i-preserved c =
    let l = c.loop-i in
    let a = c.args in
    over-more l.i a.entries.now a.out.now l.out _ (omega arith) (omega arith) l.invariant c.put_entry.ensures
