-- The lines of the entries that are passed stand over the output.
use mathlib.Core.Path.{◌≡◌}
use lib.ListN.{take}
use Rattle.text.specs.Texts.{over}
use Rattle.text.specs.Lines.{entry_lines}
use Rattle.text.proofs.print.put_entries.Given as goal

abbrev pub invariant-loop-i : goal.invariant-loop-i
invariant-loop-i l = l.out ≡ over 21 (entry_lines (take l.i l.entries)) l.initial.out
