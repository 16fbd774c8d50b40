-- What holds at each turn of the loop.
use mathlib.Core.Path.{◌≡◌}
use lib.ListN.{take}
use Rattle.multiset.specs.Digits.{highs}
use Rattle.crumbmap.specs.Layouts.{layout1, tags}
use Rattle.buckets.specs.Words.{word_from}
use Rattle.edits.proofs.write.word_for.Given as goal

abbrev pub invariant-loop-slot : goal.invariant-loop-slot
invariant-loop-slot l = l.word ≡ word_from layout1.minis 0 (take l.slot (highs (tags layout1) l.keys))
