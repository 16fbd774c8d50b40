-- `write::word_for` meets its contract. The loop's invariant: the word is that of the keys passed.
use mathlib.Core.Path.{sym, ap, ◌∙◌}
use Prim.Native.Nat.{◌+◌, ◌/◌}
use native.Mathlib.Omega.{arith}
use lib.ListN.{get_or}
use lib.Seq.{take_all}
use Rattle.multiset.specs.Digits.{highs}
use Rattle.crumbmap.specs.Layouts.{layout1, tags}
use Rattle.buckets.specs.Words.{word_from, opened_at}
use Rattle.multiset.proofs.DigitLaws.{length-highs}
use Rattle.edits.proofs.FrontEdits.{empty-word1}
use Rattle.edits.proofs.WriteLaws.{room-lt, word_next, mini-lt}
use Rattle.edits.proofs.write.word_for.Goals as goal

pub loop-slot-init : goal.loop-slot-init
loop-slot-init c = sym empty-word1

pub open_bit-word-requires : goal.open_bit-word-requires
open_bit-word-requires c =
    let l = c.loop-slot in
    let xs = c.args.keys.now in (
      omega (arith, c.requires.room, mini-lt layout1 xs c.requires l.slot (omega arith)),
      rw l.invariant (room-lt layout1 xs c.requires 63 l.slot (omega (arith, c.requires.room)) (omega arith)),
    )

pub loop-slot-preserved : goal.loop-slot-preserved
loop-slot-preserved c =
    let l = c.loop-slot in
    let xs = c.args.keys.now in
    let place = get_or xs l.slot 0 / tags layout1 + l.slot in
    c.open_bit-word.ensures ∙ ap (opened_at place) l.invariant ∙ word_next layout1 xs c.requires l.slot (omega arith)

pub returns : goal.returns
returns c =
    let l = c.loop-slot in
    let ms = highs (tags layout1) c.args.keys.now in
    l.invariant ∙ ap (word_from layout1.minis 0) (take_all l.slot ms (omega (arith, length-highs (tags layout1) c.args.keys.now)))
