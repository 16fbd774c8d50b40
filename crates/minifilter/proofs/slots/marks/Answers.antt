-- `minifilter::slots::marks` meets its contract: the slots passed are marked (`marks-hit`, `marks-miss`).
use Rattle.std.proofs.Common.{refl, sym, ◌∙◌, arith}
use borrow.Author.Tests.{eqb-true, eqb-false}
use Rattle.minifilter.specs.Steps.Marks.{marks_of}
use Rattle.minifilter.proofs.MarkLaws.{marks-hit, marks-miss}
use Rattle.minifilter.proofs.slots.marks.Goals.{then-marked, else-marked}
use Rattle.minifilter.proofs.slots.marks.Goals as goal

pub loop-slot-init : goal.loop-slot-init
unfolding marks_of
loop-slot-init g c f t told = refl

pub marked-requires : goal.marked-requires
marked-requires g c = c.requires.each c.loop-slot.slot (omega arith)

pub loop-slot-preserved : goal.loop-slot-preserved
loop-slot-preserved g c f t told =
    let i = c.loop-slot.slot in
    let before = c.loop-slot.invariant f t told in
    let said = told i c.marked.result (omega arith) c.marked.ensures in
    elim c.if-marked.branch [
      | then-marked w ↦ rw w.marks-is (marks-hit f t i (omega (arith, c.requires.room)) before (eqb-true (f i) t (sym said ∙ w.if-marked.true)))
      | else-marked w ↦ rw w.marks-is (marks-miss f t i before (eqb-false (f i) t (sym said ∙ w.if-marked.false)))
    ]
