-- `tails::tail::read_tail` meets its contract: its tests, in their order, are those of `tail_reading_of`.
use mathlib.Core.Path.{◌∙◌, sym}
use native.Mathlib.Omega.{arith}
use Rattle.form.specs.Tails.{tail_in}
use Rattle.tails.proofs.WordLaws.{tail-over, tail-marked, tail-spoilt, tail-fit}
use Rattle.tails.proofs.tail.read_tail.Goals as goal

pub returns-then-most-total : goal.returns-then-most-total
unfolding tail_in
returns-then-most-total c = let a = c.args in tail-over a.most a.b.now (omega (arith, c.word_at-total.ensures, c.if-most-total.true))

pub returns-then-word_at-ne1 : goal.returns-then-word_at-ne1
returns-then-word_at-ne1 c =
    tail-marked c.args.most c.args.b.now c.requires (λ e. c.if-word_at-ne1.true (c.word_at.ensures ∙ e))

pub returns-then-not-rest_zero : goal.returns-then-not-rest_zero
returns-then-not-rest_zero c =
    tail-spoilt c.args.most c.args.b.now c.requires (sym c.word_at.ensures ∙ c.if-word_at-ne1.false)
    (sym c.rest_zero.ensures ∙ c.if-not-rest_zero.true)

pub returns : goal.returns
unfolding tail_in
returns c =
    rw (c.word_at-total.ensures, c.word_at-2.ensures)
    (tail-fit c.args.most c.args.b.now c.requires (omega (arith, c.word_at-total.ensures, c.if-most-total.false))
    (sym c.word_at.ensures ∙ c.if-word_at-ne1.false) (sym c.rest_zero.ensures ∙ c.if-not-rest_zero.false))
