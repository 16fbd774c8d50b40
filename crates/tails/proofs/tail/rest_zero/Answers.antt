-- `tails::tail::rest_zero` meets its contract: eight bytes more are 0 where their number is (`word-zero`).
use mathlib.Core.Path.{◌≡◌, sym, ◌∙◌}
use Prim.Native.Nat.{◌+◌, ◌*◌}
use mathlib.Core.List.{[]}
use native.Mathlib.Omega.{arith}
use lib.ListN.{drop, drop_of_length-le}
use lib.Seq.{drop-drop}
use borrow.Author.Tests.{eq-eqb, ne_eqb}
use Rattle.multiset.specs.Multisets.{all_zero}
use Rattle.tails.proofs.WordLaws.{word-zero}
use Rattle.tails.proofs.tail.rest_zero.Goals as goal

pub returns-then-word_at-ne0 : goal.returns-then-word_at-ne0
returns-then-word_at-ne0 c =
    let i = c.loop-i in
    sym (i.invariant ∙ word-zero 8 (drop (8 * i.i) c.args.b.now) ∙ rw (ne_eqb _ 0 (λ e. c.if-word_at-ne0.true (c.word_at.ensures ∙ e))))

pub loop-i-preserved : goal.loop-i-preserved
loop-i-preserved c =
    let i = c.loop-i in
    let b = c.args.b.now in
    let k : 8 * (i.i + 1) ≡ 8 * i.i + 8 = omega arith in
    i.invariant ∙ word-zero 8 (drop (8 * i.i) b) ∙ rw (k, eq-eqb _ 0 (sym c.word_at.ensures ∙ c.if-word_at-ne0.false), drop-drop 8 (8 * i.i) b)

pub returns : goal.returns
unfolding all_zero
returns c =
    let i = c.loop-i in
    let b = c.args.b.now in
    let e : drop (8 * i.i) b ≡ [] = drop_of_length-le b {i = 8 * i.i} (omega arith) in
    sym (i.invariant ∙ rw e)
