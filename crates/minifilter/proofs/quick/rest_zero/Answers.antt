-- `minifilter::quick::rest_zero` meets its contract: the crumbs from slot 8 on are those of the last word, those before slot 16 of the other
-- (`high_zero`, `low-zero`).
use mathlib.Core.Path.{◌≡◌}
use mathlib.Core.Bool.{false≢true}
use Prim.Native.Nat.{◌+◌, ◌-◌}
use native.Mathlib.Omega.{arith}
use borrow.Author.Tests.{eqb-true}
use Rattle.buckets.proofs.ElementLaws.{below-bytes}
use Rattle.minifilter.proofs.RiseLaws.{high_zero, low-zero}
use Rattle.minifilter.proofs.quick.rest_zero.Goals as goal

pub returns-then-members-ge8 : goal.returns-then-members-ge8
returns-then-members-ge8 c e =
    let b = c.args.b.now in
    let n : 8 + (c.args.members - 8) ≡ c.args.members = omega (arith, c.if-members-ge8.true) in
    let h = c.word_of-high in
    rw n at
    (high_zero b c.requires.0 (below-bytes b c.shared_slice_known-1.given) (c.args.members - 8) h.result h.ensures (eqb-true _ 0 e))

pub returns-then-high-ne0 : goal.returns-then-high-ne0
returns-then-high-ne0 c e = absurd (false≢true e)

pub returns : goal.returns
returns c e =
    let b = c.args.b.now in
    let bytes = below-bytes b c.shared_slice_known-1.given in
    let h = c.word_of-high in
    low-zero b c.requires.0 bytes c.args.members c.word_of.result (omega (arith, c.if-members-ge8.false))
    (high_zero b c.requires.0 bytes 8 h.result h.ensures c.if-high-ne0.false) c.word_of.ensures (eqb-true _ 0 e)
