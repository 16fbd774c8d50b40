-- `minifilter::quick::passes_front` meets its contract: what it says of a bucket that passes (`passed`).
use mathlib.Core.Path.{◌≡◌, sym, ◌∙◌}
use mathlib.Core.Bool.{false, false≢true}
use mathlib.Core.Logic.{◌⊎◌, inl, inr}
use Prim.Native.Nat.{◌/◌, ◌^◌, ◌<◌}
use native.Mathlib.Omega.{arith}
use borrow.Author.Tests.{eqb-true}
use Rattle.crumbmap.specs.Layouts.{layout1}
use Rattle.minifilter.specs.Steps.Slots.{tag_at, Ordered}
use Rattle.buckets.proofs.ElementLaws.{below-bytes}
use Rattle.minifilter.proofs.QuickLaws.{bits-lt, passed}
use Rattle.minifilter.proofs.quick.passes_front.Goals.{After-falls, Else-falls-bits-ne0}
use Rattle.minifilter.proofs.quick.passes_front.Goals as goal

-- the leading one stands where 28 zeros put it
small : (c : After-falls) → c.args.bits < 2 ^ 29
small c =
    bits-lt c.args.word c.args.bits c.ranges.word.fits c.requires.1.borders c.requires.1.leads

pub overflow_mul-bits : goal.overflow_mul-bits
overflow_mul-bits c = omega (arith, small c)

pub overflow_cast-bits : goal.overflow_cast-bits
overflow_cast-bits c = omega (arith, small c)

-- what fails says nothing
pub returns-then-falls-bits-ne0 : goal.returns-then-falls-bits-ne0
returns-then-falls-bits-ne0 c e = absurd (false≢true e)

-- past the test of the marks, all but the last slot is known
ordered : (c : Else-falls-bits-ne0)
    → let a = c.args in
    (a.word / 2 ^ 63 ≡ 1) ⊎ (tag_at layout1 false a.b.now 27 ≡ 0) → Ordered layout1 false a.word a.b.now
ordered c last =
    passed c.args.b.now c.requires.0 (below-bytes c.args.b.now c.shared_slice_known-1.given) c.args.word c.args.bits
    c.ranges.word.fits c.requires.1.borders c.requires.1.leads c.falls.result c.falls.ensures c.if-falls-bits-ne0.false last

pub returns-then-word-eq1 : goal.returns-then-word-eq1
returns-then-word-eq1 c e = ordered (goal.at.returns-then-word-eq1 c).Else-falls-bits-ne0 (inl c.if-word-eq1.true)

pub returns : goal.returns
returns c e = ordered (goal.at.returns c).Else-falls-bits-ne0 (inr (sym c.tag_of.ensures.0 ∙ eqb-true c.tag_of.result 0 e))
