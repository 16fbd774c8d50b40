-- `minifilter::quick::passes` meets its contract: each kind of bucket by its own test.
use mathlib.Core.Bool.{false≢true}
use Rattle.minifilter.proofs.quick.passes.Goals as goal

-- what fails says nothing
pub returns-then-bits-top-ne1 : goal.returns-then-bits-top-ne1
returns-then-bits-top-ne1 c e = absurd (false≢true e)

pub returns-then-crumbs : goal.returns-then-crumbs
returns-then-crumbs c e = rw c.if-crumbs.true (c.passes_back.ensures e)

pub returns : goal.returns
returns c e = rw c.if-crumbs.false (c.passes_front.ensures e)
