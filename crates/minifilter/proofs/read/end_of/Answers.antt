-- `minifilter::read::end_of` meets its contract: a number for each kind of bucket.
use Rattle.minifilter.proofs.read.end_of.Goals as goal

pub returns-then-crumbs : goal.returns-then-crumbs
returns-then-crumbs c = rw c.if-crumbs.true

pub returns : goal.returns
returns c = rw c.if-crumbs.false
