-- `search::list::wanted` meets its contract, bucket kind by bucket kind.
use Rattle.search.proofs.list.wanted.Goals as goal

pub crumb_of-requires : goal.crumb_of-requires
crumb_of-requires c = (c.requires.0, rw c.if-crumbs.true at c.requires.1)

pub returns-then-crumbs : goal.returns-then-crumbs
returns-then-crumbs c = rw (c.if-crumbs.true, c.crumb_of.ensures.0)
