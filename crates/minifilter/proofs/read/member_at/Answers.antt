-- `minifilter::read::member_at` meets its contract: tag and crumb are those of the slot.
use native.Mathlib.Omega.{arith}
use Rattle.minifilter.proofs.PassLaws.{slots1-le}
use Rattle.minifilter.proofs.read.member_at.Goals as goal

pub tag_of-requires : goal.tag_of-requires
tag_of-requires c = (c.requires.0, omega (arith, slots1-le c.args.crumbs))

pub crumb_of-requires : goal.crumb_of-requires
crumb_of-requires c = (c.requires.0, rw c.if-crumbs.true at c.requires.2)

pub returns-then-crumbs : goal.returns-then-crumbs
returns-then-crumbs c = rw (c.if-crumbs.true, c.tag_of.ensures.0, c.crumb_of.ensures.0)

pub returns : goal.returns
returns c = rw (c.if-crumbs.false, c.tag_of.ensures.0)
