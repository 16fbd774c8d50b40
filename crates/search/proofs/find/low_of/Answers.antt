-- `search::find::low_of` meets its contract: a tag is below 65,536 and a crumb below 16, so that tag × 16 + crumb fits.
use native.Mathlib.Omega.{arith}
use Rattle.minifilter.proofs.PassLaws.{slots1-le}
use Rattle.search.proofs.find.low_of.Goals as goal

pub tag_of-tag-requires : goal.tag_of-tag-requires
tag_of-tag-requires c = (c.requires.0, omega (arith, slots1-le c.args.crumbs))

pub overflow_mul-result : goal.overflow_mul-result
overflow_mul-result c = omega (arith, c.tag_of-tag.ensures.1)

pub crumb_of-requires : goal.crumb_of-requires
crumb_of-requires c = (c.requires.0, rw c.if-crumbs.true at c.requires.1)

pub overflow_add-result : goal.overflow_add-result
overflow_add-result c = omega (arith, c.tag_of-tag.ensures.1, c.crumb_of.ensures.1)

pub returns-then-crumbs : goal.returns-then-crumbs
returns-then-crumbs c = cc

pub returns : goal.returns
returns c = cc
