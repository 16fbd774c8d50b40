-- `search::list::key_at` meets its contract: a place in a word is at most 64, so that the key fits.
use native.Mathlib.Omega.{arith}
use lib.Count.{trailing_le}
use Rattle.search.proofs.list.key_at.Goals as goal

pub overflow_mul-result : goal.overflow_mul-result
overflow_mul-result c = omega (arith, trailing_le 64 c.args.zeros)

pub overflow_add-result : goal.overflow_add-result
overflow_add-result c = omega (arith, trailing_le 64 c.args.zeros, c.tag_of.ensures.1)
