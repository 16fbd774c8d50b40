-- `words::word::word_of` meets its contract: the sum of the bytes, each times its power of 256, is the value of the eight digits.
use native.Mathlib.Omega.{arith}
use Rattle.words.proofs.WideLaws.{word_sum}
use Rattle.words.proofs.word.word_of.Goals as goal

pub returns : goal.returns
returns c = omega (arith, word_sum c.args.b.now)
