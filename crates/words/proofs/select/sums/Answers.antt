-- `words::select::sums` meets its contract: the ones of the bytes are added up over two, four and eight bytes, and moved up by one.
use Rattle.words.proofs.ByteLaws.{Added, added-word, sums_word}
use Rattle.words.proofs.select.sums.Goals.{After-byte_ones-each}
use Rattle.words.proofs.select.sums.Goals as goal

added : (c : After-byte_ones-each) → Added c.args.word c.byte_ones-each.result
added c = added-word c.args.word c.byte_ones-each.result c.byte_ones-each.ensures

pub returns : goal.returns
returns c = sums_word c.args.word _ (added c).moved
