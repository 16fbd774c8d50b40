-- `tails::tail::write_tail` meets its contract: eight bytes from the start, then eight of what is behind them (`two-words`).
use Rattle.multiset.specs.Digits.{digits}
use Rattle.multiset.proofs.DigitLaws.{length_digits}
use Rattle.tails.proofs.PartLaws.{two-words}
use Rattle.tails.proofs.tail.write_tail.Goals as goal

pub returns : goal.returns
returns c =
    let a = c.args in
    two-words (digits 256 8 a.total) (digits 256 8 a.changes) a.b.now (length_digits 256 8 a.total) c.requires
    c.put_word.ensures c.put_word-2.ensures
