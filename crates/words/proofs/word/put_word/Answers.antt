-- `words::word::put_word` meets its contract: the bytes of a number are its eight digits.
use native.Mathlib.Nat.{div-div-eq-div-mul}
use Rattle.multiset.specs.Digits.{digits}
use Rattle.words.proofs.word.put_word.Goals as goal

pub returns : goal.returns
unfolding digits
returns c = simp (div-div-eq-div-mul, c.copy_from_slice.ensures.after, c.to_le_bytes.ensures)
