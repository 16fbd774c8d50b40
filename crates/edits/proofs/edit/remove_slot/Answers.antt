-- `edit::remove_slot` meets its contract: the stretch of tags comes back changed, and the word with the bit taken out.
use mathlib.Core.Path.{ap, ap₂, ◌∙◌}
use Prim.Native.Nat.{ℕ, ◌+◌}
use mathlib.Core.List.{List, ◌++◌}
use native.Mathlib.Omega.{arith}
use lib.ListN.{drop}
use Rattle.multiset.specs.Digits.{digits}
use Rattle.buckets.specs.Words.{closed_at}
use Rattle.words.specs.Steps.Wide.{word_bytes1}
use Rattle.edits.specs.Steps.Edits.{slot_removed}
use Rattle.edits.proofs.FrontEdits.{word-put}
use Rattle.edits.proofs.edit.remove_slot.Goals as goal

pub returns : goal.returns
unfolding slot_removed
returns c =
    let bit = c.close_bit in
    let a = c.args in
    c.put_word.ensures ∙ word-put a.b.now c.remove_tag.new.s a.end bit.result (omega arith) (omega arith)
    ∙ ap₂ (λ (v : ℕ) (t : List ℕ). digits 256 word_bytes1 v ++ (t ++ drop a.end a.b.now))
    (bit.ensures ∙ ap (closed_at (a.mini + a.slot)) c.word_of-word.ensures) c.remove_tag.ensures
