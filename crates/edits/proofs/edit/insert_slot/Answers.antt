-- `edit::insert_slot` meets its contract: the stretch of tags comes back changed, and the word with a bit put in.
use mathlib.Core.Path.{ap, ap₂, ◌∙◌}
use Prim.Native.Nat.{ℕ, ◌+◌, ◌/◌}
use mathlib.Core.List.{List, ◌++◌}
use native.Mathlib.Omega.{arith}
use lib.ListN.{drop}
use Rattle.multiset.specs.Digits.{digits}
use Rattle.crumbmap.specs.Layouts.{tags, layout1}
use Rattle.buckets.specs.Words.{opened_at}
use Rattle.words.specs.Steps.Wide.{word_bytes1}
use Rattle.edits.specs.Steps.Edits.{slot_inserted}
use Rattle.edits.proofs.FrontEdits.{word-put}
use Rattle.edits.proofs.edit.insert_slot.Goals as goal

pub returns : goal.returns
unfolding slot_inserted
returns c =
    let bit = c.open_bit in
    let a = c.args in
    c.put_word.ensures ∙ word-put a.b.now c.insert_tag.new.s a.end bit.result (omega arith) (omega arith)
    ∙ ap₂ (λ (v : ℕ) (t : List ℕ). digits 256 word_bytes1 v ++ (t ++ drop a.end a.b.now))
    (bit.ensures ∙ ap (opened_at (a.key / tags layout1 + a.slot)) c.word_of-word.ensures) c.insert_tag.ensures
