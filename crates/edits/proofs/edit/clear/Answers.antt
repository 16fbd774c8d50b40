-- `edit::clear` meets its contract: all bytes but the word's are 0.
use mathlib.Core.Path.{◌∙◌}
use native.Mathlib.Omega.{arith}
use borrow.Author.Rules.{rules}
use Rattle.edits.proofs.FrontEdits.{word-put, cleared}
use Rattle.edits.proofs.edit.clear.Goals as goal

pub returns : goal.returns
returns c =
    let b = c.args.b.now in
    let zeros = c.fill.new.self in
    c.put_word.ensures ∙ word-put b zeros 64 68719476735 (omega arith) (omega arith) ∙ cleared b zeros c.requires (search rules)
