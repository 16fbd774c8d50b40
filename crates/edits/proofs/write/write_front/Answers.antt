-- `write::write_front` meets its contract: the stretch of tags and the word are all of a front bucket.
use mathlib.Core.Path.{refl, ◌∙◌}
use native.Mathlib.Omega.{arith}
use Rattle.crumbmap.specs.Layouts.{layout1}
use Rattle.edits.proofs.FrontEdits.{word-put}
use Rattle.edits.proofs.WriteLaws.{front_bytes-written}
use Rattle.edits.proofs.write.write_front.Goals as goal

pub returns : goal.returns
returns c =
    let b = c.args.b.now in
    let xs = c.args.keys.now in
    let tags = c.put_tags.new.s in
    c.put_word.ensures ∙ word-put b tags 64 c.word_for.result (omega arith) (omega arith)
    ∙ front_bytes-written layout1 refl b xs tags c.word_for.result c.requires.0 c.requires.1 c.word_for.ensures c.put_tags.ensures
