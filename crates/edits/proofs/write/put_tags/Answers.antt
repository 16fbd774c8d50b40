-- `write::put_tags` meets its contract. The loop's invariant: the bytes in front of a slot are those of the tags passed.
use mathlib.Core.Path.{◌≡◌, refl, ◌∙◌}
use Prim.Native.Nat.{◌+◌, ◌-◌, ◌*◌, ◌%◌}
use native.Mathlib.Omega.{arith}
use borrow.Author.Rules.{rules}
use lib.ListN.{length, get_or}
use Rattle.multiset.specs.Digits.{spread}
use Rattle.crumbmap.specs.Layouts.{layout1, tags}
use Rattle.shifts.proofs.TagLaws.{tag-bytes}
use Rattle.edits.proofs.WriteLaws.{tags-next, tags-all}
use Rattle.edits.proofs.write.put_tags.Goals as goal

pub loop-slot-init : goal.loop-slot-init
unfolding spread
loop-slot-init c = refl

pub loop-slot-preserved : goal.loop-slot-preserved
loop-slot-preserved c =
    let l = c.loop-slot in
    let xs = c.args.keys.now in
    let two : l.slot * 2 + 2 - l.slot * 2 ≡ 2 = omega arith in
    rw two (tags-next xs l.s c.copy_from_slice.new.self l.slot (omega arith) (omega arith) l.invariant
    (c.copy_from_slice.ensures.after ∙ c.to_le_bytes.ensures ∙ tag-bytes (get_or xs l.slot 0 % tags layout1)))

pub returns : goal.returns
returns c =
    let l = c.loop-slot in
    let xs = c.args.keys.now in
    let end : l.slot ≡ length xs = omega arith in
    tags-all xs l.s c.fill.new.self c.requires.1 (omega arith) (rw end at l.invariant) (search rules)
