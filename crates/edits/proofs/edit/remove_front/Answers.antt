-- `edit::remove_front` meets its contract: the slot is one of those of the key.
use mathlib.Core.Path.{◌∙◌}
use native.Mathlib.Omega.{arith}
use Rattle.crumbmap.specs.Layouts.{layout1}
use Rattle.buckets.proofs.ElementLaws.{below-bytes}
use Rattle.buckets.proofs.BucketLaws.{fits1}
use Rattle.minifilter.proofs.HeldLaws.{front-list}
use Rattle.edits.proofs.FrontEdits.{front-room, front-removed, front-lt}
use Rattle.edits.proofs.edit.remove_front.Goals as goal

pub remove_slot-requires : goal.remove_slot-requires
remove_slot-requires c =
    let a = c.args in
    let b = a.b.now in
    let bytes = below-bytes b c.slice_known-1.given in
    let room = (front-list layout1 fits1 b bytes c.requires.0).room in (
      front-room b a.slot c.requires.0.long (omega (arith, c.requires.1, room)),
      omega (arith, front-lt layout1 fits1 b bytes c.requires.0 a.key a.slot c.requires.1 c.requires.2),
    )

pub returns : goal.returns
returns c =
    let a = c.args in
    let b = a.b.now in
    c.remove_slot.ensures
    ∙ front-removed layout1 fits1 b (below-bytes b c.slice_known-1.given) c.requires.0 a.key a.slot c.requires.1 c.requires.2
