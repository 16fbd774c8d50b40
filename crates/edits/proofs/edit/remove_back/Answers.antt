-- `edit::remove_back` meets its contract: word and tags change at one of the member's slots, and so do the crumbs.
use mathlib.Core.Path.{◌∙◌}
use Prim.Native.Nat.{◌<◌}
use native.Mathlib.Omega.{arith}
use Rattle.crumbmap.specs.Layouts.{layout1}
use Rattle.buckets.proofs.ElementLaws.{below-bytes}
use Rattle.buckets.proofs.BucketLaws.{fits1}
use Rattle.minifilter.proofs.HeldLaws.{back-list}
use Rattle.edits.proofs.BackEdits.{back-lt, back-room, crumbs-long, back-removed}
use Rattle.edits.proofs.edit.remove_back.Goals.{After-slice_known-1}
use Rattle.edits.proofs.edit.remove_back.Goals as goal

-- the slot is one that the bucket has
slot_lt : (c : After-slice_known-1) → c.args.slot < layout1.back_slots
slot_lt c =
    let b = c.args.b.now in
    let room = (back-list layout1 fits1 b (below-bytes b c.slice_known-1.given) c.requires.0).room in
    omega (arith, room, c.requires.1)

pub remove_slot-requires : goal.remove_slot-requires
remove_slot-requires c =
    let a = c.args in
    let b = a.b.now in
    let fit = back-lt layout1 fits1 b (below-bytes b c.slice_known-1.given) c.requires.0 a.member a.slot c.requires.1 c.requires.2 in
    (back-room b a.slot c.requires.0.long (slot_lt (goal.at.remove_slot-requires c).After-slice_known-1), omega (arith, fit))

pub remove_crumb-requires : goal.remove_crumb-requires
remove_crumb-requires c =
    let put = c.remove_slot in
    (crumbs-long put.new.b (put.auto.b ∙ c.requires.0.long), omega (arith, slot_lt (goal.at.remove_crumb-requires c).After-slice_known-1))

pub returns : goal.returns
returns c =
    let a = c.args in
    let b = a.b.now in
    back-removed layout1 fits1 b (below-bytes b c.slice_known-1.given) c.requires.0 a.member a.slot c.requires.1 c.requires.2
    c.remove_slot.new.b c.remove_crumb.new.s c.remove_slot.ensures c.remove_crumb.ensures
