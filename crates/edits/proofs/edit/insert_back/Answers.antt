-- `edit::insert_back` meets its contract: word and tags change at the member's slot, and so do the crumbs.
use mathlib.Core.Path.{ap, ◌∙◌}
use Prim.Native.Nat.{ℕ, ◌/◌, ◌%◌, ◌<◌}
use native.Mathlib.Omega.{arith}
use lib.ListN.{take, drop}
use Rattle.crumbmap.specs.Layouts.{layout1}
use Rattle.buckets.specs.Buckets.{back_list, slot_end, crumb_room}
use Rattle.words.specs.Steps.Wide.{word_bytes1}
use Rattle.shifts.specs.Steps.Shifts.{crumb_inserted}
use Rattle.edits.specs.Steps.Edits.{slot_inserted}
use Rattle.multiset.proofs.RankLaws.{below-le-length}
use Rattle.buckets.proofs.ElementLaws.{below-bytes}
use Rattle.buckets.proofs.BucketLaws.{fits1}
use Rattle.edits.proofs.BackEdits.{back-room, crumbs-long, back-inserted, back-word-lt}
use Rattle.edits.proofs.edit.insert_back.Goals.{Start}
use Rattle.edits.proofs.edit.insert_back.Goals as goal

-- the slot is one that the bucket has
slot_lt : (c : Start) → c.args.slot < layout1.back_slots
slot_lt c = omega (arith, c.requires.rank, below-le-length c.args.member (back_list layout1 c.args.b.now), c.requires.free)

pub insert_slot-requires : goal.insert_slot-requires
insert_slot-requires c =
    let b = c.args.b.now in
    let p = c.requires in
    record {
      tags = back-room b c.args.slot p.sound.long (slot_lt (goal.at.insert_slot-requires c).Start);
      range = omega (arith, p.range);
      free = back-word-lt layout1 fits1 b (below-bytes b c.slice_known-1.given) p.sound 63 (omega (arith, p.free));
    }

pub insert_crumb-requires : goal.insert_crumb-requires
insert_crumb-requires c =
    let put = c.insert_slot in
    (crumbs-long put.new.b (put.auto.b ∙ c.requires.sound.long), omega (arith, slot_lt (goal.at.insert_crumb-requires c).Start), omega arith)

pub returns : goal.returns
returns c =
    let b = c.args.b.now in
    let x = c.args.member in
    let new = c.insert_slot.new.b in
    back-inserted layout1 fits1 b (below-bytes b c.slice_known-1.given) c.requires.sound x new c.insert_crumb.new.s c.requires.range c.requires.free
    (c.insert_slot.ensures ∙ ap (λ (k : ℕ). slot_inserted layout1 word_bytes1 (slot_end layout1 layout1.back_slots) k (x / 16) b) c.requires.rank)
    (c.insert_crumb.ensures
    ∙ ap (λ (k : ℕ). crumb_inserted k (x % 16) (take (crumb_room layout1) (drop (slot_end layout1 layout1.back_slots) new))) c.requires.rank)
