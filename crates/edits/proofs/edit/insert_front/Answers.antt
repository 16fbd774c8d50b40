-- `edit::insert_front` meets its contract: the slot is that of the key.
use mathlib.Core.Path.{ap, ◌∙◌}
use Prim.Native.Nat.{ℕ}
use native.Mathlib.Omega.{arith}
use Rattle.crumbmap.specs.Layouts.{layout1}
use Rattle.buckets.specs.Buckets.{front_list}
use Rattle.words.specs.Steps.Wide.{word_bytes1}
use Rattle.edits.specs.Steps.Edits.{slot_inserted}
use Rattle.multiset.proofs.RankLaws.{below-le-length}
use Rattle.buckets.proofs.ElementLaws.{below-bytes}
use Rattle.buckets.proofs.BucketLaws.{fits1}
use Rattle.edits.proofs.FrontEdits.{front-room, front-word-lt, front-inserted}
use Rattle.edits.proofs.edit.insert_front.Goals as goal

pub insert_slot-requires : goal.insert_slot-requires
insert_slot-requires c =
    let b = c.args.b.now in
    let p = c.requires in
    record {
      tags = front-room b c.args.slot p.sound.long (omega (arith, p.rank, below-le-length c.args.key (front_list layout1 b), p.free));
      range = p.range;
      free = front-word-lt layout1 fits1 b (below-bytes b c.slice_known-1.given) p.sound 63 (omega (arith, p.free));
    }

pub returns : goal.returns
returns c =
    let b = c.args.b.now in
    let x = c.args.key in
    c.insert_slot.ensures ∙ ap (λ (k : ℕ). slot_inserted layout1 word_bytes1 64 k x b) c.requires.rank
    ∙ front-inserted layout1 fits1 b (below-bytes b c.slice_known-1.given) c.requires.sound x c.requires.range c.requires.free
