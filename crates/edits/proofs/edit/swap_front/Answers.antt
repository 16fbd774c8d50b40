-- `edit::swap_front` meets its contract: what the removal leaves is a sound bucket again, and the other key joins it.
use mathlib.Core.Path.{◌≡◌, sym, ap, ◌∙◌}
use Prim.Native.Nat.{◌<◌, ℕ}
use mathlib.Core.List.{List}
use lib.ListN.{length}
use Rattle.multiset.specs.Multisets.{added, removed, below}
use Rattle.crumbmap.specs.Layouts.{layout1}
use Rattle.buckets.specs.Buckets.{front_bytes, front_list, FrontList}
use Rattle.minifilter.specs.Steps.Readings.{SoundFront}
use Rattle.buckets.proofs.BucketLaws.{fits1}
use Rattle.buckets.proofs.ElementLaws.{below-bytes}
use Rattle.edits.proofs.FrontEdits.{front-sound, front-left}
use Rattle.edits.proofs.edit.swap_front.Goals.{After-remove_front}
use Rattle.edits.proofs.edit.swap_front.Goals as goal

abbrev rest : After-remove_front → List ℕ
rest c = let a = c.args in removed a.from (front_list layout1 a.b.now)

rest-fits : (c : After-remove_front) → FrontList layout1 (rest c) × (length (rest c) < layout1.front_slots)
rest-fits c =
    let a = c.args in
    front-left layout1 fits1 a.b.now (below-bytes a.b.now c.slice_known-1.given) c.requires.sound a.from a.at
    c.requires.inside c.requires.same

rest-sound : (c : After-remove_front)
    → SoundFront layout1 c.remove_front.new.b × (front_list layout1 c.remove_front.new.b ≡ rest c)
rest-sound c = front-sound layout1 fits1 c.remove_front.new.b (rest c) c.remove_front.ensures (rest-fits c).0

pub insert_front-requires : goal.insert_front-requires
insert_front-requires c =
    let again = rest-sound (goal.at.insert_front-requires c).After-remove_front in
    record {
      sound = again.0;
      free = rw again.1 (rest-fits (goal.at.insert_front-requires c).After-remove_front).1;
      range = c.requires.range;
      rank = c.requires.rank ∙ ap (below c.args.to) (sym again.1);
    }

pub returns : goal.returns
returns c =
    c.insert_front.ensures ∙ ap (λ (l : List ℕ). front_bytes layout1 (added c.args.to l)) (rest-sound (goal.at.returns c).After-remove_front).1
