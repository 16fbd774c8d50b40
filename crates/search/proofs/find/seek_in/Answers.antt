-- `search::find::seek_in` meets its contract: a sound bucket's word has the rank of the end that is selected, and the slot found from it is the number
-- of smaller members.
use mathlib.Core.Path.{◌∙◌}
use Prim.Native.Nat.{ℕ}
use mathlib.Core.List.{List}
use native.Mathlib.Omega.{arith}
use Rattle.crumbmap.specs.Layouts.{layout1}
use Rattle.minifilter.specs.Steps.Readings.{members_of}
use Rattle.buckets.proofs.ElementLaws.{below-bytes}
use Rattle.buckets.proofs.BucketLaws.{fits1}
use Rattle.minifilter.proofs.HeldLaws.{sound-long, Held, held, held-many1}
use Rattle.search.proofs.find.seek_in.Goals.{After-shared_slice_known-1}
use Rattle.search.proofs.find.seek_in.Goals as goal

-- the members
abbrev members : After-shared_slice_known-1 → List ℕ
members c = let a = c.args in members_of layout1 a.crumbs a.b.now

known : (c : After-shared_slice_known-1) → let a = c.args in Held layout1 a.crumbs a.b.now (members c)
known c =
    let a = c.args in
    held layout1 fits1 a.crumbs a.b.now (below-bytes a.b.now c.shared_slice_known-1.given) c.requires.sound

pub word_of-requires : goal.word_of-requires
word_of-requires c = omega (arith, sound-long layout1 c.args.crumbs c.args.b.now c.requires.sound)

pub place_of-end-requires : goal.place_of-end-requires
place_of-end-requires c =
    let a = c.args in
    omega (
      arith,
      c.requires.mini,
      c.rank_before.ensures,
      held-many1 a.b.now (members (goal.at.place_of-end-requires c).After-shared_slice_known-1) c.word_of.result c.word_of.ensures a.crumbs (known (goal.at.place_of-end-requires c).After-shared_slice_known-1),
    )

pub rank_in-slot-requires : goal.rank_in-slot-requires
rank_in-slot-requires c =
    (c.requires, c.place_of-end.ensures ∙ rw (c.rank_before.ensures, c.word_of.ensures))

pub find_in-requires : goal.find_in-requires
find_in-requires c =
    let p = c.requires in
    record { sound = p.sound; mini = p.mini; low = p.low; rank = c.rank_in-slot.ensures }
