-- `joining::join::merge_both` meets its contract. Both front buckets' members are listed, and both lists are put in.
use Prim.Native.Nat.{ℕ, ◌<◌}
use mathlib.Core.List.{List}
use lib.ListN.{get_or}
use Rattle.crumbmap.specs.Layouts.{layout1, fronts}
use Rattle.buckets.proofs.BucketLaws.{fits1}
use Rattle.image.proofs.ListedLaws.{listed-take}
use Rattle.listing.specs.Steps.Listings.{MembersRead}
use Rattle.joining.specs.Steps.Joins.{Checked}
use Rattle.joining.proofs.CheckedImages.{known, members-known, members-keys}
use Rattle.joining.proofs.join.merge_both.Goals as goal

-- the members of a source can be read
readable : {B f : ℕ} {img : List ℕ} → ((i : ℕ) → get_or img i 0 < 256) → Checked layout1 B img → f < fronts B → MembersRead layout1 B f img
readable bytes checked h = members-known (known fits1 bytes checked) h

pub list_members-n-requires : goal.list_members-n-requires
list_members-n-requires c =
    let p = c.requires.1 in
    (readable (λ i. (c.type_inv.first i).fits) p.from.first p.into.front, c.requires.2.first)

pub list_members-m-requires : goal.list_members-m-requires
list_members-m-requires c =
    let p = c.requires.1 in
    (readable (λ i. (c.type_inv.second i).fits) p.from.second p.into.front, c.requires.2.second)

pub join-requires : goal.join-requires
join-requires c =
    let p = c.requires.1 in
    rw (listed-take c.list_members-n.ensures, listed-take c.list_members-m.ensures) (
      c.requires.0,
      record {
        first = members-keys (readable (λ i. (c.type_inv.first i).fits) p.from.first p.into.front);
        second = members-keys (readable (λ i. (c.type_inv.second i).fits) p.from.second p.into.front);
        into = p.into;
      },
      c.requires.2.leaving,
    )
