-- `joining::join::merge_front` meets its contract. The bytes of one of the two front buckets serve, or both have members.
use Prim.Native.Nat.{ℕ, ◌<◌}
use mathlib.Core.List.{List}
use lib.ListN.{get_or}
use Rattle.crumbmap.specs.Layouts.{layout1, fronts}
use Rattle.buckets.proofs.BucketLaws.{fits1}
use Rattle.image.specs.Steps.ImageReads.{FrontRead}
use Rattle.joining.specs.Steps.Joins.{Checked}
use Rattle.joining.proofs.CheckedImages.{known}
use Rattle.joining.proofs.join.merge_front.Goals as goal

-- a front bucket of a source was read
read : {B f : ℕ} {img : List ℕ} → ((i : ℕ) → get_or img i 0 < 256) → Checked layout1 B img → f < fronts B → FrontRead layout1 f img
read bytes checked h = (known fits1 bytes checked).read.front _ h

pub bucket-requires : goal.bucket-requires
bucket-requires c =
    let p = c.requires.1 in
    (read (λ i. (c.type_inv.first i).fits) p.from.first p.into.front).inside

pub count_front-requires : goal.count_front-requires
count_front-requires c =
    let p = c.requires.1 in
    rw c.bucket.ensures.0 (read (λ i. (c.type_inv.first i).fits) p.from.first p.into.front).sound

pub bucket-requires-else-count_front-eq0 : goal.bucket-requires-else-count_front-eq0
bucket-requires-else-count_front-eq0 c =
    let p = c.requires.1 in
    (read (λ i. (c.type_inv.second i).fits) p.from.second p.into.front).inside

pub count_front-requires-else-count_front-eq0 : goal.count_front-requires-else-count_front-eq0
count_front-requires-else-count_front-eq0 c =
    let p = c.requires.1 in
    rw c.bucket-else-count_front-eq0.ensures.0 (read (λ i. (c.type_inv.second i).fits) p.from.second p.into.front).sound
