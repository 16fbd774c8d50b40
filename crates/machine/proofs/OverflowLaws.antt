-- First(f) and Second(f) of a good image, and the two together: `over` counts them, they ascend, and their keys are in range.
-- Main results: `copies-overflow_in`, `ascending-overflow_in`, `below-overflow_in`; f's two backyard buckets read, `backyard-good`.
use mathlib.Core.Path.{◌≡◌, ap₂, ◌∙◌}
use Prim.Native.Nat.{ℕ, ◌+◌, ◌<◌}
use mathlib.Core.Bool.{Bool, true, false}
use mathlib.Core.List.{List}
use lib.Dec.{T}
use Rattle.multiset.specs.Multisets.{copies, ascending, Below}
use Rattle.crumbmap.specs.Layouts.{Layout, keys, fronts}
use Rattle.crumbmap.specs.CrumbMap.{bucket_of, crumb_of}
use Rattle.crumbmap.proofs.CrumbMapLaws.{bucket_of-lt, crumb_of-lt}
use Rattle.buckets.specs.Buckets.{BackList}
use Rattle.machine.specs.Results.{accepted}
use Rattle.machine.specs.Images.{back_at, in_back}
use Rattle.machine.specs.Machine.{backyard, bag_in, overflow_in}
use Rattle.machine.proofs.BagLaws.{copies-added_all, ascending-added_all, below-added_all}
use Rattle.buckets.proofs.CarryLaws.{copies-carrying, ascending-carrying, below-carrying}
use Rattle.machine.proofs.Invariant.{part, over, Good}

module _ (L : Layout) (B f : ℕ) (img : List ℕ) where
  pub copies-bag_in : (t : Bool) (y : ℕ) → copies y (bag_in L B f t img) ≡ part L B t f y img
  unfolding part
  copies-bag_in t y = copies-carrying y (crumb_of t f) (in_back L B (bucket_of t B f) img) (crumb_of-lt t f)

  pub copies-overflow_in : (y : ℕ) → copies y (overflow_in L B f img) ≡ over L B f y img
  copies-overflow_in y =
      copies-added_all y (bag_in L B f true img) (bag_in L B f false img) ∙ ap₂ ◌+◌ (copies-bag_in true y) (copies-bag_in false y)

module _ (L : Layout) (B f : ℕ) (img : List ℕ) (good : Good L B img) (h : f < fronts B) where
  -- f's backyard bucket of a choice
  pub bucket_of-read : (t : Bool) → back_at L B (bucket_of t B f) img ≡ accepted (in_back L B (bucket_of t B f) img)
  bucket_of-read t = good.back (bucket_of t B f) (bucket_of-lt t B f h)

  pub backyard-good : backyard L B f img ≡ accepted (in_back L B (bucket_of true B f) img, in_back L B (bucket_of false B f) img)
  backyard-good = rw (bucket_of-read true, bucket_of-read false)

  pub bucket_of-list : (t : Bool) → BackList L B (bucket_of t B f) (in_back L B (bucket_of t B f) img)
  bucket_of-list t = good.back_good (bucket_of t B f) (bucket_of-lt t B f h)

  pub ascending-overflow_in : T (ascending (overflow_in L B f img))
  ascending-overflow_in =
      ascending-added_all (bag_in L B f true img) (bag_in L B f false img)
      (ascending-carrying (crumb_of false f) (in_back L B (bucket_of false B f) img) (bucket_of-list false).order)

  pub below-overflow_in : Below (keys L) (overflow_in L B f img)
  below-overflow_in = below-added_all (keys L) (bag_in L B f true img) (bag_in L B f false img) (each true) (each false)
    where
      each : (t : Bool) → Below (keys L) (bag_in L B f t img)
      each t = below-carrying (keys L) (crumb_of t f) (in_back L B (bucket_of t B f) img) (bucket_of-list t).range
