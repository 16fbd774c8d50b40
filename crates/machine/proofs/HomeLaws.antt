-- In every image that check accepts, each backyard member leads home: by its crumb back to a front bucket that has the member's bucket
-- as its first or second, holds all its slots, and holds none larger. Main results: `all-lead-home`, `accepted-lead-home`.
use mathlib.Core.Path.{◌≡◌, refl}
use Prim.Native.Nat.{ℕ, ◌/◌, ◌%◌, ◌<◌}
use mathlib.Core.Bool.{true}
use mathlib.Core.List.{List}
use mathlib.Core.Option.{Option, none, some}
use native.Mathlib.Omega.{arith}
use lib.ListN.{length}
use lib.Dec.{T}
use Rattle.multiset.specs.Multisets.{ascending}
use Rattle.multiset.proofs.OrderLaws.{largest-max}
use Rattle.crumbmap.specs.Layouts.{Layout, fronts}
use Rattle.crumbmap.specs.CrumbMap.{home}
use Rattle.crumbmap.proofs.CrumbMapLaws.{home-lt, bucket_of-home}
use Rattle.buckets.specs.Buckets.{front_members}
use Rattle.buckets.proofs.BucketLaws.{read-front}
use Rattle.machine.specs.Results.{accepted, and_then, or_refused}
use Rattle.machine.specs.Images.{size_of, bucket_at, front_at, in_front, in_back}
use Rattle.machine.specs.Checks.{home_in_turn, check_sized}
use Rattle.machine.specs.Homes.{LeadsHome, AllLeadHome}
use Rattle.machine.specs.Calls.{check_of}
use Rattle.machine.proofs.AcceptedLaws.{was-sound}
use Rattle.machine.proofs.CheckLaws.{in_turn-full, front-passed, back-passed, in-turn-passed}

module _ (L : Layout) (B : ℕ) (img : List ℕ) (checked : check_sized L B img ≡ accepted tt) where
  front-order : (f : ℕ) → f < fronts B → T (ascending (in_front L f img))
  unfolding front_at
  front-order f h =
      (read-front L (bucket_at f img) (in_front L f img)
      (was-sound f (front_members L (bucket_at f img)) (in_front L f img) (front-passed L B img checked f h))).order

  -- a member in its turn leads home
  leads-home : (j y : ℕ) (o : Option ℕ) → home B j (y % 16) ≡ o → home_in_turn L o (y / 16) img ≡ true → LeadsHome L B img j y
  leads-home j y none e t = let z : ◌≡◌ {A = ℕ} 0 1 = cc in absurd (omega arith)
  leads-home j y (some f) e t =
      let l : f < fronts B = home-lt B j (y % 16) f (omega arith) e in
      let b = bucket_of-home B j (y % 16) f (omega arith) e in
      let turn = in_turn-full L B img (y / 16) (in_front L f img) (rw (front-passed L B img checked f l) at t) in
      record {
        front = f;
        inside = l;
        back = e;
        choice = b.0;
        crumb = b.2;
        bucket = b.1;
        carried = b.3;
        members = in_front L f img;
        read = front-passed L B img checked f l;
        full = turn.0;
        none-larger = λ x c. omega (arith, largest-max x (in_front L f img) (front-order f l) c, turn.1);
      }

  pub all-lead-home : AllLeadHome L B img
  all-lead-home j h = (
    in_back L B j img,
    back-passed L B img checked j h,
    λ y c. leads-home j y (home B j (y % 16)) refl (in-turn-passed L B img checked j y h c),
  )

-- so it is in every image that the call accepts, whatever the layout
pub accepted-lead-home : (L : Layout) (img : List ℕ) → check_of L img ≡ accepted tt → (B : ℕ) × (size_of (length img) ≡ some B) × AllLeadHome L B img
unfolding check_of
accepted-lead-home L img e = go (size_of (length img)) refl e
  where
    go : (o : Option ℕ) → size_of (length img) ≡ o → and_then (or_refused 1 o) (λ (B : ℕ). check_sized L B img) ≡ accepted tt
        → (B : ℕ) × (size_of (length img) ≡ some B) × AllLeadHome L B img
    go none s c = let z : ◌≡◌ {A = ℕ} 0 1 = cc in absurd (omega arith)
    go (some B) s c = (B, s, all-lead-home L B img c)
