-- A backyard member, key × 16 + crumb, read back: "a front number turns into backyard numbers through this map alone, and back through
-- its inverse alone", and "each backyard member's front bucket holds 28, none larger than that member".
use Rattle.std.specs.Prelude.{◌≡◌, ℕ, ◌/◌, ◌%◌, ◌≤◌, ◌<◌, Bool, true, List, length}
use Rattle.std.proofs.Math.Option.{some}
use Rattle.multiset.specs.Multisets.{copies}
use Rattle.crumbmap.specs.Layouts.{Layout, fronts, backyards}
use Rattle.crumbmap.specs.CrumbMap.{home, bucket_of, crumb_of, allowed}
use Rattle.machine.specs.Results.{accepted}
use Rattle.machine.specs.Images.{front_at, back_at}

module _ (L : Layout) (B : ℕ) (img : List ℕ) where
  pub record LeadsHome (j y : ℕ) : Type 0 where
    -- the crumb leads back from bucket j to a front bucket
    pub front : ℕ
    pub inside : front < fronts B
    pub back : home B j (y % 16) ≡ some front
    -- whose first or second bucket, by the crumb's choice, is j
    pub choice : Bool
    pub crumb : crumb_of choice front ≡ y % 16
    pub bucket : bucket_of choice B front ≡ j
    -- where the two are one, "such a member now always carries choice 1" (C-17)
    pub carried : allowed choice B front ≡ true
    -- and which "holds 28, none larger than that member"
    pub members : List ℕ
    pub read : front_at L front img ≡ accepted members
    pub full : length members ≡ L.front_slots
    pub none-larger : (x : ℕ) → 0 < copies x members → x ≤ y / 16

  -- every backyard bucket is sound, and each of its members leads home
  abbrev pub AllLeadHome : Type 0
  AllLeadHome = (j : ℕ) → j < backyards B → (ys : List ℕ) × (back_at L B j img ≡ accepted ys) × ((y : ℕ) → 0 < copies y ys → LeadsHome j y)
