-- The invariant of every history's image, `Good`: every bucket reads as sound, the members of a bucket are a list that can stand there,
-- and a member stands in the backyard only where its front bucket is full of members that are no larger.
-- `total f x` is how often key x stands in front bucket f and in its two backyard buckets together.
use mathlib.Core.Path.{◌≡◌, refl}
use Prim.Native.Nat.{ℕ, ◌+◌, ◌*◌, ◌≤◌, ◌<◌}
use mathlib.Core.Bool.{Bool, true, false, not}
use mathlib.Core.List.{List}
use mathlib.Core.Option.{some}
use native.Mathlib.Omega.{arith}
use lib.ListN.{length}
use Rattle.buckets.specs.Buckets.{FrontList, BackList}
use Rattle.multiset.specs.Multisets.{copies, largest}
use Rattle.multiset.proofs.MultisetLaws.{hit}
use Rattle.crumbmap.specs.Layouts.{Layout, fronts, backyards}
use Rattle.crumbmap.specs.CrumbMap.{bucket_of, crumb_of}
use Rattle.machine.specs.Results.{accepted}
use Rattle.machine.specs.Images.{size_of, front_at, back_at, in_front, in_back}

module _ (L : Layout) (B : ℕ) where
  -- how often key x of front bucket f stands in its backyard bucket of a choice, in both, and anywhere
  unfoldable pub part : Bool → ℕ → ℕ → List ℕ → ℕ
  part t f x img = copies (x * 16 + crumb_of t f) (in_back L B (bucket_of t B f) img)

  abbrev pub over : ℕ → ℕ → List ℕ → ℕ
  over f x img = part true f x img + part false f x img

  abbrev pub total : ℕ → ℕ → List ℕ → ℕ
  total f x img = copies x (in_front L f img) + over f x img

  -- both, with either choice first
  pub over-choice : (t : Bool) (f x : ℕ) (img : List ℕ) → over f x img ≡ part t f x img + part (not t) f x img
  over-choice true f x img = refl
  over-choice false f x img = omega arith

  pub record Good (img : List ℕ) : Type 0 where
    pub size : size_of (length img) ≡ some B
    pub front : (f : ℕ) → f < fronts B → front_at L f img ≡ accepted (in_front L f img)
    pub front_good : (f : ℕ) → f < fronts B → FrontList L (in_front L f img)
    pub back : (j : ℕ) → j < backyards B → back_at L B j img ≡ accepted (in_back L B j img)
    pub back_good : (j : ℕ) → j < backyards B → BackList L B j (in_back L B j img)
    pub turn : (f x : ℕ) → f < fronts B → 0 < over f x img → (length (in_front L f img) ≡ L.front_slots) × (largest (in_front L f img) ≤ x)

  -- `now` has one copy more of key x of front bucket f than `old`, and is else alike; a delete is this the other way round
  pub record OneMore (f x : ℕ) (old now : List ℕ) : Type 0 where
    pub here : (y : ℕ) → total f y now ≡ hit y x + total f y old
    pub elsewhere : (e y : ℕ) → e < fronts B → (e ≡ f → ⊥) → total e y now ≡ total e y old
