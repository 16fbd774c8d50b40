-- A bucket's list after a member joined it or left it: it can still stand there, and each of its crumbs is valid.
-- Main results: `front_list-added`, `front_list-removed`, `front_list-swapped`, `back_list-added`, `back_list-removed`.
use mathlib.Core.Path.{◌≡◌, refl}
use Prim.Native.Nat.{ℕ, ◌+◌, ◌*◌, ◌%◌, ◌<◌}
use mathlib.Core.Bool.{Bool, true, false, cond}
use mathlib.Core.List.{List, [], ◌∷◌}
use native.Mathlib.Omega.{arith}
use lib.ListN.{length}
use lib.Dec.{T, leb, eqb}
use mir.Facts.{and_yes, yes_and}
use Rattle.multiset.specs.Multisets.{added, removed, copies}
use Rattle.multiset.proofs.MultisetLaws.{length-added, length_removed, below-added, below-removed}
use Rattle.multiset.proofs.OrderLaws.{ascending-added, ascending-removed}
use Rattle.crumbmap.specs.Layouts.{Layout, keys, fronts}
use Rattle.crumbmap.specs.CrumbMap.{first_bucket, second_bucket, home, bucket_of, crumb_of, allowed}
use Rattle.crumbmap.proofs.CrumbMapLaws.{crumb_of-lt, home-bucket_of}
use Rattle.buckets.specs.Buckets.{is_some, valid, FrontList, BackList}
use Rattle.machine.specs.Images.{in_back}
use Rattle.machine.proofs.ChoiceLaws.{crumb-back}

-- one of two lists, by the choice
pub cond-choice : (held : Bool → List ℕ) (t : Bool) → cond t (held true) (held false) ≡ held t
cond-choice held true = refl
cond-choice held false = refl

pub in_back-choice : (L : Layout) (B f : ℕ) (img : List ℕ) (t : Bool)
    → cond t (in_back L B (first_bucket f) img) (in_back L B (second_bucket B f) img) ≡ in_back L B (bucket_of t B f) img
in_back-choice L B f img = cond-choice (λ (t : Bool). in_back L B (bucket_of t B f) img)

module _ (B j : ℕ) where
  valid-cons : (y : ℕ) (ys : List ℕ) → T (is_some (home B j (y % 16))) → T (valid B j ys) → T (valid B j (y ∷ ys))
  unfolding valid
  valid-cons y ys h v = yes_and (is_some (home B j (y % 16))) (valid B j ys) h v

  either : (b : Bool) (xs ys : List ℕ) → T (valid B j xs) → T (valid B j ys) → T (valid B j (cond b xs ys))
  either true xs ys p q = p
  either false xs ys p q = q

  valid-added : (y : ℕ) (ys : List ℕ) → T (is_some (home B j (y % 16))) → T (valid B j ys) → T (valid B j (added y ys))
  unfolding valid added
  valid-added y [] h v = valid-cons y [] h tt
  valid-added y (z ∷ zs) h v =
      let p : T (is_some (home B j (z % 16))) × T (valid B j zs) = and_yes (is_some (home B j (z % 16))) (valid B j zs) v in
      either (leb y z) (y ∷ z ∷ zs) (z ∷ added y zs) (valid-cons y (z ∷ zs) h v) (valid-cons z (added y zs) p.0 (valid-added y zs h p.1))

  valid-removed : (y : ℕ) (ys : List ℕ) → T (valid B j ys) → T (valid B j (removed y ys))
  unfolding valid removed
  valid-removed y [] v = tt
  valid-removed y (z ∷ zs) v =
      let p : T (is_some (home B j (z % 16))) × T (valid B j zs) = and_yes (is_some (home B j (z % 16))) (valid B j zs) v in
      either (eqb y z) zs (z ∷ removed y zs) p.1 (valid-cons z (removed y zs) p.0 (valid-removed y zs p.1))

module _ (L : Layout) where
  pub front_list-added : (x : ℕ) (xs : List ℕ) → FrontList L xs → x < keys L → length xs < L.front_slots → FrontList L (added x xs)
  front_list-added x xs l k r = record {
    order = ascending-added x xs l.order;
    range = below-added (keys L) x xs k l.range;
    room = omega (arith, length-added x xs);
  }

  pub front_list-removed : (x : ℕ) (xs : List ℕ) → FrontList L xs → 0 < copies x xs → FrontList L (removed x xs)
  front_list-removed x xs l c = record {
    order = ascending-removed x xs l.order;
    range = below-removed (keys L) x xs l.range;
    room = omega (arith, length_removed x xs c, l.room);
  }

  -- x gone, and y in its place
  pub front_list-swapped : (x y : ℕ) (xs : List ℕ) → FrontList L xs → 0 < copies x xs → y < keys L → FrontList L (added y (removed x xs))
  front_list-swapped x y xs l c k =
      front_list-added y (removed x xs) (front_list-removed x xs l c) k (omega (arith, length_removed x xs c, l.room))

  module _ (B f v : ℕ) (t : Bool) (ys : List ℕ) (l : BackList L B (bucket_of t B f) ys) where
    pub back_list-added : f < fronts B → allowed t B f ≡ true → v < keys L → length ys < L.back_slots
        → BackList L B (bucket_of t B f) (added (v * 16 + crumb_of t f) ys)
    back_list-added h a k r = record {
      order = ascending-added (v * 16 + crumb_of t f) ys l.order;
      range = below-added (keys L * 16) (v * 16 + crumb_of t f) ys (omega (arith, crumb_of-lt t f)) l.range;
      room = omega (arith, length-added (v * 16 + crumb_of t f) ys);
      crumbs = valid-added B (bucket_of t B f) (v * 16 + crumb_of t f) ys (rw (crumb-back t f v, home-bucket_of t B f h, a) tt) l.crumbs;
    }

    pub back_list-removed : 0 < copies (v * 16 + crumb_of t f) ys → BackList L B (bucket_of t B f) (removed (v * 16 + crumb_of t f) ys)
    back_list-removed c = record {
      order = ascending-removed (v * 16 + crumb_of t f) ys l.order;
      range = below-removed (keys L * 16) (v * 16 + crumb_of t f) ys l.range;
      room = omega (arith, length_removed (v * 16 + crumb_of t f) ys c, l.room);
      crumbs = valid-removed B (bucket_of t B f) (v * 16 + crumb_of t f) ys l.crumbs;
    }
