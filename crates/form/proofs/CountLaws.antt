-- The members of a good image, bucket by bucket, are the totals of its keys: `members-total`. Each backyard member belongs to one front bucket by
-- one choice, so none is counted twice or left out. In any image they are no more than its slots (`members-most`),
-- which are a small number: `slots_small`.
use mathlib.Core.Path.{◌≡◌, refl, sym, ◌∙◌}
use Prim.Native.Nat.{ℕ, ◌+◌, ◌*◌, ◌/◌, ◌%◌, ◌^◌, ◌≤◌, ◌<◌}
use mathlib.Core.Bool.{Bool, true, false}
use mathlib.Core.List.{List, [], ◌∷◌}
use mathlib.Core.Option.{Option, none, some}
use native.Mathlib.Omega.{arith}
use native.Mathlib.Nat.{zero-mul, mul-le-mul}
use native.Mathlib.Decide.{ℕ_discrete}
use lib.ListN.{length}
use lib.Dec.{T}
use lib.Ieee.Fits.{and_l, and_r}
use Rattle.multiset.specs.Multisets.{copies, sum, Below}
use Rattle.multiset.proofs.MultisetLaws.{copies-cons, hit_other}
use Rattle.multiset.proofs.SumLaws.{sum_alike, sum-plus, sum-most, sum-grid, sum-swap, sum-places}
use Rattle.multiset.proofs.RankLaws.{below-bounded, sum-copies}
use Rattle.crumbmap.specs.Layouts.{Layout, keys, fronts, backyards}
use Rattle.crumbmap.specs.CrumbMap.{home, bucket_of, crumb_of}
use Rattle.crumbmap.proofs.CrumbMapLaws.{bucket_of-lt, crumb_of-lt, home-lt, bucket_of-home, front-unique, choice-unique}
use Rattle.buckets.specs.Buckets.{Fits64, is_some, valid}
use Rattle.machine.specs.Results.{Result, accepted, refused}
use Rattle.machine.specs.Images.{size_of, front_at, back_at, in_front, in_back}
use Rattle.machine.specs.Machine.{occupancy}
use Rattle.machine.proofs.ImageLaws.{size_of-some}
use Rattle.machine.proofs.RoomLaws.{front_at-room, back_at-room}
use Rattle.machine.proofs.Invariant.{Good, part, over, total}
use Rattle.form.specs.Tails.{slots, members}

-- ---- no more than the slots, in any image

front-most : (L : Layout) (f : ℕ) (img : List ℕ) (r : Result (List ℕ)) → front_at L f img ≡ r → occupancy r ≤ L.front_slots
front-most L f img (accepted xs) e = front_at-room L f img xs e
front-most L f img (refused n i) e = omega arith

back-most : (L : Layout) (B j : ℕ) (img : List ℕ) (r : Result (List ℕ)) → back_at L B j img ≡ r → occupancy r ≤ L.back_slots
back-most L B j img (accepted ys) e = back_at-room L B j img ys e
back-most L B j img (refused n i) e = omega arith

pub members-most : (L : Layout) (B : ℕ) (img : List ℕ) → members L B img ≤ slots L B
unfolding members slots
members-most L B img =
    omega (
      arith,
      sum-most (λ (f : ℕ). occupancy (front_at L f img)) 0 (fronts B) L.front_slots (λ f a b. front-most L f img (front_at L f img) refl),
      sum-most (λ (j : ℕ). occupancy (back_at L B j img)) 0 (backyards B) L.back_slots (λ j a b. back-most L B j img (back_at L B j img) refl),
    )

-- ---- by front buckets and keys, in a good image

-- a member of a backyard bucket whose crumbs are valid has a home
some-home : (o : Option ℕ) → T (is_some o) → (f : ℕ) × (o ≡ some f)
some-home none h = absurd h
some-home (some f) h = (f, refl)

member-home : (B j y : ℕ) (ys : List ℕ) → T (valid B j ys) → 0 < copies y ys → (f : ℕ) × (home B j (y % 16) ≡ some f)
unfolding copies valid
member-home B j y [] v c = absurd (omega arith)
member-home B j y (z ∷ zs) v c = elim (ℕ_discrete y z) [
  | yes q ↦ rw q (some-home (home B j (z % 16)) (and_l (is_some (home B j (z % 16))) (valid B j zs) v))
  | no q ↦ member-home B j y zs (and_r (is_some (home B j (z % 16))) (valid B j zs) v) (omega (arith, copies-cons y z zs, hit_other y z q))
]

-- the length of a list is the sum of its copies
length-copies : (k : ℕ) (xs : List ℕ) → Below k xs → length xs ≡ sum (λ (x : ℕ). copies x xs) 0 k
length-copies k xs b = sym (below-bounded k xs b) ∙ sym (sum-copies k xs)

-- a place, j × 16 + c, is a backyard bucket and a crumb; that of front bucket f by a choice
place : ℕ → Bool → ℕ → ℕ
place B t f = bucket_of t B f * 16 + crumb_of t f

module _ (L : Layout) (B : ℕ) (img : List ℕ) where
  -- how often key x stands in backyard bucket j with crumb c, and at a place
  abbrev behind : ℕ → ℕ → ℕ → ℕ
  behind j x c = copies (x * 16 + c) (in_back L B j img)

  standing : ℕ → ℕ → ℕ
  standing x p = behind (p / 16) x (p % 16)

  standing-at : (x j c : ℕ) → c < 16 → standing x (j * 16 + c) ≡ behind j x c
  unfolding standing
  standing-at x j c h =
      let low : (j * 16 + c) % 16 ≡ c = omega arith in
      let high : (j * 16 + c) / 16 ≡ j = omega arith in
      rw (low, high) refl

  standing-part : (t : Bool) (f x : ℕ) → standing x (place B t f) ≡ part L B t f x img
  unfolding place part
  standing-part t f x = standing-at x (bucket_of t B f) (crumb_of t f) (crumb_of-lt t f)

-- each place is that of one choice and one front bucket
place-unique : (B : ℕ) (t u : Bool) (e f : ℕ) → e < fronts B → f < fronts B → place B t e ≡ place B u f → (t ≡ u) × (e ≡ f)
unfolding place
place-unique B t u e f h k q =
    let c : crumb_of t e ≡ crumb_of u f = omega (arith, crumb_of-lt t e, crumb_of-lt u f) in
    let b : bucket_of t B e ≡ bucket_of u B f = omega (arith, crumb_of-lt t e, crumb_of-lt u f) in
    (choice-unique t u e f c, front-unique t u B e f h k b c)

place-lt : (B : ℕ) (t : Bool) (f : ℕ) → f < fronts B → place B t f < backyards B * 16
unfolding place
place-lt B t f h = omega (arith, bucket_of-lt t B f h, crumb_of-lt t f)

module _ (L : Layout) (B : ℕ) (img : List ℕ) (good : Good L B img) where
  reached : (x p : ℕ) → p < backyards B * 16 → 0 < standing L B img x p → (t : Bool) × (f : ℕ) × (f < fronts B) × (place B t f ≡ p)
  unfolding standing place
  reached x p h s =
      let low : (x * 16 + p % 16) % 16 ≡ p % 16 = omega arith in
      let valid = (good.back_good (p / 16) (omega arith)).crumbs in
      let r : (f : ℕ) × (home B (p / 16) (p % 16) ≡ some f) =
      rw low at (member-home B (p / 16) (x * 16 + p % 16) (in_back L B (p / 16) img) valid s) in
      let at = bucket_of-home B (p / 16) (p % 16) r.0 (omega arith) r.1 in
      (at.0, r.0, home-lt B (p / 16) (p % 16) r.0 (omega arith) r.1, omega (arith, at.1, at.2))

  -- the backyard members with key x: by bucket and crumb, by place, by front bucket
  behind-key : (x : ℕ) → sum (λ (j : ℕ). sum (behind L B img j x) 0 16) 0 (backyards B) ≡ sum (λ (f : ℕ). over L B f x img) 0 (fronts B)
  behind-key x =
      sum_alike (λ (j : ℕ). sum (behind L B img j x) 0 16) (λ (j : ℕ). sum (λ (c : ℕ). standing L B img x (j * 16 + c)) 0 16) 0 (backyards B)
      (λ j a b. sum_alike (behind L B img j x) (λ (c : ℕ). standing L B img x (j * 16 + c)) 0 16
      (λ c d e. sym (standing-at L B img x j c (omega arith))))
      ∙ sym (rw (zero-mul 16) at (sum-grid (standing L B img x) 16 0 (backyards B)))
      ∙ sum-places (backyards B * 16) (place B) (fronts B) (standing L B img x) (place-lt B) (place-unique B) (reached x)
      ∙ sum_alike (λ (f : ℕ). standing L B img x (place B true f) + standing L B img x (place B false f)) (λ (f : ℕ). over L B f x img) 0 (fronts B)
      (λ f a b. omega (arith, standing-part L B img true f x, standing-part L B img false f x))

  -- those of one backyard bucket, by key and crumb
  behind-bucket : (j : ℕ) → j < backyards B → occupancy (back_at L B j img) ≡ sum (λ (x : ℕ). sum (behind L B img j x) 0 16) 0 (keys L)
  behind-bucket j h =
      rw (good.back j h)
      (length-copies (keys L * 16) (in_back L B j img) (good.back_good j h).range
      ∙ rw (zero-mul 16) at (sum-grid (λ (y : ℕ). copies y (in_back L B j img)) 16 0 (keys L)))

  behind-all : sum (λ (j : ℕ). occupancy (back_at L B j img)) 0 (backyards B)
      ≡ sum (λ (f : ℕ). sum (λ (x : ℕ). over L B f x img) 0 (keys L)) 0 (fronts B)
  behind-all =
      sum_alike (λ (j : ℕ). occupancy (back_at L B j img)) (λ (j : ℕ). sum (λ (x : ℕ). sum (behind L B img j x) 0 16) 0 (keys L)) 0 (backyards B)
      (λ j a b. behind-bucket j (omega arith))
      ∙ sum-swap (λ (j x : ℕ). sum (behind L B img j x) 0 16) 0 (backyards B) 0 (keys L)
      ∙ sum_alike (λ (x : ℕ). sum (λ (j : ℕ). sum (behind L B img j x) 0 16) 0 (backyards B))
      (λ (x : ℕ). sum (λ (f : ℕ). over L B f x img) 0 (fronts B)) 0 (keys L) (λ x a b. behind-key x)
      ∙ sum-swap (λ (x f : ℕ). over L B f x img) 0 (keys L) 0 (fronts B)

  front-all : sum (λ (f : ℕ). occupancy (front_at L f img)) 0 (fronts B)
      ≡ sum (λ (f : ℕ). sum (λ (x : ℕ). copies x (in_front L f img)) 0 (keys L)) 0 (fronts B)
  front-all =
      sum_alike (λ (f : ℕ). occupancy (front_at L f img)) (λ (f : ℕ). sum (λ (x : ℕ). copies x (in_front L f img)) 0 (keys L)) 0 (fronts B)
      (λ f a b. rw (good.front f (omega arith)) (length-copies (keys L) (in_front L f img) (good.front_good f (omega arith)).range))

  pub members-total : members L B img ≡ sum (λ (f : ℕ). sum (λ (x : ℕ). total L B f x img) 0 (keys L)) 0 (fronts B)
  unfolding members
  members-total =
      rw (front-all, behind-all)
      (sym (
      sum_alike (λ (f : ℕ). sum (λ (x : ℕ). total L B f x img) 0 (keys L))
      (λ (f : ℕ). sum (λ (x : ℕ). copies x (in_front L f img)) 0 (keys L) + sum (λ (x : ℕ). over L B f x img) 0 (keys L)) 0 (fronts B)
      (λ f a b. sum-plus (λ (x : ℕ). copies x (in_front L f img)) (λ (x : ℕ). over L B f x img) 0 (keys L))
      ∙ sum-plus (λ (f : ℕ). sum (λ (x : ℕ). copies x (in_front L f img)) 0 (keys L))
      (λ (f : ℕ). sum (λ (x : ℕ). over L B f x img) 0 (keys L)) 0 (fronts B)))

-- the slots of an image are a small number
pub slots_small : (L : Layout) → Fits64 L → (B n : ℕ) → size_of n ≡ some B → slots L B < 2 ^ 64
unfolding slots fronts backyards
slots_small L fits B n e =
    let b : B ≤ 65536 = (size_of-some n B e).2 in
    let f : L.front_slots ≤ 512 = omega (arith, fits.front) in
    let g : L.back_slots ≤ 512 = omega (arith, fits.back) in
    omega (
      arith,
      mul-le-mul {n₁ = 8 * B} {m₁ = L.front_slots} {n₂ = 524288} {m₂ = 512} (omega arith) f,
      mul-le-mul {n₁ = B + 7} {m₁ = L.back_slots} {n₂ = 65543} {m₂ = 512} (omega arith) g,
    )
