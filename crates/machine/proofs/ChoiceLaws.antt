-- Which choice a member behind a front bucket carries: the one that an overflow takes is allowed (`chosen-allowed`), and so is that of every member
-- of a sound bucket (`member-allowed`). Where b0 = b1 none carries choice 0 (`first-bare`, `first_absent`), and one bucket less is read (`reads_same`,
-- `reads-apart`).
use mathlib.Core.Path.{◌≡◌, refl, ap}
use Prim.Native.Nat.{ℕ, ◌+◌, ◌*◌, ◌%◌, ◌≤◌, ◌<◌}
use mathlib.Core.Bool.{Bool, true, false, cond, not, false≢true}
use mathlib.Core.List.{List, [], ◌∷◌}
use mathlib.Core.Option.{none, some}
use native.Mathlib.Omega.{arith, by_contra}
use native.Mathlib.Decide.{ℕ_discrete}
use lib.Dec.{T, ltb}
use mir.Facts.{and_yes}
use borrow.Author.Tests.{ltb-true, eqb-true}
use Rattle.multiset.specs.Multisets.{copies, found_in}
use Rattle.multiset.proofs.MultisetLaws.{hit_other, copies-cons}
use Rattle.multiset.proofs.RankLaws.{found_none}
use Rattle.crumbmap.specs.Layouts.{Layout, fronts}
use Rattle.crumbmap.specs.CrumbMap.{first_bucket, second_bucket, first_crumb, bucket_of, crumb_of, coincide, allowed, home}
use Rattle.crumbmap.proofs.CrumbMapLaws.{home-bucket_of, crumb_of-lt}
use Rattle.buckets.specs.Buckets.{is_some, valid}
use Rattle.machine.specs.Results.{accepted}
use Rattle.machine.specs.Images.{back_at}
use Rattle.machine.specs.Machine.{reads_behind}
use Rattle.machine.proofs.ImageLaws.{back-sound}

-- ---- one bucket, where b0 = b1

module _ (B f : ℕ) where
  pub same-bucket : coincide B f ≡ true → first_bucket f ≡ second_bucket B f
  unfolding coincide
  same-bucket c = eqb-true (first_bucket f) (second_bucket B f) c

  pub reads_same : coincide B f ≡ true → reads_behind B f ≡ 2
  unfolding reads_behind
  reads_same c = rw c

  pub reads-apart : coincide B f ≡ false → reads_behind B f ≡ 3
  unfolding reads_behind
  reads-apart c = rw c

  range : (2 ≤ reads_behind B f) × (reads_behind B f ≤ 3)
  range = go (coincide B f) refl
    where
      go : (b : Bool) → coincide B f ≡ b → (2 ≤ reads_behind B f) × (reads_behind B f ≤ 3)
      go true c = rw (reads_same c) (omega arith, omega arith)
      go false c = rw (reads-apart c) (omega arith, omega arith)

  pub reads-least : 2 ≤ reads_behind B f
  reads-least = range.0

  pub reads-most : reads_behind B f ≤ 3
  reads-most = range.1

-- ---- the choice that takes an overflow: a tie takes Second, and one bucket ties with itself

pub chosen-allowed : (B f : ℕ) (held : ℕ → ℕ) (t : Bool) → ltb (held (first_bucket f)) (held (second_bucket B f)) ≡ t → allowed t B f ≡ true
chosen-allowed B f held false e = refl
chosen-allowed B f held true e = go (coincide B f) refl
  where
    go : (b : Bool) → coincide B f ≡ b → not b ≡ true
    go true c = absurd (omega (arith, ap held (same-bucket B f c), ltb-true (held (first_bucket f)) (held (second_bucket B f)) e))
    go false c = refl

-- ---- the choice of a member of a sound bucket

pub valid-member : (B j y : ℕ) (ys : List ℕ) → T (valid B j ys) → 0 < copies y ys → T (is_some (home B j (y % 16)))
unfolding valid copies
valid-member B j y [] v c = absurd (omega arith)
valid-member B j y (z ∷ zs) v c =
    let p = and_yes (is_some (home B j (z % 16))) (valid B j zs) v in
    elim (ℕ_discrete y z) [
      | yes q ↦ rw q p.0
      | no n ↦ valid-member B j y zs p.1 (omega (arith, copies-cons y z zs, hit_other y z n))
    ]

-- the choice's crumb, read back from a member
pub crumb-back : (t : Bool) (f v : ℕ) → (v * 16 + crumb_of t f) % 16 ≡ crumb_of t f
crumb-back t f v = omega (arith, crumb_of-lt t f)

some-allowed : (b : Bool) (f : ℕ) → T (is_some (cond b (some f) none)) → b ≡ true
some-allowed true f s = refl
some-allowed false f s = absurd s

module _ (B f : ℕ) (h : f < fronts B) where
  pub member-allowed : (t : Bool) (v : ℕ) (ys : List ℕ) → T (valid B (bucket_of t B f) ys) → 0 < copies (v * 16 + crumb_of t f) ys → allowed t B f ≡ true
  member-allowed t v ys l c =
      some-allowed (allowed t B f) f
      (rw (crumb-back t f v, home-bucket_of t B f h) at (valid-member B (bucket_of t B f) (v * 16 + crumb_of t f) ys l c))

  -- First(f) has none
  pub first-bare : coincide B f ≡ true → (v : ℕ) (ys : List ℕ) → T (valid B (first_bucket f) ys) → copies (v * 16 + first_crumb f) ys ≡ 0
  first-bare c v ys l = omega (arith, by_contra (copies (v * 16 + first_crumb f) ys) 0 (λ p. false≢true (rw c at (member-allowed true v ys l p))))

  -- in any image
  pub first_absent : (L : Layout) (img : List ℕ) → coincide B f ≡ true → (v : ℕ) (ys : List ℕ) → back_at L B (first_bucket f) img ≡ accepted ys
      → found_in (v * 16 + first_crumb f) ys ≡ none
  first_absent L img c v ys e = found_none (v * 16 + first_crumb f) ys (first-bare c v ys (back-sound L B (first_bucket f) img ys e).crumbs)
