-- The map and its way back undo each other, for every choice that a front bucket's members may carry; numbers are in range; no two front buckets
-- share a (bucket, crumb). Main results: `home-bucket_of`, `bucket_of-home`, `home-first`, `home-second`, `bucket_of-lt`, `crumb_of-lt`, `home-lt`,
-- `front-unique`, `choice-unique`.
use mathlib.Core.Path.{◌≡◌, refl, sym, ◌∙◌}
use Prim.Native.Nat.{ℕ, zero, suc, ◌+◌, ◌*◌, ◌/◌, ◌%◌, ◌≤◌, ◌<◌}
use mathlib.Core.Bool.{Bool, true, false, cond, not, ◌&&◌}
use mathlib.Core.Option.{none, some}
use native.Mathlib.Nat.{mul-le-mul_right, mod-add-div'}
use native.Mathlib.Omega.{arith}
use lib.Dec.{ltb}
use borrow.Author.Tests.{lt-ltb, ltb-true}
use Rattle.crumbmap.specs.Layouts.{fronts, backyards}
use Rattle.crumbmap.specs.CrumbMap.{stride, first_bucket, first_crumb, second_bucket, second_crumb, bucket_of, crumb_of, coincide, allowed, first_home, second_home, home}
use Rattle.crumbmap.specs.Steps.Places.{Splits, Homed}
use Rattle.crumbmap.proofs.TestLaws.{both_true}
use Rattle.crumbmap.proofs.StrideLaws.{second-quotient, second-remainder}
use Rattle.crumbmap.proofs.SplitLaws.{split, home_by, home-split}

pub bucket_of-lt : (t : Bool) (B f : ℕ) → f < fronts B → bucket_of t B f < backyards B
unfolding first_bucket first_crumb second_bucket stride fronts backyards
bucket_of-lt true B f h = omega arith
bucket_of-lt false B f h = let d : f % 8 ≤ 7 = omega arith in omega (arith, mul-le-mul_right (stride B) d)

pub crumb_of-lt : (t : Bool) (f : ℕ) → crumb_of t f < 16
unfolding first_bucket first_crumb second_crumb
crumb_of-lt true f = omega arith
crumb_of-lt false f = omega arith

-- ---- back of map

-- "choice 0 with d0", "choice 1 with d1"
first-splits : (f : ℕ) → Splits (first_crumb f) (record { 0 = 0; 1 = f % 8 })
unfolding first_crumb
first-splits f = omega arith

second-splits : (f : ℕ) → Splits (second_crumb f) (record { 0 = 1; 1 = f / 8 % 8 })
unfolding first_bucket second_crumb
second-splits f = omega arith

-- back of map is the front bucket, by choice 1 always and by choice 0 where its two buckets differ
pub home-bucket_of : (t : Bool) (B f : ℕ) → f < fronts B → home B (bucket_of t B f) (crumb_of t f) ≡ cond (allowed t B f) (some f) none
unfolding first_bucket first_crumb second_bucket stride fronts first_home second_home
home-bucket_of true B f h =
    let b : f / 8 < B = omega arith in
    let e : 8 * (f / 8) + f % 8 ≡ f = omega arith in
    home-split (first-splits f) B (f / 8) ∙ rw (lt-ltb _ _ b, e)
home-bucket_of false B f h =
    let K : ℕ = stride B in
    let t : ℕ = f / 8 / 8 in
    let small : t < K = omega arith in
    let e : f % 8 < 8 = omega arith in
    let b : 8 * t + f / 8 % 8 < B = omega arith in
    let s : 64 * t + 8 * (f / 8 % 8) + f % 8 ≡ f = omega arith in
    home-split (second-splits f) B (t + f % 8 * K)
    ∙ rw (second-quotient K t (f % 8) small, second-remainder K t (f % 8) small, lt-ltb _ _ e, lt-ltb _ _ b, s)

-- ---- map of back

cond-some : (b : Bool) (x f : ℕ) → cond b (some x) none ≡ some f → (b ≡ true) × (x ≡ f)
cond-some true x f e = (refl, cc)
cond-some false x f e = let z : ◌≡◌ {A = ℕ} 0 1 = cc in absurd (omega arith)

-- a crumb that is valid leads home by its choice, with its digit
data Valid (B j c f : ℕ) : Type 0 where
  by_first : c / 8 ≡ 0 → j < B → not (coincide B f) ≡ true → 8 * j + c % 8 ≡ f → Valid B j c f
  by-second : c / 8 ≡ 1 → j / stride B < 8 → 8 * (j % stride B) + c % 8 < B → 64 * (j % stride B) + 8 * (c % 8) + j / stride B ≡ f → Valid B j c f

home-valid : (B j c f : ℕ) → c < 16 → home B j c ≡ some f → Valid B j c f
unfolding first_home second_home
home-valid B j c f l e = go (c / 8) refl (sym (home-split (split c l) B j) ∙ e)
  where
    go : (k : ℕ) → c / 8 ≡ k → home_by k B j (c % 8) ≡ some f → Valid B j c f
    go zero z g =
        let h = cond-some (ltb j B && not (coincide B (8 * j + c % 8))) (8 * j + c % 8) f g in
        let b = both_true _ _ h.0 in
        by_first z (ltb-true j B b.0) (rw h.1 at b.1) h.1
    go (suc k) z g =
        let h = cond-some _ (64 * (j % stride B) + 8 * (c % 8) + j / stride B) f g in
        let b = both_true _ _ h.0 in
        by-second (omega arith) (ltb-true _ _ b.0) (ltb-true _ _ b.1) h.1

pub home-lt : (B j c f : ℕ) → c < 16 → home B j c ≡ some f → f < fronts B
unfolding fronts
home-lt B j c f l e = go (home-valid B j c f l e)
  where
    go : Valid B j c f → f < 8 * B
    go (by_first z b a s) = omega arith
    go (by-second z b d s) = omega arith

-- where a crumb is valid, its choice and digit settle the front bucket
module _ (B j c : ℕ) (l : c < 16) (homed : Homed B j c) where
  pub home-first : c / 8 ≡ 0 → home B j c ≡ some (8 * j + c % 8)
  home-first k = go (home-valid B j c homed.0 l homed.1)
    where
      go : Valid B j c homed.0 → home B j c ≡ some (8 * j + c % 8)
      go (by_first z b a s) = rw s homed.1
      go (by-second z b d s) = absurd (omega arith)

  pub home-second : c / 8 ≡ 1 → home B j c ≡ some (64 * (j % stride B) + 8 * (c % 8) + j / stride B)
  home-second k = go (home-valid B j c homed.0 l homed.1)
    where
      go : Valid B j c homed.0 → home B j c ≡ some (64 * (j % stride B) + 8 * (c % 8) + j / stride B)
      go (by_first z b a s) = absurd (omega arith)
      go (by-second z b d s) = rw s homed.1

-- map of back, where valid, is the bucket and the crumb, by one of the choices that f's members may carry
pub bucket_of-home : (B j c f : ℕ) → c < 16 → home B j c ≡ some f → (t : Bool) × (bucket_of t B f ≡ j) × (crumb_of t f ≡ c) × (allowed t B f ≡ true)
unfolding first_bucket first_crumb second_bucket second_crumb
bucket_of-home B j c f l e = go (home-valid B j c f l e)
  where
    go : Valid B j c f → (t : Bool) × (bucket_of t B f ≡ j) × (crumb_of t f ≡ c) × (allowed t B f ≡ true)
    go (by_first z b a s) = (true, omega arith, omega arith, a)
    go (by-second z b d s) =
        let q : f / 8 / 8 ≡ j % stride B = omega arith in
        let r : f % 8 ≡ j / stride B = omega arith in
        (false, rw (q, r) (mod-add-div' j (stride B)), omega arith, refl)

-- two different front buckets never share a (bucket, crumb)
pub front-unique : (t u : Bool) (B e f : ℕ) → e < fronts B → f < fronts B → bucket_of t B e ≡ bucket_of u B f → crumb_of t e ≡ crumb_of u f → e ≡ f
unfolding first_bucket first_crumb second_crumb
front-unique true true B e f h k p q = omega arith
front-unique true false B e f h k p q = absurd (omega arith)
front-unique false true B e f h k p q = absurd (omega arith)
front-unique false false B e f h k p q =
    let back : home B (second_bucket B f) (second_crumb f) ≡ some e = rw (← p, ← q) (home-bucket_of false B e h) in
    let there = home-bucket_of false B f k in
    cc

-- a crumb tells its choice
pub choice-unique : (t u : Bool) (e f : ℕ) → crumb_of t e ≡ crumb_of u f → t ≡ u
unfolding first_bucket first_crumb second_crumb
choice-unique true true e f q = refl
choice-unique true false e f q = absurd (omega arith)
choice-unique false true e f q = absurd (omega arith)
choice-unique false false e f q = refl
