-- A page in a walk, by whether the image's change count is the walk's. Main results: `unchanged-same`, `unchanged-other`, `unchanged-number`,
-- `unchanged-accepted`.
use mathlib.Core.Path.{◌≡◌, refl, sym}
use Prim.Native.Nat.{ℕ}
use mathlib.Core.Bool.{Bool, true, false, cond}
use lib.Dec.{eqb}
use borrow.Author.Tests.{eqb-true, eq-eqb, ne_eqb}
use Rattle.machine.specs.Results.{Result, accepted, refused, number}
use Rattle.machine.specs.Pages.{Run}
use Rattle.machine.proofs.AcceptedLaws.{never-refused}
use Rattle.form.specs.Calls.{unchanged}

module _ (changes n : ℕ) (m : Result Run) where
  pub unchanged-same : changes ≡ n → unchanged changes n m ≡ m
  unfolding unchanged
  unchanged-same e = rw (eq-eqb changes n e)

  pub unchanged-other : (changes ≡ n → ⊥) → unchanged changes n m ≡ refused 14 0
  unfolding unchanged
  unchanged-other d = rw (ne_eqb changes n d)

  pub unchanged-number : number (unchanged changes n m) ≡ cond (eqb changes n) (number m) 14
  unfolding unchanged
  unchanged-number = go (eqb changes n)
    where
      go : (b : Bool) → number (cond b m (refused 14 0)) ≡ cond b (number m) 14
      go true = refl
      go false = refl

  -- an accepted page brought the image's count
  pub unchanged-accepted : {r : Run} → unchanged changes n m ≡ accepted r → (changes ≡ n) × (m ≡ accepted r)
  unfolding unchanged
  unchanged-accepted {r} = go (eqb changes n) refl
    where
      go : (b : Bool) → eqb changes n ≡ b → cond b m (refused 14 0) ≡ accepted r → (changes ≡ n) × (m ≡ accepted r)
      go true q e = (eqb-true changes n q, e)
      go false q e = absurd (never-refused (sym e))
