-- Results: what an accepted one says of what it was made of, and that `and_then` of `and_then` goes on from the first.
-- Main results: `same_answer`, `never-refused`, `test-passed`, `was-sound`, `and_then-and_then`, `and_then-accepted`.
use mathlib.Core.Path.{◌≡◌, refl, sym}
use Prim.Native.Nat.{ℕ}
use mathlib.Core.Bool.{Bool, true, false, cond}
use mathlib.Core.List.{List}
use mathlib.Core.Option.{Option, none, some}
use native.Mathlib.Omega.{arith}
use Rattle.machine.specs.Results.{Result, accepted, refused, and_then, or_unsound}

pub same_answer : {A : Type 0} {a b : A} → accepted a ≡ accepted b → a ≡ b
same_answer e = cc

pub never-refused : {A : Type 0} {a : A} {n i : ℕ} → accepted a ≡ refused n i → ⊥
never-refused e = let z : ◌≡◌ {A = ℕ} 0 1 = cc in omega arith

-- a test before an accepted answer did not refuse it
pub test-passed : {A : Type 0} (b : Bool) (n i : ℕ) {r : Result A} {a : A} → cond b (refused n i) r ≡ accepted a → r ≡ accepted a
test-passed true n i e = absurd (never-refused (sym e))
test-passed false n i e = e

-- a bucket that was accepted was sound
pub was-sound : (i : ℕ) (o : Option (List ℕ)) (xs : List ℕ) → or_unsound i o ≡ accepted xs → o ≡ some xs
was-sound i none xs e = absurd (never-refused (sym e))
was-sound i (some ys) xs e = cc

pub and_then-and_then : {A C D : Type 0} (r : Result A) (g : A → Result C) (k : C → Result D) → and_then (and_then r g) k ≡ and_then r (λ a. and_then (g a) k)
and_then-and_then (accepted a) g k = refl
and_then-and_then (refused n i) g k = refl

-- what a chain was accepted on
pub and_then-accepted : {A C : Type 0} (r : Result A) (k : A → Result C) (c : C) → and_then r k ≡ accepted c
    → (a : A) × (r ≡ accepted a) × (k a ≡ accepted c)
and_then-accepted (accepted a) k c e = (a, refl, e)
and_then-accepted (refused n i) k c e = let z : ◌≡◌ {A = ℕ} 0 1 = cc in absurd (omega arith)
