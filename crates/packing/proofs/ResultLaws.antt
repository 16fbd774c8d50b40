-- Results whose number and value are within bounds: through chains, choices and searches, and as a pair of numbers.
-- Main results: within-then, within-cond, within-packs, packs; said-done, said-paged and said-rowed for what the code gives.
use mathlib.Core.Path.{◌≡◌, refl, ◌∙◌}
use Prim.Native.Nat.{ℕ, ◌^◌, ◌<◌}
use mathlib.Core.Bool.{Bool, true, false, cond}
use mathlib.Core.Option.{Option, none, some}
use mathlib.Core.List.{List}
use native.Mathlib.Omega.{arith}
use lib.ListN.{length}
use Rattle.std.specs.Prelude as S
use Rattle.crumbmap.specs.Layouts.{known}
use Rattle.machine.specs.Results.{Result, accepted, refused, and_then}
use Rattle.machine.specs.Checks.{unless}
use Rattle.machine.specs.Pages.{Run}
use Rattle.form.specs.Calls.{row_of}
use Rattle.answers.specs.Answers.{outcome_of, paged_of, Leaves, Writes}
use Rattle.answers.specs.declared.Entry.{Entry}
use Rattle.answers.specs.declared.Refusal.{Refusal}
use Rattle.answers.specs.declared.Paged.{Paged}
use Rattle.answers.specs.Pairs.{said_of, itself}
use Rattle.answers.specs.Rows.{Rows, hashes, rowed_of}
use Rattle.answers.specs.declared.pairs.Said.{Said}
use Rattle.answers.proofs.PairLaws.{said-mapped}
use Rattle.packing.specs.Packing.{Within, taken, barred, Packs, nothing, extent_word, run_word, row_word}

-- what a result within bounds says
pub within-accepted : {A : Type 0} {v : A → ℕ} {n : ℕ} {a : A} → Within v n (accepted a) → v a < n
within-accepted (taken h) = h

pub within-packs : {A : Type 0} {v : A → ℕ} {r : Result A} → Within v (2 ^ 56) r → Packs (said_of v r)
within-packs (taken h) = record { number = omega arith; value = h }
within-packs (barred m i) = record { number = m; value = i }

-- the pair of a result within bounds can be packed
pub packs : {A : Type 0} {v : A → ℕ} {r : Result A} {s : Said} → Within v (2 ^ 56) r → s ≡ said_of v r → Packs s
packs h e = rw e (within-packs h)

-- an answer that is mapped
pub within-mapped : {A C : Type 0} {v : C → ℕ} {n : ℕ} {r : Result A} (f : A → C) → Within (λ (a : A). v (f a)) n r
    → Within v n (and_then r λ a. accepted (f a))
within-mapped f (taken h) = taken h
within-mapped f (barred m i) = barred m i

-- a chain
pub within-then : {A C : Type 0} {v : A → ℕ} {w : C → ℕ} {n : ℕ} (r : Result A) (k : A → Result C) → Within v n r
    → ((a : A) → r ≡ accepted a → Within w n (k a)) → Within w n (and_then r k)
within-then (accepted a) k h g = g a refl
within-then (refused m i) k (barred p q) g = barred p q

-- a choice
pub within-cond : {A : Type 0} {v : A → ℕ} {n : ℕ} (b : Bool) (x y : Result A) → (b ≡ true → Within v n x) → (b ≡ false → Within v n y)
    → Within v n (cond b x y)
within-cond true x y g h = g refl
within-cond false x y g h = h refl

-- something found is refused
pub within-unless : {n m : ℕ} (o : Option ℕ) (r : Result (Unit {0})) → m < 256 → ((i : ℕ) → o ≡ some i → i < n) → Within nothing n r
    → Within nothing n (unless o m r)
within-unless none r h g k = k
within-unless (some i) r h g k = barred h (g i refl)

-- ---- what the code gives of a call that is m on the machine

pub said-done : {m : Result (List ℕ)} {left new : List ℕ} {r : S.Result (Unit {0}) Refusal} {s : Said} → Leaves m left r new
    → s ≡ said_of nothing (outcome_of r) → s ≡ said_of nothing m
said-done {m} c e = e ∙ rw c.answer (said-mapped nothing (λ (i : List ℕ). tt) m)

pub said-paged : {m : Result Run} {old new : List ℕ} {r : S.Result Paged Refusal} {s : Said} → Writes m old r new
    → s ≡ said_of extent_word (paged_of r) → s ≡ said_of run_word m
said-paged {m} c e = e ∙ rw c.answer (said-mapped extent_word (λ (p : Run). (length p.entries, p.next)) m)

pub said-rowed : {img : List ℕ} {old new : List Entry} {r : S.Result ℕ Refusal} {s : Said} → Rows img old r new
    → s ≡ said_of itself (rowed_of r) → s ≡ said_of row_word (row_of known img (hashes old))
said-rowed {img} {old} c e = e ∙ rw c.answer (said-mapped itself row_word (row_of known img (hashes old)))
