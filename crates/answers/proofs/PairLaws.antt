-- No refusal has the number of an answer; and the pair of a result is that of the machine's.
-- Main results: refusal-number, said-mapped, said-changed.
use mathlib.Core.Path.{◌≡◌, refl, ◌∙◌}
use Prim.Native.Nat.{ℕ, ◌<◌}
use native.Mathlib.Omega.{arith}
use Rattle.std.specs.Prelude as S
use Rattle.machine.specs.Results.{Result, accepted, refused, and_then, number}
use Rattle.machine.specs.Machine.{Change}
use Rattle.answers.specs.Answers.{refusal, change_of, answer_of}
use Rattle.answers.specs.declared.Refusal.{Refusal}
use Rattle.answers.specs.declared.Refusal.TheVariants.{WrongLength, LengthsDiffer, Unsound, Full, Absent, PastEnd, NoRoom, Early, Descending, BadTail, Miscounted, Spent, Changed}
use Rattle.answers.specs.Pairs.{said_of, itself, answer_value}
use Rattle.answers.specs.declared.pairs.Said.{Said}

-- no refusal has the number of an accepted call
pub refusal-number : (A : Type 0) (r : Refusal) → 0 < number (refusal {A = A} r)
refusal-number A WrongLength = omega arith
refusal-number A LengthsDiffer = omega arith
refusal-number A (Unsound i) = omega arith
refusal-number A Full = omega arith
refusal-number A Absent = omega arith
refusal-number A PastEnd = omega arith
refusal-number A NoRoom = omega arith
refusal-number A (Early i) = omega arith
refusal-number A Descending = omega arith
refusal-number A BadTail = omega arith
refusal-number A Miscounted = omega arith
refusal-number A Spent = omega arith
refusal-number A Changed = omega arith

-- the pair of a result whose answer is mapped is the pair by the mapped value
pub said-mapped : {A C : Type 0} (v : C → ℕ) (f : A → C) (m : Result A) → said_of v (and_then m (λ a. accepted (f a))) ≡ said_of (λ a. v (f a)) m
said-mapped v f (accepted a) = refl
said-mapped v f (refused n i) = refl

-- the pair of an answer is that of the call m on the machine
pub said-changed : (m : Result Change) (r : S.Result ℕ Refusal) (s : Said) → s ≡ said_of itself (change_of r) → change_of r ≡ answer_of m → s ≡ said_of answer_value m
said-changed m r s e f = e ∙ rw f (said-mapped itself answer_value m)
