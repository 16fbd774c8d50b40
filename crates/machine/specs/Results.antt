-- What a call gives: an answer, or a refusal. A refusal has no image in it: what is refused has written nothing.
use Rattle.std.specs.Prelude.{ℕ, List}
use Rattle.std.proofs.Math.Option.{Option, none, some}

-- an answer, or a number "a caller may get" with the table number beside it, 0 where there is none
pub data Result (A : Type 0) : Type 0 where
  accepted : A → Result A
  refused : ℕ → ℕ → Result A

-- goes on with an answer
abbrev pub and_then : {A C : Type 0} → Result A → (A → Result C) → Result C
and_then (accepted a) k = k a
and_then (refused n i) k = refused n i

-- "a call is accepted when it is refused with none of the numbers": the number of a result, 0 when accepted
abbrev pub number : {A : Type 0} → Result A → ℕ
number (accepted a) = 0
number (refused n i) = n

-- "3 and table number": what was decoded, or the refusal of an unsound bucket
abbrev pub or_unsound : ℕ → Option (List ℕ) → Result (List ℕ)
or_unsound i none = refused 3 i
or_unsound i (some xs) = accepted xs

-- what was found, or a refusal
abbrev pub or_refused : {A : Type 0} → ℕ → Option A → Result A
or_refused n none = refused n 0
or_refused n (some a) = accepted a
