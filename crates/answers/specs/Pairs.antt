-- A result as a number, 0 when accepted, and a value: "a refusal's value is its table number, else 0".
use Rattle.std.specs.Prelude.{ℕ}
use Rattle.machine.specs.Results.{Result, accepted, refused}
use Rattle.machine.specs.Machine.{Change}
use Rattle.answers.specs.Answers.{refusal}
use Rattle.answers.specs.declared.Refusal.{Refusal}
use Rattle.answers.specs.declared.pairs.Said.{Said}

-- a result by the value of its answer
abbrev pub said_of : {A : Type 0} → (A → ℕ) → Result A → Said
said_of v (accepted a) = record { number = 0; value = v a }
said_of v (refused n i) = record { number = n; value = i }

-- an answer that is a number already
abbrev pub itself : ℕ → ℕ
itself n = n

-- the answer of an insert or a delete
abbrev pub answer_value : Change → ℕ
answer_value c = c.answer

abbrev pub refusal_of : Refusal → Said
refusal_of r = said_of itself (refusal r)
