-- What the steps of the moves say: the size that a source and a target share, and each move once there is one.
use Rattle.std.specs.Prelude.{ℕ, cond, List, ◌++◌, eqb}
use Rattle.std.specs.Prelude as S
use Rattle.crumbmap.specs.Layouts.{layout1, known}
use Rattle.machine.specs.Results.{Result, accepted, refused, and_then}
use Rattle.machine.specs.Checks.{check_sized}
use Rattle.form.specs.Tails.{Header, body, tail_bytes, started, members, headed}
use Rattle.form.specs.Calls.{checked_by}
use Rattle.answers.specs.declared.Refusal.{Refusal}
use Rattle.answers.specs.declared.Refusal.TheVariants.{WrongLength, LengthsDiffer}

-- the size of both, 1 for either, then 2
abbrev pub shared_of : S.Option ℕ → S.Option ℕ → S.Result ℕ Refusal
shared_of S.None to = S.Err WrongLength
shared_of (S.Some B) S.None = S.Err WrongLength
shared_of (S.Some B) (S.Some C) = cond (eqb B C) (S.Ok B) (S.Err LengthsDiffer)

-- a move of an image of size B to the form with a tail
abbrev pub attach_at : ℕ → List ℕ → Result (List ℕ)
attach_at B old = and_then (check_sized layout1 B old) λ _. accepted (old ++ tail_bytes 1 (started (members layout1 B old)))

-- a body that passes the check by its header
abbrev pub body_checked : Header → List ℕ → Result (List ℕ)
body_checked h b = and_then (checked_by h b) λ _. accepted b

-- a move of an image of size B to the form without one
abbrev pub detach_at : ℕ → List ℕ → Result (List ℕ)
detach_at B img = and_then (headed known B img) λ h. cond (eqb h.number 1) (body_checked h (body img)) (refused 11 0)
