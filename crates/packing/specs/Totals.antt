-- What the tail of an image tells (C-14), as numbers in an output: the total, then the change count.
use Rattle.std.specs.Prelude.{ℕ, cond, List, [], ◌∷◌, ltb}
use Rattle.crumbmap.specs.Layouts.{Numbering}
use Rattle.machine.specs.Results.{Result, accepted, refused, and_then}
use Rattle.form.specs.Tails.{Tail}
use Rattle.form.specs.Calls.{tail_of}

-- for an output with room for so many, 7 where that is fewer than two
abbrev pub told_into : Result Tail → ℕ → Result (List ℕ)
told_into r room = and_then r λ t. cond (ltb room 2) (refused 7 0) (accepted (t.total ∷ t.changes ∷ []))

-- 1, 11, then 7
abbrev pub tail_into : Numbering → List ℕ → ℕ → Result (List ℕ)
tail_into layouts img room = told_into (tail_of layouts img) room
