-- The two moves between document 01's form and the new one. Each target is tested for its length alone, and written by an accepted move only.
use Rattle.std.specs.Prelude.{ℕ, cond, List, ◌++◌, eqb}
use Rattle.crumbmap.specs.Layouts.{Numbering}
use Rattle.machine.specs.Results.{Result, accepted, refused, and_then, or_refused}
use Rattle.machine.specs.Images.{sized}
use Rattle.machine.specs.Checks.{check_sized}
use Rattle.form.specs.Tails.{body, tail_bytes, started, members, headed}
use Rattle.form.specs.Calls.{checked_by}

-- by the number of the layout that document 01's form has
module _ (layouts : Numbering) (n : ℕ) where
  -- "one move checks an old image and writes the new form, change count 0"
  unfoldable pub attach_of : List ℕ → List ℕ → Result (List ℕ)
  attach_of old target =
      and_then (sized old) λ B.
      and_then (sized (body target)) λ C.
      cond (eqb B C)
      (and_then (or_refused 11 (layouts n)) λ L.
      and_then (check_sized L B old) λ _.
      accepted (old ++ tail_bytes n (started (members L B old))))
      (refused 2 0)

  -- "the other checks a new one and writes the old bytes again, dropping the tail"
  unfoldable pub detach_of : List ℕ → List ℕ → Result (List ℕ)
  detach_of img target =
      and_then (sized (body img)) λ B.
      and_then (sized target) λ C.
      cond (eqb B C)
      (and_then (headed layouts B img) λ h.
      cond (eqb h.number n) (and_then (checked_by h (body img)) λ _. accepted (body img)) (refused 11 0))
      (refused 2 0)
