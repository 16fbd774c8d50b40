-- An insert or a delete of the body where the tail's total may stand at its bound: "after 4 and 5" it is refused with 12 there.
use Rattle.std.specs.Prelude.{Bool, cond}
use Rattle.machine.specs.Results.{Result, accepted, refused, and_then}
use Rattle.machine.specs.Machine.{Change}
use Rattle.form.specs.Tails.{Tail}

-- a change `m` of the body, for which the total has room or not
unfoldable pub within : Bool → Result Change → Result Change
within room m = and_then m λ c. cond room (accepted c) (refused 12 0)

-- the tail after it
abbrev pub tail_within : Bool → Tail → Result Tail
tail_within room t = cond room (accepted t) (refused 12 0)
