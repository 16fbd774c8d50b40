-- What holds at each turn of the loop.
use Rattle.std.proofs.Common.{◌≡◌, ℕ, ◌*◌, ◌≤◌, List}
use Rattle.shifts.specs.Steps.Shifts.{mixed}
use Rattle.shifts.proofs.MoveLaws.{moved_up}
use Rattle.shifts.proofs.tags.insert_tag.Given as goal

-- the bytes with the tags from `slot` on moved up, and the same but for the bytes from `end` on
abbrev pub done : ℕ → List ℕ → List ℕ
done slot xs = mixed (slot * 2) xs (moved_up 2 xs)

abbrev pub partly : ℕ → ℕ → List ℕ → List ℕ
partly slot end xs = mixed end (done slot xs) xs

abbrev pub invariant-loop-turn : goal.invariant-loop-turn
invariant-loop-turn l = (1 ≤ l.turn) × (l.s ≡ mixed (l.turn * 8) l.initial.s (partly l.slot (l.initial.turn * 8) l.initial.s))
