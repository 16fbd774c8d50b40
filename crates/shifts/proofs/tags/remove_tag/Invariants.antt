-- What holds at each turn of the loop.
use Rattle.std.proofs.Common.{◌≡◌, ◌*◌}
use Rattle.shifts.specs.Steps.Shifts.{mixed}
use Rattle.shifts.proofs.MoveLaws.{moved_down}
use Rattle.shifts.proofs.tags.remove_tag.Given as goal

abbrev pub invariant-loop-turn : goal.invariant-loop-turn
invariant-loop-turn l = l.s ≡ mixed (l.turn * 8) (mixed (l.slot * 2) l.initial.s (moved_down 2 l.initial.s)) l.initial.s
