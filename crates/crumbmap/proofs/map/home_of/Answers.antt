-- `home_of` goes back by the crumb's choice, with its digit.
use Prim.Native.Nat.{◌<◌}
use native.Mathlib.Omega.{arith}
use Rattle.crumbmap.specs.Layouts.{backyards}
use Rattle.crumbmap.proofs.CrumbMapLaws.{home-first, home-second}
use Rattle.crumbmap.proofs.map.home_of.Goals.{Start}
use Rattle.crumbmap.proofs.map.home_of.Goals as goal

-- a backyard bucket's number is small
near : (s : Start) → s.args.from.0 < 65543
unfolding backyards
near s = omega (arith, s.requires.0, s.requires.1)

pub overflow_mul-result : goal.overflow_mul-result
overflow_mul-result c = omega (arith, near (goal.at.overflow_mul-result c).Start)

pub overflow_add-result : goal.overflow_add-result
overflow_add-result c = omega (arith, near (goal.at.overflow_add-result c).Start)

pub returns-then-choice_of-eq0 : goal.returns-then-choice_of-eq0
returns-then-choice_of-eq0 c =
    rw c.digit_of-digit.ensures
    (home-first c.args.size c.args.from.0 c.args.crumb c.requires.2 c.requires.3 (omega arith))

pub overflow_add-result-3 : goal.overflow_add-result-3
overflow_add-result-3 c = omega (arith, near (goal.at.overflow_add-result-3 c).Start, c.strides_of-strides.ensures.few, c.strides_of-strides.ensures.short)

pub returns : goal.returns
returns c =
    rw (c.strides_of-strides.ensures.rest, c.strides_of-strides.ensures.whole, c.digit_of-digit.ensures)
    (home-second c.args.size c.args.from.0 c.args.crumb c.requires.2 c.requires.3 (omega arith))
