-- `words::word::first_place` meets its contract: the end of the mini-bucket before is where select finds it.
use Prim.Native.Nat.{◌-◌}
use native.Mathlib.Omega.{arith}
use Rattle.crumbmap.specs.Layouts.{layout1}
use Rattle.words.proofs.SelectLaws.{first-minis_in, start-minis_in, select-le}
use Rattle.words.proofs.word.first_place.Goals as goal

pub returns-then-mini-eq0 : goal.returns-then-mini-eq0
returns-then-mini-eq0 c = first-minis_in 64 layout1.minis c.args.word c.args.mini c.ranges.word.fits c.requires.full c.requires.within c.if-mini-eq0.true

pub overflow_add-result : goal.overflow_add-result
overflow_add-result c = omega (arith, c.requires.place, select-le 64 c.args.word (c.args.mini - 1))

pub returns : goal.returns
returns c =
    omega (
      arith,
      c.requires.place,
      start-minis_in 64 layout1.minis c.args.word c.args.mini c.ranges.word.fits c.requires.full c.requires.within (omega arith),
    )
