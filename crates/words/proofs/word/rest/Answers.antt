-- `word::rest` meets its contract: the zeros from a slot's place are those of the slots from there on.
use Prim.Native.Nat.{◌+◌, ◌<◌}
use native.Mathlib.Omega.{arith}
use Rattle.crumbmap.specs.Layouts.{layout1}
use Rattle.words.proofs.SelectLaws.{place-minis_in, rest-minis_in}
use Rattle.words.proofs.word.rest.Goals.{Start}
use Rattle.words.proofs.word.rest.Goals as goal

-- the slot's place is one of the 64 bits
place-lt : (c : Start) → c.args.mini + c.args.slot < 64
place-lt c = place-minis_in 64 layout1.minis c.args.word c.args.mini c.ranges.word.fits c.requires.full c.requires.within c.args.slot c.requires.past

pub overflow_cast-result : goal.overflow_cast-result
overflow_cast-result c = omega (arith, place-lt c)

pub overflow_add-result : goal.overflow_add-result
overflow_add-result c = omega (arith, place-lt c)

pub overflow_cast-result-2 : goal.overflow_cast-result-2
overflow_cast-result-2 c = omega (arith, place-lt c)

pub overflow_shr-result : goal.overflow_shr-result
overflow_shr-result c = place-lt c

pub returns : goal.returns
returns c = rest-minis_in 64 layout1.minis c.args.word c.args.mini c.ranges.word.fits c.requires.full c.requires.within c.args.slot c.requires.from c.requires.past
