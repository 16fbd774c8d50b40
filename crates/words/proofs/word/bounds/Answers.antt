-- `words::word::bounds` meets its contract: the zeros from a mini-bucket's first bit are its members'.
use mathlib.Core.Path.{◌≡◌}
use Prim.Native.Nat.{ℕ, suc, ◌-◌, ◌/◌, ◌^◌, ◌<◌, ◌≤◌}
use native.Mathlib.Omega.{arith}
use lib.Count.{trailing_le}
use Rattle.multiset.specs.Multisets.{below}
use Rattle.crumbmap.specs.Layouts.{layout1}
use Rattle.buckets.specs.Words.{minis_in}
use Rattle.multiset.proofs.RankLaws.{below_suc}
use Rattle.words.proofs.SelectLaws.{place-minis_in, rest-minis_in}
use Rattle.words.proofs.word.bounds.Goals.{After-first_place-place}
use Rattle.words.proofs.word.bounds.Goals as goal

-- the mini-bucket's first slot
abbrev from : (c : After-first_place-place) → ℕ
from c = below c.args.mini (minis_in 64 layout1.minis c.args.word)

from_le : (c : After-first_place-place) → from c ≤ below (suc c.args.mini) (minis_in 64 layout1.minis c.args.word)
from_le c = let a = c.args in omega (arith, below_suc a.mini (minis_in 64 layout1.minis a.word))

-- the first bit is one of the 64
place-lt : (c : After-first_place-place) → c.first_place-place.result < 64
place-lt c =
    omega (arith, place-minis_in 64 layout1.minis c.args.word c.args.mini c.ranges.word.fits c.requires.full c.requires.within (from c) (from_le c))

pub overflow_shr-past : goal.overflow_shr-past
overflow_shr-past c = place-lt c

pub overflow_add-past : goal.overflow_add-past
overflow_add-past c = omega (arith, place-lt c, trailing_le 64 (c.args.word / 2 ^ c.first_place-place.result))

pub returns : goal.returns
returns c =
    let at : c.first_place-place.result - c.args.mini ≡ from c = omega arith in (
      at,
      rw (at, c.first_place-place.ensures)
          (rest-minis_in 64 layout1.minis c.args.word c.args.mini c.ranges.word.fits c.requires.full c.requires.within (from c) (omega arith) (from_le c)),
    )
