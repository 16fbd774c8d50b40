-- `grouping::share::share_front` meets its contract: the front bucket settles the key, or b0 is read or sought in again, or all three buckets are read.
use Rattle.std.proofs.Common.{arith}
use Rattle.crumbmap.specs.Layouts.{layout1}
use Rattle.image.specs.Steps.ImageReads.{Exceeds}
use Rattle.grouping.proofs.LoneLaws.{near-shared, reach-exceeds}
use Rattle.grouping.proofs.GroupLaws.{all-shared}
use Rattle.grouping.proofs.share.share_front.Goals.{Else-key-reach}
use Rattle.grouping.proofs.share.share_front.Goals as goal

beyond : (c : Else-key-reach) → let a = c.args in Exceeds layout1 a.front.0 a.key a.image.now
beyond c =
    let a = c.args in
    reach-exceeds layout1 a.front.0 a.image.now (c.requires.2.front c.requires.3) a.key (omega (arith, c.reach.ensures.0, c.if-key-reach.false)) c.requires.1

pub returns-then-key-reach : goal.returns-then-key-reach
returns-then-key-reach c =
    let a = c.args in
    near-shared layout1 a.size a.front.0 a.key a.image.now (c.requires.2.front c.requires.3) (omega (arith, c.reach.ensures.0, c.if-key-reach.true))
    a.reads c.requires.3

pub share_first-requires : goal.share_first-requires
share_first-requires c = (c.requires.0, c.requires.1, beyond (goal.at.share_first-requires c).Else-key-reach)

pub share_again-requires : goal.share_again-requires
share_again-requires c =
    (c.requires.0, c.requires.1, beyond (goal.at.share_again-requires c).Else-key-reach, c.requires.2.first (omega (arith, c.in-2.is)))

pub returns-in_default : goal.returns-in_default
returns-in_default c = all-shared c.requires.2 c.args.key (omega (arith, c.requires.3))
