-- `minifilter::quick::passes_back` meets its contract: what it says of a bucket that passes (`passed-back`).
use mathlib.Core.Bool.{false≢true}
use native.Mathlib.Omega.{arith}
use Rattle.buckets.proofs.ElementLaws.{below-bytes}
use Rattle.minifilter.proofs.QuickLaws.{full-word, bits-lt}
use Rattle.minifilter.proofs.RiseLaws.{passed-back}
use Rattle.minifilter.proofs.quick.passes_back.Goals as goal

pub occupancy-members-requires : goal.occupancy-members-requires
occupancy-members-requires c =
    full-word c.args.word c.args.bits c.ranges.word.fits c.requires.1.borders c.requires.1.leads

-- what fails says nothing
pub returns-then-members-gt-BACK_SLOTS : goal.returns-then-members-gt-BACK_SLOTS
returns-then-members-gt-BACK_SLOTS c e = absurd (false≢true e)

pub tags_rise-requires : goal.tags_rise-requires
tags_rise-requires c = (
  c.requires.0,
  bits-lt c.args.word c.args.bits c.ranges.word.fits c.requires.1.borders c.requires.1.leads,
  omega (arith, c.if-members-gt-BACK_SLOTS.false),
)

pub returns-then-rest_zero : goal.returns-then-rest_zero
returns-then-rest_zero c e =
    let b = c.args.b.now in
    passed-back b c.requires.0 (below-bytes b c.shared_slice_known-1.given) c.args.word c.args.bits c.ranges.word.fits
    c.requires.1.borders c.requires.1.leads c.occupancy-members.result c.occupancy-members.ensures.0 (omega (arith, c.if-members-gt-BACK_SLOTS.false))
    (c.rest_zero.ensures c.if-rest_zero.true) (c.tags_rise.ensures e)

pub returns : goal.returns
returns c e = absurd (false≢true e)
