-- `bcf_ask` packs what an ask gives.
use mathlib.Core.Path.{◌∙◌}
use Rattle.packing.proofs.ResultLaws.{within-packs}
use Rattle.packing.proofs.FitLaws.{ask-fits}
use Rattle.capi.proofs.bcf_ask.Goals as goal

pub asked-requires : goal.asked-requires
asked-requires c = rw c.ask.ensures (ask-fits c.args.image.now c.args.hash c.ranges.hash.fits)

pub packed-requires : goal.packed-requires
packed-requires c =
    rw (c.asked.ensures, c.ask.ensures) (within-packs (ask-fits c.args.image.now c.args.hash c.ranges.hash.fits))

pub returns : goal.returns
returns c = c.packed.ensures ∙ rw (c.asked.ensures, c.ask.ensures)
