-- `bcf_count` packs what a count gives.
use mathlib.Core.Path.{◌∙◌}
use Rattle.packing.proofs.ResultLaws.{within-packs}
use Rattle.packing.proofs.FitLaws.{count_fits}
use Rattle.capi.proofs.bcf_count.Goals as goal

pub counted-requires : goal.counted-requires
counted-requires c = rw c.count.ensures (count_fits c.args.image.now c.args.hash c.ranges.hash.fits)

pub packed-requires : goal.packed-requires
packed-requires c =
    rw (c.counted.ensures, c.count.ensures) (within-packs (count_fits c.args.image.now c.args.hash c.ranges.hash.fits))

pub returns : goal.returns
returns c = c.packed.ensures ∙ rw (c.counted.ensures, c.count.ensures)
