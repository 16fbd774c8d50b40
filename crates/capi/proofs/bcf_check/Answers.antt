-- `bcf_check` packs what a check gives.
use mathlib.Core.Path.{◌∙◌}
use Rattle.packing.proofs.ResultLaws.{within-packs}
use Rattle.packing.proofs.FitLaws.{check-fits}
use Rattle.capi.proofs.bcf_check.Goals as goal

pub packed-requires : goal.packed-requires
packed-requires c = rw (c.done.ensures, c.check.ensures) (within-packs (check-fits c.args.image.now))

pub returns : goal.returns
returns c = c.packed.ensures ∙ rw (c.done.ensures, c.check.ensures)
