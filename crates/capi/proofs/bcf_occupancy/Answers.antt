-- `bcf_occupancy` packs what an occupancy page gives.
use mathlib.Core.Path.{◌∙◌}
use lib.ListN.{length}
use Rattle.packing.proofs.ResultLaws.{packs, said-done}
use Rattle.packing.proofs.FitLaws.{occupancy-fits}
use Rattle.capi.proofs.bcf_occupancy.Goals as goal

pub packed-requires : goal.packed-requires
packed-requires c =
    let a = c.args in
    packs (occupancy-fits a.image.now a.page (length a.out.now)) (said-done c.occupancy.ensures c.done.ensures)

pub returns-clause-value : goal.returns-clause-value
returns-clause-value c = c.packed.ensures ∙ rw (said-done c.occupancy.ensures c.done.ensures)
