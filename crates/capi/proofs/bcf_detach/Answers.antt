-- `bcf_detach` packs what a detach gives.
use mathlib.Core.Path.{◌∙◌}
use Rattle.packing.proofs.ResultLaws.{packs, said-done}
use Rattle.packing.proofs.FitLaws.{detach-fits}
use Rattle.capi.proofs.bcf_detach.Goals as goal

pub packed-requires : goal.packed-requires
packed-requires c =
    let a = c.args in
    packs (detach-fits a.image.now a.target.now) (said-done c.detach.ensures c.done.ensures)

pub returns-clause-value : goal.returns-clause-value
returns-clause-value c = c.packed.ensures ∙ rw (said-done c.detach.ensures c.done.ensures)
