-- `bcf_fresh` packs what a fresh gives.
use mathlib.Core.Path.{◌∙◌}
use Rattle.packing.proofs.ResultLaws.{packs, said-done}
use Rattle.packing.proofs.FitLaws.{fresh-fits}
use Rattle.capi.proofs.bcf_fresh.Goals as goal

pub packed-requires : goal.packed-requires
packed-requires c =
    let a = c.args in
    packs (fresh-fits a.image.now) (said-done c.fresh.ensures c.done.ensures)

pub returns-clause-value : goal.returns-clause-value
returns-clause-value c = c.packed.ensures ∙ rw (said-done c.fresh.ensures c.done.ensures)
