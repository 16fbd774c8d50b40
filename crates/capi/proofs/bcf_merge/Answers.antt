-- `bcf_merge` packs what a merge gives.
use mathlib.Core.Path.{◌∙◌}
use Rattle.packing.proofs.ResultLaws.{packs, said-done}
use Rattle.packing.proofs.FitLaws.{merge-fits}
use Rattle.capi.proofs.bcf_merge.Goals as goal

pub packed-requires : goal.packed-requires
packed-requires c =
    let a = c.args in
    packs (merge-fits a.first.now a.second.now a.target.now) (said-done c.merge.ensures c.done.ensures)

pub returns-clause-value : goal.returns-clause-value
returns-clause-value c = c.packed.ensures ∙ rw (said-done c.merge.ensures c.done.ensures)
