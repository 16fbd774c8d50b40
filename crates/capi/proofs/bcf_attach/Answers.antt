-- `bcf_attach` packs what an attach gives.
use mathlib.Core.Path.{◌∙◌}
use Rattle.packing.proofs.ResultLaws.{packs, said-done}
use Rattle.packing.proofs.FitLaws.{attach-fits}
use Rattle.capi.proofs.bcf_attach.Goals as goal

pub packed-requires : goal.packed-requires
packed-requires c =
    let a = c.args in
    packs (attach-fits a.old.now a.target.now) (said-done c.attach.ensures c.done.ensures)

pub returns-clause-value : goal.returns-clause-value
returns-clause-value c = c.packed.ensures ∙ rw (said-done c.attach.ensures c.done.ensures)
