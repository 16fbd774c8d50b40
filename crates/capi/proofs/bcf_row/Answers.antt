-- `bcf_row` packs what a row of asks gives.
use mathlib.Core.Path.{◌∙◌}
use Rattle.answers.specs.Rows.{hashes}
use Rattle.packing.proofs.ResultLaws.{packs, said-rowed}
use Rattle.packing.proofs.FitLaws.{row_fits}
use Rattle.capi.proofs.bcf_row.Goals as goal

pub packed-requires : goal.packed-requires
packed-requires c =
    let a = c.args in
    packs (row_fits a.image.now (hashes a.row.now) c.row.ensures.held) (said-rowed c.row.ensures c.rowed.ensures)

pub returns-clause-value : goal.returns-clause-value
returns-clause-value c = c.packed.ensures ∙ rw (said-rowed c.row.ensures c.rowed.ensures)
