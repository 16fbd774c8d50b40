-- `bcf_page` packs what a page gives.
use mathlib.Core.Path.{◌∙◌}
use lib.ListN.{length}
use Rattle.machine.specs.Pages.{Run}
use Rattle.packing.proofs.ResultLaws.{within-mapped, packs, said-paged}
use Rattle.packing.proofs.FitLaws.{page-fits}
use Rattle.capi.proofs.bcf_page.Goals as goal

pub paged-requires : goal.paged-requires
paged-requires c =
    let a = c.args in
    rw c.page.ensures.answer
    (within-mapped (λ (r : Run). (length r.entries, r.next)) (page-fits a.image.now a.start a.changes (length a.out.now)))

pub packed-requires : goal.packed-requires
packed-requires c =
    let a = c.args in
    packs (page-fits a.image.now a.start a.changes (length a.out.now)) (said-paged c.page.ensures c.paged.ensures)

pub returns-clause-value : goal.returns-clause-value
returns-clause-value c = c.packed.ensures ∙ rw (said-paged c.page.ensures c.paged.ensures)
