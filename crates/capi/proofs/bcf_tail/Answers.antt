-- `bcf_tail` packs what a tail gives, and its output is the one that `tailed` leaves.
use mathlib.Core.Path.{◌∙◌}
use lib.ListN.{length}
use Rattle.packing.proofs.ResultLaws.{within-packs}
use Rattle.packing.proofs.FitLaws.{tail-fits}
use Rattle.capi.proofs.bcf_tail.Goals as goal

pub packed-requires : goal.packed-requires
packed-requires c =
    let a = c.args in
    rw (c.tailed.ensures.value, c.tail.ensures) (within-packs (tail-fits a.image.now (length a.out.now)))

pub returns : goal.returns
returns c =
    record { value = c.packed.ensures ∙ rw (c.tailed.ensures.value, c.tail.ensures); out_after = c.tailed.ensures.out_after ∙ rw c.tail.ensures }
