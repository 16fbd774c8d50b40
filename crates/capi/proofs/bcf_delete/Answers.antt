-- `bcf_delete` packs what a delete gives.
use mathlib.Core.Path.{◌≡◌, ◌∙◌}
use Rattle.crumbmap.specs.Layouts.{known}
use Rattle.form.specs.Calls.{delete_of}
use Rattle.answers.specs.Pairs.{said_of, answer_value}
use Rattle.answers.proofs.PairLaws.{said-changed}
use Rattle.packing.proofs.ResultLaws.{packs}
use Rattle.packing.proofs.FitLaws.{delete-fits}
use Rattle.capi.proofs.bcf_delete.Goals.{After-from}
use Rattle.capi.proofs.bcf_delete.Goals as goal

-- the number and the value of the answer
said : (c : After-from) → c.from.result ≡ said_of answer_value (delete_of known c.args.image.now c.args.hash)
said c =
    said-changed (delete_of known c.args.image.now c.args.hash) c.delete.result _ c.from.ensures c.delete.ensures.answer

pub packed-requires : goal.packed-requires
packed-requires c = packs (delete-fits c.args.image.now c.args.hash c.ranges.hash.fits) (said c)

pub returns-clause-value : goal.returns-clause-value
returns-clause-value c = c.packed.ensures ∙ rw (said (goal.at.returns-clause-value c).After-from)
