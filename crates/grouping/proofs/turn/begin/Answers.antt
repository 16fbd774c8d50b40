-- `grouping::turn::begin` meets its contract: a wrong length, or the state before the first entry by what the tail says (`begins`).
use Rattle.std.proofs.Common.{◌≡◌, ℕ, ◌-◌, List, length}
use mathlib.Core.Option.{some}
use Rattle.crumbmap.specs.Layouts.{known}
use Rattle.machine.specs.Results.{Result, number}
use Rattle.machine.specs.Images.{size_of}
use Rattle.form.specs.Tails.{Header, body, headed}
use Rattle.form.proofs.TailLaws.{length-body}
use Rattle.image.specs.Steps.ImageReads.{Whole}
use Rattle.image.proofs.ImageReadLaws.{size-some, size_none, whole-sized}
use Rattle.tails.proofs.OpenLaws.{form-whole, open_by}
use Rattle.grouping.specs.Steps.Grouping.{started_at, begun}
use Rattle.grouping.proofs.turn.begin.Goals.{In-Some}
use Rattle.grouping.proofs.turn.begin.Goals as goal

whole : (c : In-Some) → Whole c.in-Some.size (body c.args.image.now)
whole c = let i = c.args.image.now in form-whole i (size-some (size_of (length i - 64)) c.form_size.ensures c.in-Some.is)

begins : {B : ℕ} (img : List ℕ) {r : Result Header} → Whole B (body img) → headed known B img ≡ r → started_at 0 (some B) (number r) ≡ begun known img
begins img w e = rw (whole-sized w, open_by img w, e)

pub returns-in_default : goal.returns-in_default
returns-in_default c =
    let a = c.args.image.now in
    rw (c.started.ensures, length-body a, size_none (size_of (length a - 64)) c.form_size.ensures c.in_default.is)

pub tail_at-requires : goal.tail_at-requires
tail_at-requires c = whole c

pub returns-in-Some-tail_at : goal.returns-in-Some-tail_at
returns-in-Some-tail_at c =
    rw c.started-in-Some-tail_at.ensures (begins c.args.image.now (whole (goal.at.returns-in-Some-tail_at c).In-Some) c.in-Some-tail_at.ensures)

pub returns-in-None : goal.returns-in-None
returns-in-None c = rw c.started-in-None.ensures (begins c.args.image.now (whole (goal.at.returns-in-None c).In-Some) c.in-None.ensures)
