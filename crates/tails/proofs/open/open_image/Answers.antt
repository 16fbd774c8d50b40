-- `tails::open::open_image` meets its contract: the length, then the tail.
use mathlib.Core.Path.{◌≡◌, refl, ◌∙◌}
use Prim.Native.Nat.{◌-◌}
use lib.ListN.{length}
use Rattle.std.proofs.lemmas.Result.{err_from_is_err_and}
use Rattle.machine.specs.Images.{size_of}
use Rattle.form.specs.Tails.{body}
use Rattle.answers.specs.declared.Refusal.TheVariants.{WrongLength, BadTail}
use Rattle.image.specs.Steps.ImageReads.{Whole}
use Rattle.image.proofs.ImageReadLaws.{size-some, size_none}
use Rattle.tails.proofs.OpenLaws.{form-whole, whole_long, open-wrong, open_by, tail-bad, tail-good}
use Rattle.tails.proofs.open.open_image.Goals.{In_ok-size}
use Rattle.tails.proofs.open.open_image.Goals as goal

-- the size that was found
sized : (c : In_ok-size) → Whole c.in_ok-size.size (body c.args.image.now)
sized c =
    let img = c.args.image.now in
    form-whole img (size-some (size_of (length img - 64)) c.form_size.ensures c.in_ok-size.ensures.ok_part)

pub returns-in_err-size : goal.returns-in_err-size
returns-in_err-size c =
    let img = c.args.image.now in
    let p = err_from_is_err_and c.from_residual.result c.from_residual.ensures.1 in
    let w = rw c.in_err-size.ensures.ok_part at c.in_err-size.ensures.value in
    let e : c.in_err-size.field-0.0 ≡ WrongLength = cc in
    rw (p.1, p.2, e) (open-wrong img (size_none (size_of (length img - 64)) c.form_size.ensures c.in_err-size.ensures.ok_part))

pub tail_at-requires : goal.tail_at-requires
tail_at-requires c = sized (goal.at.tail_at-requires c).In_ok-size

pub overflow_sub-result : goal.overflow_sub-result
overflow_sub-result c = whole_long c.args.image.now (sized (goal.at.overflow_sub-result c).In_ok-size)

pub returns-in_err-tail : goal.returns-in_err-tail
returns-in_err-tail c =
    let img = c.args.image.now in
    let p = err_from_is_err_and c.from_residual-in_err-tail.result c.from_residual-in_err-tail.ensures.1 in
    let w = rw c.in_err-tail.ensures.ok_part at c.in_err-tail.ensures.value in
    let e : c.in_err-tail.field-0.0 ≡ BadTail = cc in
    rw (p.1, p.2, e)
    (open_by img (sized (goal.at.returns-in_err-tail c).In_ok-size) ∙ tail-bad c.in_ok-size.size img c.tail_at.ensures c.in_err-tail.ensures.ok_part)

pub returns : goal.returns
returns c =
    let img = c.args.image.now in
    let s = sized (goal.at.returns c).In_ok-size in
    record {
      long = whole_long img s;
      end = refl;
      whole = s;
      header = tail-good c.in_ok-size.size img c.tail_at.ensures c.in_ok-tail.ensures.ok_part;
    }
