-- `tails::fresh::fresh` meets its contract. All buckets cleared are the empty image (`cleared-all`), and the tail begins anew behind it.
use mathlib.Core.Path.{◌≡◌, refl, ◌∙◌}
use Prim.Native.Nat.{◌-◌}
use native.Mathlib.Omega.{arith}
use lib.ListN.{length, drop}
use Rattle.crumbmap.specs.Layouts.{layout1}
use Rattle.std.proofs.lemmas.Result.{err_from_is_err_and}
use Rattle.machine.specs.Images.{length_of, size_of}
use Rattle.form.specs.Tails.{body}
use Rattle.form.specs.Calls.{fresh_of}
use Rattle.form.proofs.TailLaws.{length-body, length_rest}
use Rattle.answers.specs.declared.Refusal.TheVariants.{WrongLength}
use Rattle.image.specs.Steps.ImageReads.{Whole}
use Rattle.image.proofs.ImageReadLaws.{size-some, size_none, whole-sized}
use Rattle.image.proofs.EmptyLaws.{cleared-all, empty-back1}
use Rattle.tails.proofs.OpenLaws.{form-whole, form-none, whole_long}
use Rattle.tails.proofs.PartLaws.{end-written, end-lent, rest_part}
use Rattle.tails.proofs.fresh.fresh.Goals.{After-clear_all, In_ok-size}
use Rattle.tails.proofs.fresh.fresh.Goals as goal

-- the size that was found
sized : (c : In_ok-size) → Whole c.in_ok-size.size (body c.args.image.now)
sized c =
    let img = c.args.image.now in
    form-whole img (size-some (size_of (length img - 64)) c.form_size.ensures c.in_ok-size.ensures.ok_part)

pub returns-in_err-size : goal.returns-in_err-size
unfolding fresh_of
returns-in_err-size c =
    let img = c.args.image.now in
    let p = err_from_is_err_and c.from_residual.result c.from_residual.ensures.1 in
    let w = rw c.in_err-size.ensures.ok_part at c.in_err-size.ensures.value in
    let e : c.in_err-size.field-0.0 ≡ WrongLength = cc in
    let n = form-none img (size_none (size_of (length img - 64)) c.form_size.ensures c.in_err-size.ensures.ok_part) in
    rw (p.1, p.2, e) record { answer = rw n; bytes = rw n }

pub overflow_sub-end : goal.overflow_sub-end
overflow_sub-end c = whole_long c.args.image.now (sized c)

pub overflow_mul-size : goal.overflow_mul-size
overflow_mul-size c = omega (arith, (sized (goal.at.overflow_mul-size c).In_ok-size).small)

pub overflow_add-size : goal.overflow_add-size
overflow_add-size c = omega (arith, (sized (goal.at.overflow_add-size c).In_ok-size).small)

pub clear_all-requires : goal.clear_all-requires
unfolding body length_of
clear_all-requires c = omega (arith, (sized (goal.at.clear_all-requires c).In_ok-size).long)

long : (c : After-clear_all) → length c.clear_all.new.image ≡ length c.args.image.now - 64
unfolding body
long c = omega (arith, c.clear_all.auto.image, length-body c.args.image.now)

pub start_tail-requires : goal.start_tail-requires
start_tail-requires c =
    let img = c.args.image.now in
    rw (end-lent (length img - 64) c.clear_all.new.image (drop (length img - 64) img) (long (goal.at.start_tail-requires c).After-clear_all), rest_part img refl) (length_rest img (whole_long img (sized (goal.at.start_tail-requires c).In_ok-size)))

pub returns : goal.returns
unfolding fresh_of
returns c =
    let img = c.args.image.now in
    let e = whole-sized (sized (goal.at.returns c).In_ok-size) in
    record {
      answer = rw e;
      bytes =
          end-written (length img - 64) c.clear_all.new.image (drop (length img - 64) img) c.start_tail.new.b (long (goal.at.returns c).After-clear_all)
          ∙ rw (e, c.start_tail.ensures, c.clear_all.ensures, cleared-all layout1 empty-back1 c.in_ok-size.size);
    }
