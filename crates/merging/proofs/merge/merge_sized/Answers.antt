-- `merging::merge::merge_sized` meets its contract. A bad tail ends the merge, the first's before the second's; else the bodies are merged.
use mathlib.Core.Path.{◌≡◌, refl, sym}
use Rattle.std.proofs.lemmas.Result.{err_from_is_err_and}
use Rattle.crumbmap.specs.Layouts.{known}
use Rattle.machine.specs.Results.{accepted}
use Rattle.form.specs.Tails.{body, headed}
use Rattle.form.specs.Calls.{merge_sized_of}
use Rattle.form.proofs.TailLaws.{length-body}
use Rattle.answers.specs.declared.Refusal.TheVariants.{BadTail}
use Rattle.tails.specs.Steps.Openings.{header_of}
use Rattle.tails.proofs.OpenLaws.{tail-bad, tail-good, whole_long}
use Rattle.tails.proofs.PartLaws.{body-part}
use Rattle.merging.proofs.MergeSteps.{same_end, told_of, merged-left}
use Rattle.merging.proofs.merge.merge_sized.Goals.{In_ok-mine, In_ok-theirs}
use Rattle.merging.proofs.merge.merge_sized.Goals as goal

-- what the tails tell
mine : (c : In_ok-mine) → let a = c.args in
    headed known a.size a.first.now ≡ accepted (header_of a.size c.in_ok-mine.mine.total c.in_ok-mine.mine.changes)
mine c =
    let a = c.args in
    tail-good a.size a.first.now c.tail_at.ensures c.in_ok-mine.ensures.ok_part

theirs : (c : In_ok-theirs) → let a = c.args in
    headed known a.size a.second.now ≡ accepted (header_of a.size c.in_ok-theirs.theirs.total c.in_ok-theirs.theirs.changes)
theirs c =
    let a = c.args in
    tail-good a.size a.second.now c.tail_at-2.ensures c.in_ok-theirs.ensures.ok_part

pub returns-in_err-mine : goal.returns-in_err-mine
unfolding merge_sized_of
returns-in_err-mine c =
    let a = c.args in
    let p = err_from_is_err_and c.from_residual.result c.from_residual.ensures.1 in
    let w = rw c.in_err-mine.ensures.ok_part at c.in_err-mine.ensures.value in
    let e : c.in_err-mine.field-0.0 ≡ BadTail = cc in
    rw (p.1, p.2, e, tail-bad a.size a.first.now c.tail_at.ensures c.in_err-mine.ensures.ok_part) record { answer = refl; bytes = refl }

pub returns-in_err-theirs : goal.returns-in_err-theirs
unfolding merge_sized_of
returns-in_err-theirs c =
    let a = c.args in
    let p = err_from_is_err_and c.from_residual-in_err-theirs.result c.from_residual-in_err-theirs.ensures.1 in
    let w = rw c.in_err-theirs.ensures.ok_part at c.in_err-theirs.ensures.value in
    let e : c.in_err-theirs.field-0.0 ≡ BadTail = cc in
    rw (
      p.1,
      p.2,
      e,
      mine (goal.at.returns-in_err-theirs c).In_ok-mine,
      tail-bad a.size a.second.now c.tail_at-2.ensures c.in_err-theirs.ensures.ok_part,
    ) record { answer = refl; bytes = refl }

pub overflow_sub-end : goal.overflow_sub-end
overflow_sub-end c = whole_long c.args.first.now c.requires.0

pub slice_bounds-merge_told-end : goal.slice_bounds-merge_told-end
unfolding body
slice_bounds-merge_told-end c = sym (length-body c.args.first.now)

pub slice_bounds-merge_told-end-2 : goal.slice_bounds-merge_told-end-2
unfolding body
slice_bounds-merge_told-end-2 c =
    let e = same_end c.args.first.now c.args.second.now c.requires.0 c.requires.1 in
    rw e (sym (length-body c.args.second.now))

pub merge_told-requires : goal.merge_told-requires
merge_told-requires c =
    let a = c.args in (
      told_of a.size a.first.now (mine (goal.at.merge_told-requires c).In_ok-mine) refl c.requires.0,
      told_of a.size a.second.now (theirs (goal.at.merge_told-requires c).In_ok-theirs) (same_end a.first.now a.second.now c.requires.0 c.requires.1) c.requires.1,
      c.requires.2,
    )

pub returns : goal.returns
returns c =
    let a = c.args in
    merged-left a.size a.first.now a.second.now a.target.now (mine (goal.at.returns c).In_ok-mine) (theirs (goal.at.returns c).In_ok-theirs) c.requires.2
    (rw (
      body-part a.first.now refl,
      body-part a.second.now (same_end a.first.now a.second.now c.requires.0 c.requires.1),
    ) at c.merge_told.ensures)
