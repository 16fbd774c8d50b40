-- `merging::merge::merge_checked` meets its contract. The body takes all and the tail begins anew behind it, or the target is made fresh.
use mathlib.Core.Path.{◌≡◌, refl, sym, ◌∙◌}
use Prim.Native.Nat.{◌-◌}
use mathlib.Core.List.{◌++◌}
use lib.ListN.{length, drop}
use Rattle.crumbmap.specs.Layouts.{layout1, known}
use Rattle.form.specs.Tails.{body}
use Rattle.form.proofs.TailLaws.{length-body, length_rest}
use Rattle.tails.proofs.OpenLaws.{whole_long}
use Rattle.tails.proofs.PartLaws.{end-written, end-lent, rest_part}
use Rattle.merging.proofs.MergeSteps.{fresh-whole, fresh-taken, still-whole, fill-accepted, fill-full}
use Rattle.merging.proofs.merge.merge_checked.Goals.{After-merge_bodies}
use Rattle.merging.proofs.merge.merge_checked.Goals as goal

-- the body is as long as it was
long : (c : After-merge_bodies) → length c.merge_bodies.new.target ≡ length c.args.target.now - 64
unfolding body
long c = c.merge_bodies.auto.target ∙ length-body c.args.target.now

pub overflow_sub-end : goal.overflow_sub-end
overflow_sub-end c = whole_long c.args.target.now c.requires.1

pub slice_bounds-merge_bodies-end-2 : goal.slice_bounds-merge_bodies-end-2
unfolding body
slice_bounds-merge_bodies-end-2 c = sym (length-body c.args.target.now)

pub merge_bodies-requires : goal.merge_bodies-requires
unfolding body
merge_bodies-requires c = c.requires

pub start_tail-requires : goal.start_tail-requires
start_tail-requires c =
    let old = c.args.target.now in
    let end = length old - 64 in
    rw (
      end-lent end c.merge_bodies.new.target (drop end old) (long (goal.at.start_tail-requires c).After-merge_bodies),
      rest_part old refl,
    ) (length_rest old (whole_long old c.requires.1))

pub returns-then-merge_bodies : goal.returns-then-merge_bodies
returns-then-merge_bodies c =
    let a = c.args in
    let old = a.target.now in
    let now = c.merge_bodies.new.target in
    let end = length old - 64 in
    fill-accepted layout1 1 a.size a.total a.first.now a.second.now old c.merge_bodies.result now c.merge_bodies.ensures c.if-merge_bodies.true
    (end-written end now (drop end old) c.start_tail.new.b (long (goal.at.returns-then-merge_bodies c).After-merge_bodies) ∙ rw c.start_tail.ensures)

pub returns-in_err-fresh : goal.returns-in_err-fresh
returns-in_err-fresh c =
    let old = c.args.target.now in
    let now = c.merge_bodies.new.target in
    absurd (fresh-taken known 1 refl (now ++ drop (length old - 64) old) _
    (still-whole old now c.requires.1 (long (goal.at.returns-in_err-fresh c).After-merge_bodies)) c.in_err-fresh.ensures.answer)

pub returns : goal.returns
returns c =
    let a = c.args in
    let old = a.target.now in
    let now = c.merge_bodies.new.target in
    let left = now ++ drop (length old - 64) old in
    fill-full layout1 1 a.size a.total a.first.now a.second.now old c.merge_bodies.result now c.merge_bodies.ensures c.if-merge_bodies.false
    (c.in_ok-fresh.ensures.bytes ∙ fresh-whole known 1 refl left (still-whole old now c.requires.1 (long (goal.at.returns c).After-merge_bodies)))
