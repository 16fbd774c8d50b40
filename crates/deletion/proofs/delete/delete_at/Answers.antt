-- `deletion::delete::delete_at` meets its contract. What the plan says of the machine's delete is what is written, where the total has room.
use mathlib.Core.Path.{◌≡◌, refl, ◌∙◌, ap}
use mathlib.Core.Bool.{not}
use Rattle.std.proofs.lemmas.Result.{err_from_is_err_and}
use Rattle.crumbmap.specs.Layouts.{layout1}
use Rattle.machine.specs.Machine.{delete_at}
use Rattle.answers.proofs.ChangeLaws.{changes}
use Rattle.tails.specs.Steps.Changing.{within}
use Rattle.tails.proofs.ChangeLaws.{within-room}
use Rattle.deletion.specs.Steps.Deletions.{LeavesFront, Refills, TakesOut}
use Rattle.deletion.proofs.DeleteSteps.{plan-refused, plan-leaves, plan-refills, plan-takes-out, plan-roomless}
use Rattle.deletion.proofs.delete.delete_at.Goals.{Else-not-room, In-Leaves, In-Refills, In-TakesOut}
use Rattle.deletion.proofs.delete.delete_at.Goals as goal

-- the machine's delete, within that room
roomy : (c : Else-not-room) →
    let a = c.args in
    let m = delete_at layout1 a.target.size a.target.front.0 a.target.key a.image.now in
    within a.room m ≡ m
roomy c =
    let a = c.args in
    within-room a.room (delete_at layout1 a.target.size a.target.front.0 a.target.key a.image.now) (ap not c.if-not-room.false)

leaves : (c : In-Leaves) → let a = c.args in LeavesFront layout1 a.target c.in-Leaves.slot a.image.now
leaves c = let a = c.args in plan-leaves layout1 a.target a.image.now c.in_ok-planned.ensures c.in-Leaves.is

refills : (c : In-Refills) → let a = c.args in Refills layout1 a.target c.in-Refills.refill a.image.now
refills c = let a = c.args in plan-refills layout1 a.target a.image.now c.in_ok-planned.ensures c.in-Refills.is

takes_out : (c : In-TakesOut) → let a = c.args in TakesOut layout1 a.target c.in-TakesOut.member a.image.now
takes_out c = let a = c.args in plan-takes-out layout1 a.target a.image.now c.in_ok-planned.ensures c.in-TakesOut.is

pub returns-in_err-planned : goal.returns-in_err-planned
returns-in_err-planned c =
    let a = c.args in
    let p = err_from_is_err_and c.from_residual.result c.from_residual.ensures.1 in
    rw (p.1, p.2) (plan-refused layout1 a.target a.image.now a.room c.in_err-planned.ensures)

pub returns-then-not-room : goal.returns-then-not-room
returns-then-not-room c =
    let a = c.args in
    rw c.if-not-room.true (plan-roomless layout1 a.target a.image.now c.in_ok-planned.planned c.in_ok-planned.ensures)

pub returns-in-Leaves : goal.returns-in-Leaves
returns-in-Leaves c =
    changes (roomy (goal.at.returns-in-Leaves c).Else-not-room ∙ (leaves (goal.at.returns-in-Leaves c).In-Leaves).delete) (record { answer = refl; bytes = c.remove_front_at.ensures })

pub returns-in-Refills : goal.returns-in-Refills
returns-in-Refills c =
    let e = c.refill_from.ensures in
    changes (roomy (goal.at.returns-in-Refills c).Else-not-room ∙ (refills (goal.at.returns-in-Refills c).In-Refills).delete) (record { answer = rw e.0; bytes = e.1 })

pub returns-in-TakesOut : goal.returns-in-TakesOut
returns-in-TakesOut c =
    let e = c.take_out.ensures in
    changes (roomy (goal.at.returns-in-TakesOut c).Else-not-room ∙ (takes_out (goal.at.returns-in-TakesOut c).In-TakesOut).delete) (record { answer = rw e.0; bytes = e.1 })
