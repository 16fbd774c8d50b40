-- `insertion::insert::insert_at` meets its contract. What the plan says of the machine's insert is what is written, where the total has room.
use mathlib.Core.Path.{◌≡◌, refl, ◌∙◌, ap}
use mathlib.Core.Bool.{not}
use Rattle.std.proofs.lemmas.Result.{err_from_is_err_and}
use Rattle.crumbmap.specs.Layouts.{layout1}
use Rattle.machine.specs.Machine.{insert_at}
use Rattle.image.specs.Steps.ImageReads.{FrontJoin}
use Rattle.answers.proofs.ChangeLaws.{changes}
use Rattle.tails.specs.Steps.Changing.{within}
use Rattle.tails.proofs.ChangeLaws.{within-room}
use Rattle.insertion.specs.Steps.Insertions.{Spills}
use Rattle.insertion.proofs.InsertSteps.{insert-short, plan-refused, plan-joins, plan-spills, plan-roomless}
use Rattle.insertion.proofs.insert.insert_at.Goals.{Else-not-room, In-Joins, In-Spills}
use Rattle.insertion.proofs.insert.insert_at.Goals as goal

-- the machine's insert, within that room
roomy : (c : Else-not-room) →
    let a = c.args in
    let m = insert_at layout1 a.target.size a.target.front.0 a.target.key a.image.now in
    within a.room m ≡ m
roomy c =
    let a = c.args in
    within-room a.room (insert_at layout1 a.target.size a.target.front.0 a.target.key a.image.now) (ap not c.if-not-room.false)

joins : (c : In-Joins) →
    let a = c.args in
    FrontJoin layout1 a.target.front.0 c.in-Joins.slot a.target.key a.image.now
joins c =
    let a = c.args in
    plan-joins layout1 a.target a.image.now c.in_ok-planned.ensures c.in-Joins.is

spills : (c : In-Spills) →
    let a = c.args in
    Spills layout1 a.target c.in-Spills.spilling a.image.now
spills c =
    let a = c.args in
    plan-spills layout1 a.target a.image.now c.in_ok-planned.ensures c.in-Spills.is

pub returns-in_err-planned : goal.returns-in_err-planned
returns-in_err-planned c =
    let a = c.args in
    let p = err_from_is_err_and c.from_residual.result c.from_residual.ensures.1 in
    rw (p.1, p.2) (plan-refused layout1 a.target a.image.now a.room c.in_err-planned.ensures)

pub returns-then-not-room : goal.returns-then-not-room
returns-then-not-room c =
    let a = c.args in
    rw c.if-not-room.true (plan-roomless layout1 a.target a.image.now c.in_ok-planned.planned c.in_ok-planned.ensures)

pub returns-in-Joins : goal.returns-in-Joins
returns-in-Joins c =
    let a = c.args in
    let j = joins (goal.at.returns-in-Joins c).In-Joins in
    changes (roomy (goal.at.returns-in-Joins c).Else-not-room ∙ insert-short a.target a.image.now j.read j.room)
    (record { answer = refl; bytes = c.insert_front_at.ensures })

pub returns-in-Spills : goal.returns-in-Spills
returns-in-Spills c =
    let e = c.spill.ensures in
    changes (roomy (goal.at.returns-in-Spills c).Else-not-room ∙ (spills (goal.at.returns-in-Spills c).In-Spills).insert) (record { answer = rw e.0; bytes = e.1 })
