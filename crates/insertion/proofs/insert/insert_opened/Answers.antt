-- `insertion::insert::insert_opened` meets its contract: 13, then the body's insert within the total's room, then the tail's new numbers.
use mathlib.Core.Path.{refl}
use Prim.Native.Nat.{◌+◌}
use native.Mathlib.Omega.{arith}
use lib.ListN.{take}
use lib.Dec.{ltb}
use Rattle.std.proofs.lemmas.Result.{err_from_is_err_and}
use Rattle.crumbmap.specs.Layouts.{layout1}
use Rattle.machine.specs.Results.{Result}
use Rattle.machine.specs.Machine.{Change, insert_at}
use Rattle.machine.specs.Calls as M
use Rattle.form.specs.Tails as F
use Rattle.form.specs.Tails.{Tail, raised}
use Rattle.image.specs.declared.Target.{Target}
use Rattle.tails.proofs.CallLaws.{body-long, body-placed}
use Rattle.tails.proofs.ChangeLaws.{total-low, opened_spent, opened-refused, opened-accepted}
use Rattle.insertion.proofs.InsertSteps.{insert-entered, insert-opened, raised-room}
use Rattle.insertion.proofs.insert.insert_opened.Goals.{Start}
use Rattle.insertion.proofs.insert.insert_opened.Goals as goal

-- the call by the body's insert at a target
module _ (s : Start) where
  abbrev tail : Tail
  tail = record { total = s.args.opened.total + 1; changes = s.args.opened.changes + 1 }

  abbrev body : Target → Result Change
  body t = insert_at layout1 t.size t.front.0 t.key (take s.args.opened.end s.args.image.now)

  abbrev adjusts : Result Tail
  adjusts = raised layout1 s.args.opened.size (record { total = s.args.opened.total; changes = s.args.opened.changes })

pub returns-then-opened-eq-TOP : goal.returns-then-opened-eq-TOP
returns-then-opened-eq-TOP c =
    opened_spent c.requires (M.insert_of layout1 (F.body c.args.image.now) c.args.hash) (adjusts (goal.at.returns-then-opened-eq-TOP c).Start) (insert-entered c.requires c.args.hash) c.if-opened-eq-TOP.true

pub insert_at-requires : goal.insert_at-requires
insert_at-requires c = body-placed c.requires c.target_of-target.ensures

pub overflow_add-opened : goal.overflow_add-opened
overflow_add-opened c = omega (arith, total-low c.requires)

-- the room that the code found is that of the total: `raised-room`
pub returns-in_err-answer : goal.returns-in_err-answer
returns-in_err-answer c =
    let s = (goal.at.returns-in_err-answer c).Start in
    let o = c.args.opened in
    let t = c.target_of-target in
    let p = err_from_is_err_and c.from_residual.result c.from_residual.ensures.1 in
    rw (p.1, p.2)
    (opened-refused c.requires (body s t.result) (adjusts s) (insert-opened c.requires c.args.hash t.ensures) c.if-opened-eq-TOP.false
    (ltb o.total c.slots_of.result) (tail s) (raised-room o.size o.total o.changes c.slots_of.ensures) c.in_err-answer.ensures refl)

pub returns : goal.returns
returns c =
    let s = (goal.at.returns c).Start in
    let o = c.args.opened in
    let t = c.target_of-target in
    opened-accepted c.requires (body s t.result) (adjusts s) (insert-opened c.requires c.args.hash t.ensures) c.if-opened-eq-TOP.false
    (ltb o.total c.slots_of.result) (tail s) (raised-room o.size o.total o.changes c.slots_of.ensures) c.in_ok-answer.ensures
    (omega (arith, c.insert_at.auto, body-long c.requires)) c.write_tail.ensures refl
