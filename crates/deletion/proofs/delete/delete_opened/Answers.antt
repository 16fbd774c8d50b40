-- `deletion::delete::delete_opened` meets its contract: 13, then the body's delete within the total's room, then the tail's new numbers.
use mathlib.Core.Path.{◌≡◌, refl}
use Prim.Native.Nat.{◌+◌, ◌-◌}
use native.Mathlib.Omega.{arith}
use lib.ListN.{take}
use lib.Dec.{ltb}
use borrow.Author.Tests.{ltb-true}
use Rattle.std.proofs.lemmas.Result.{err_from_is_err_and}
use Rattle.crumbmap.specs.Layouts.{layout1}
use Rattle.machine.specs.Results.{Result}
use Rattle.machine.specs.Machine.{Change, delete_at}
use Rattle.machine.specs.Calls as M
use Rattle.form.specs.Tails as F
use Rattle.form.specs.Tails.{Tail, lowered}
use Rattle.image.specs.declared.Target.{Target}
use Rattle.tails.specs.Steps.Changing.{tail_within}
use Rattle.tails.proofs.CallLaws.{body-long, body-placed}
use Rattle.tails.proofs.ChangeLaws.{had-room, opened_spent, opened-refused, opened-accepted}
use Rattle.deletion.proofs.DeleteSteps.{delete-entered, delete-opened, lowered-room}
use Rattle.deletion.proofs.delete.delete_opened.Goals.{Start}
use Rattle.deletion.proofs.delete.delete_opened.Goals as goal

-- the call by the body's delete at a target
module _ (s : Start) where
  abbrev tail : Tail
  tail = record { total = s.args.opened.total - 1; changes = s.args.opened.changes + 1 }

  abbrev body : Target → Result Change
  body t = delete_at layout1 t.size t.front.0 t.key (take s.args.opened.end s.args.image.now)

  abbrev adjusts : Result Tail
  adjusts = lowered (record { total = s.args.opened.total; changes = s.args.opened.changes })

-- the room that the code found is that of the total
roomed : (s : Start) → adjusts s ≡ tail_within (ltb 0 s.args.opened.total) (tail s)
roomed s = lowered-room s.args.opened.total s.args.opened.changes

pub returns-then-opened-eq-TOP : goal.returns-then-opened-eq-TOP
returns-then-opened-eq-TOP c =
    opened_spent c.requires (M.delete_of layout1 (F.body c.args.image.now) c.args.hash) (adjusts (goal.at.returns-then-opened-eq-TOP c).Start) (delete-entered c.requires c.args.hash) c.if-opened-eq-TOP.true

pub delete_at-requires : goal.delete_at-requires
delete_at-requires c = body-placed c.requires c.target_of-target.ensures

pub overflow_sub-opened : goal.overflow_sub-opened
overflow_sub-opened c =
    let t = c.target_of-target in
    let total = c.args.opened.total in
    omega (arith, ltb-true 0 total (had-room (ltb 0 total) (body (goal.at.overflow_sub-opened c).Start t.result) c.in_ok-answer.ensures refl))

pub returns-in_err-answer : goal.returns-in_err-answer
returns-in_err-answer c =
    let s = (goal.at.returns-in_err-answer c).Start in
    let t = c.target_of-target in
    let p = err_from_is_err_and c.from_residual.result c.from_residual.ensures.1 in
    rw (p.1, p.2)
    (opened-refused c.requires (body s t.result) (adjusts s) (delete-opened c.requires c.args.hash t.ensures) c.if-opened-eq-TOP.false
    (ltb 0 c.args.opened.total) (tail s) (roomed s) c.in_err-answer.ensures refl)

pub returns : goal.returns
returns c =
    let s = (goal.at.returns c).Start in
    let t = c.target_of-target in
    opened-accepted c.requires (body s t.result) (adjusts s) (delete-opened c.requires c.args.hash t.ensures) c.if-opened-eq-TOP.false
    (ltb 0 c.args.opened.total) (tail s) (roomed s) c.in_ok-answer.ensures
    (omega (arith, c.delete_at.auto, body-long c.requires)) c.write_tail.ensures refl
