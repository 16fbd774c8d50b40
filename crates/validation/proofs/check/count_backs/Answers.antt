-- `validation::check::count_backs` meets its contract. The loop's invariant: the first unsound backyard bucket is the first from j on, and the members
-- of those before j are counted.
use mathlib.Core.Path.{◌≡◌}
use Prim.Native.Nat.{ℕ, ◌+◌}
use native.Mathlib.Nat.{sub-zero}
use native.Mathlib.Omega.{arith}
use Rattle.std.proofs.lemmas.Result.{err_from_is_err_and}
use Rattle.crumbmap.specs.Layouts.{layout1, backyards}
use Rattle.machine.specs.Images.{back_at}
use Rattle.image.proofs.ImageReadLaws.{back_in}
use Rattle.validation.proofs.CheckSteps.{counts-none, counts-on, back_on, back-stop, back_end}
use Rattle.validation.proofs.check.count_backs.Goals as goal

pub loop-j-init : goal.loop-j-init
loop-j-init c = (rw sub-zero, counts-none (λ (e : ℕ). back_at layout1 c.args.size e c.args.image.now) 22)

pub sound_back_at-requires : goal.sound_back_at-requires
unfolding backyards
sound_back_at-requires c = back_in c.requires (omega arith)

pub returns-in_err-reading : goal.returns-in_err-reading
unfolding backyards
returns-in_err-reading c =
    let a = c.args in
    let l = c.loop-j in
    let p = err_from_is_err_and c.from_residual.result c.from_residual.ensures.1 in
    rw (p.1, p.2) (back-stop layout1 a.size (backyards a.size) l.j a.image.now l.invariant.0 (omega arith) c.in_err-reading.ensures)

pub loop-j-preserved : goal.loop-j-preserved
unfolding backyards
loop-j-preserved c =
    let a = c.args in
    let l = c.loop-j in
    let t = c.in_ok-reading.ensures in (
      back_on layout1 a.size (backyards a.size) l.j a.image.now l.invariant.0 (omega arith) t.0.accepts,
      counts-on (λ (e : ℕ). back_at layout1 a.size e a.image.now) 22 l.invariant.1 t.0.accepts t.1 t.0.list.room,
    )

pub returns : goal.returns
unfolding backyards
returns c =
    let a = c.args in
    let l = c.loop-j in
    let all : l.j ≡ a.size + 7 = omega arith in
    (back_end layout1 a.size (backyards a.size) l.j a.image.now l.invariant.0 (omega arith), rw all at l.invariant.1)
