-- `validation::check::count_fronts` meets its contract. The loop's invariant: the first unsound front bucket is the first from f on, and the members
-- of those before f are counted: their slots less the free ones.
use mathlib.Core.Path.{◌≡◌}
use Prim.Native.Nat.{ℕ, ◌+◌, ◌*◌, ◌-◌}
use native.Mathlib.Nat.{sub-zero}
use native.Mathlib.Omega.{arith}
use Rattle.std.proofs.lemmas.Result.{err_from_is_err_and}
use Rattle.crumbmap.specs.Layouts.{layout1, fronts}
use Rattle.machine.specs.Images.{front_at}
use Rattle.image.proofs.ImageReadLaws.{front-in}
use Rattle.validation.proofs.CheckSteps.{counts-none, counts-on, front-on, front-stop, front-end}
use Rattle.validation.proofs.check.count_fronts.Goals as goal

pub loop-f-init : goal.loop-f-init
loop-f-init c = (omega arith, rw sub-zero, counts-none (λ (e : ℕ). front_at layout1 e c.args.image.now) 28)

pub sound_front_at-requires : goal.sound_front_at-requires
unfolding fronts
sound_front_at-requires c = front-in (record { whole = c.requires; front = omega arith })

pub returns-in_err-reading : goal.returns-in_err-reading
unfolding fronts
returns-in_err-reading c =
    let a = c.args in
    let l = c.loop-f in
    let p = err_from_is_err_and c.from_residual.result c.from_residual.ensures.1 in
    rw (p.1, p.2) (front-stop layout1 (fronts a.size) l.f a.image.now l.invariant.1 (omega arith) c.in_err-reading.ensures)

pub loop-f-preserved : goal.loop-f-preserved
unfolding fronts
loop-f-preserved c =
    let a = c.args in
    let l = c.loop-f in
    let t = c.in_ok-reading.ensures in
    let m = c.in_ok-reading.reading.members in
    let n : (l.f + 1) * 28 - (l.free + (28 - m)) ≡ l.f * 28 - l.free + m = omega (arith, l.invariant.0, t.1, t.0.list.room) in (
      omega (arith, l.invariant.0),
      front-on layout1 (fronts a.size) l.f a.image.now l.invariant.1 (omega arith) t.0.accepts,
      rw n (counts-on (λ (e : ℕ). front_at layout1 e a.image.now) 28 l.invariant.2 t.0.accepts t.1 t.0.list.room),
    )

pub returns : goal.returns
unfolding fronts
returns c =
    let a = c.args in
    let l = c.loop-f in
    let all : l.f ≡ 8 * a.size = omega arith in
    let turned : 28 * (8 * a.size) ≡ 8 * a.size * 28 = omega arith in
    (front-end layout1 (fronts a.size) l.f a.image.now l.invariant.1 (omega arith), rw turned (rw all at l.invariant.2))
