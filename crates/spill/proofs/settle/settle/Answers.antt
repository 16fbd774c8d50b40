-- `spill::settle::settle` meets its contract. The loop's invariant: what stays is the start of either list, turn by turn (`Settling`).
use mathlib.Core.Path.{sym}
use Prim.Native.Nat.{◌<◌}
use native.Mathlib.Omega.{arith}
use Rattle.spill.proofs.SettleLaws.{settling-start, settling-room, settling-way, settling-stop, way-kept}
use Rattle.spill.proofs.settle.settle.Goals.{Then-gives_way, then-kept-taken-lt-FRONT_SLOTS, else-kept-taken-lt-FRONT_SLOTS+then-gives_way, else-kept-taken-lt-FRONT_SLOTS+else-gives_way}
use Rattle.spill.proofs.settle.settle.Goals as goal

pub loop-key-init : goal.loop-key-init
loop-key-init c = settling-start c.requires

-- the last that is kept of a gives way: there is one
some-kept : (c : Then-gives_way) → 0 < c.loop-key.kept
some-kept c = way-kept c.requires c.loop-key.invariant c.loop-key-test.true c.if-kept-taken-lt-FRONT_SLOTS.false (sym c.if-gives_way.ensures)

pub overflow_sub-kept : goal.overflow_sub-kept
overflow_sub-kept c = some-kept c

pub bounds-a-kept : goal.bounds-a-kept
bounds-a-kept c = omega (arith, c.loop-key.invariant.some-kept, some-kept (goal.at.bounds-a-kept c).Then-gives_way)

pub loop-key-preserved : goal.loop-key-preserved
loop-key-preserved c =
    let p = c.requires in
    let v = c.loop-key.invariant in
    let h = c.loop-key-test.true in
    elim c.if-kept-taken-lt-FRONT_SLOTS.branch [
      | then-kept-taken-lt-FRONT_SLOTS w ↦
          rw (w.over-is, w.kept-is, w.taken-is, w.gone-is) (settling-room p v h w.if-kept-taken-lt-FRONT_SLOTS.true)
      | else-kept-taken-lt-FRONT_SLOTS+then-gives_way w ↦
          rw (w.over-is, w.kept-is, w.taken-is, w.gone-is)
          (settling-way p v h w.if-kept-taken-lt-FRONT_SLOTS.false (sym w.if-gives_way.ensures)).1
      | else-kept-taken-lt-FRONT_SLOTS+else-gives_way w ↦
          rw (w.over-is, w.kept-is, w.taken-is, w.gone-is)
          (settling-stop p v h w.if-kept-taken-lt-FRONT_SLOTS.false (sym w.if-gives_way.ensures)).1
    ]
