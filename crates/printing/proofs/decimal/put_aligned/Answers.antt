-- `put_aligned` writes from the last digit to the first: all columns are those still to write and those that stand.
use mathlib.Core.Path.{◌≡◌, sym, ◌∙◌}
use Prim.Native.Nat.{◌+◌, ◌-◌, ◌%◌}
use mathlib.Core.List.{append-nil}
use native.Mathlib.Nat.{le_refl}
use native.Mathlib.Omega.{arith}
use lib.ListN.{set, length-set, drop_of_length-le}
use Rattle.machine.specs.OccupancyPages.{aligned}
use Rattle.printing.proofs.LineLaws.{aligned-more, aligned-last, blanks-before}
use Rattle.printing.proofs.decimal.put_aligned.Goals as goal

pub loop-i-init : goal.loop-i-init
loop-i-init c = sym (rw (drop_of_length-le c.args.out.now (le_refl _)) (append-nil _))

pub returns-then-v-lt10 : goal.returns-then-v-lt10
returns-then-v-lt10 c =
    let l = c.loop-i in
    let xs = set l.out (l.i - 1) (48 + l.v % 10) in
    blanks-before (l.i - 1) xs _ (rw (length-set l.out (l.i - 1) (48 + l.v % 10)) (omega arith)) (c.fill.ensures.after (λ y e. e))
    ∙ sym (aligned-last _ _ l.i l.v l.out (omega arith) (omega arith) (omega arith) l.invariant)

pub loop-i-preserved : goal.loop-i-preserved
loop-i-preserved c =
    let l = c.loop-i in aligned-more _ _ l.i l.v l.out (omega arith) (omega arith) (omega arith) l.invariant

pub returns : goal.returns
unfolding aligned
returns c =
    let l = c.loop-i in
    let z : l.i ≡ 0 = omega arith in
    sym (l.invariant ∙ rw z)
