-- `put_blank` fills all columns but the last, which is the newline.
use mathlib.Core.Path.{sym}
use native.Mathlib.Omega.{arith}
use lib.Seq.{length-take-le}
use lib.ListN.{replicate, length-replicate}
use Prim.Native.Nat.{ℕ}
use Rattle.machine.specs.OccupancyPages.{blank_line}
use Rattle.printing.proofs.LineLaws.{stands-none, stands-part, stands_set, stands-all}
use Rattle.printing.proofs.line.put_blank.Goals as goal

pub slice_bounds-fill-end-2 : goal.slice_bounds-fill-end-2
slice_bounds-fill-end-2 c = sym (length-take-le 41 c.args.out.now (omega arith))

pub returns : goal.returns
unfolding blank_line
returns c =
    let xs = c.args.out.now in
    stands-all
    (stands_set
    (stands-part (stands-none xs) (λ (n : ℕ). replicate {A = ℕ} n 32) (λ n. length-replicate {A = ℕ} n 32) 41 _ (omega arith) (c.fill.ensures.after (λ y e. e)))
    10 (omega arith))
    (omega arith)
