-- `image::copy::copy_bytes` meets its contract: the bytes passed are copied.
use mathlib.Core.Path.{sym, ◌∙◌}
use native.Mathlib.Numerals.{add-one}
use native.Mathlib.Omega.{arith}
use lib.ListN.{get_or, length-set}
use lib.Seq.{take_all, take-suc, take-suc-set}
use Rattle.image.proofs.copy.copy_bytes.Goals as goal

pub loop-i-preserved : goal.loop-i-preserved
loop-i-preserved c =
    let l = c.loop-i in
    let from = c.args.from.now in (
      simp length-set l.invariant.0,
      rw (add-one l.i, take-suc-set l.to l.i (get_or from l.i 0) (omega arith), take-suc from l.i 0 (omega arith), l.invariant.1),
    )

pub returns : goal.returns
returns c =
    let l = c.loop-i in
    sym (take_all l.i l.to (omega arith)) ∙ l.invariant.1 ∙ take_all l.i c.args.from.now (omega arith)
