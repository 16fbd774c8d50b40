-- `put_hex` writes from the last digit to the first: all digits are those still to write and those that stand.
use mathlib.Core.Path.{◌≡◌, sym, ◌∙◌}
use native.Mathlib.Omega.{arith}
use Rattle.text.specs.Texts.{hex}
use Rattle.text.proofs.TextLaws.{hex-written}
use Rattle.text.proofs.hex.put_hex.Goals as goal

pub loop-i-preserved : goal.loop-i-preserved
loop-i-preserved c =
    let l = c.loop-i in
    hex-written _ _ l.i l.v _ l.out (omega arith) (omega arith) c.letter_of.ensures l.invariant

pub returns : goal.returns
unfolding hex
returns c =
    let l = c.loop-i in
    let z : l.i ≡ 0 = omega arith in
    sym (l.invariant ∙ rw z)
