-- `image::place::size_of` meets its contract. The size of a length, or that no image has it.
use Prim.Native.Nat.{◌-◌, ◌/◌}
use native.Mathlib.Omega.{arith}
use Rattle.machine.specs.Images.{length_of}
use Rattle.image.proofs.PartLaws.{size-wrong, size-right}
use Rattle.image.proofs.place.size_of.Goals as goal

pub returns-then-len-lt1024 : goal.returns-then-len-lt1024
unfolding length_of
returns-then-len-lt1024 c = size-wrong c.args.len (λ B e p h. omega arith)

pub returns-then-size-gt65536 : goal.returns-then-size-gt65536
unfolding length_of
returns-then-size-gt65536 c = size-wrong c.args.len (λ B e p h. omega arith)

pub returns-then-len-size : goal.returns-then-len-size
unfolding length_of
returns-then-len-size c =
    let n = c.args.len in
    size-right n ((n - 448) / 576) (omega arith) (omega arith) (omega arith)

pub returns-else-len-size : goal.returns-else-len-size
unfolding length_of
returns-else-len-size c = size-wrong c.args.len (λ B e p h. omega arith)
