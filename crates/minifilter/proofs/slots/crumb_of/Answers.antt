-- `minifilter::slots::crumb_of` meets its contract: the half of its byte is the crumb of the slot, by `half_of`.
use Prim.Native.Nat.{◌+◌, ◌/◌}
use native.Mathlib.Omega.{arith}
use Rattle.buckets.proofs.ElementLaws.{half_of}
use Rattle.minifilter.proofs.slots.crumb_of.Goals as goal

pub overflow_cast-result : goal.overflow_cast-result
overflow_cast-result c = omega (arith, c.shared_slice_known-1.given (52 + c.args.slot / 2))

pub returns : goal.returns
returns c =
    let a = c.args in
    (half_of 52 a.slot a.b.now (omega arith), omega arith)
