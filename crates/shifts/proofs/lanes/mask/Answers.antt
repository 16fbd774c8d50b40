-- `shifts::lanes::mask` meets its contract: 4^half, or 0 where that is 2^64, wraps to one less.
use Rattle.std.proofs.Common.{arith}
use Rattle.shifts.proofs.LaneLaws.{mask-bits}
use Rattle.shifts.proofs.lanes.mask.Goals as goal

pub returns : goal.returns
returns c = let call = c.wrapping_sub_u64 in mask-bits call.result c.args.half c.requires (omega arith) call.ensures.value
