-- `shifts::lanes::blend` meets its contract: what is below the mask, and what is not.
use Rattle.std.proofs.Common.{◌^◌}
use Rattle.shifts.proofs.LaneLaws.{kept-bits, high_bits, blend-fits}
use Rattle.shifts.proofs.lanes.blend.Goals as goal

pub overflow_add-result : goal.overflow_add-result
overflow_add-result c =
    let a = c.args in
    rw (c.mask-keep.ensures, kept-bits a.x a.half, kept-bits a.y a.half)
    (record { fits = blend-fits a.x a.y a.half c.requires c.ranges.y.fits })

pub returns : goal.returns
returns c =
    let a = c.args in
    rw (c.mask-keep.ensures, kept-bits a.x a.half, kept-bits a.y a.half, high_bits a.y (4 ^ a.half))
