-- `shifts::lanes::open_lane` meets its contract: what is below the lane, the number at it, and what moved up by a lane.
use Rattle.std.proofs.Common.{◌≡◌, ◌+◌, ◌-◌, ◌*◌, ◌%◌, ◌^◌, mod-lt, arith, lit<}
use Rattle.shifts.proofs.LaneLaws.{power_pos, kept-bits}
use Rattle.shifts.proofs.CrumbLaws.{open-unit, open-digits}
use Rattle.shifts.proofs.lanes.open_lane.Goals.{After-wrapping_add_u64-unit}
use Rattle.shifts.proofs.lanes.open_lane.Goals as goal

-- one above the mask, where that is no more than 64 bits
unit : (c : After-wrapping_add_u64-unit) → c.wrapping_add_u64-unit.result ≡ (4 ^ (2 * c.args.lane) - 1 + 1) % 2 ^ 64
unit c = rw c.mask-keep.ensures at c.wrapping_add_u64-unit.ensures.value

pub overflow_mul-put : goal.overflow_mul-put
overflow_mul-put c =
    let room = open-unit c.args.lane c.args.put c.wrapping_add_u64-unit.result c.requires.0 c.requires.1 (unit c) in
    record { fits = omega (arith, room, power_pos 4 (2 * c.args.lane) (lit< tt)) }

pub overflow_add-below : goal.overflow_add-below
overflow_add-below c =
    let a = c.args in
    let room = open-unit a.lane a.put c.wrapping_add_u64-unit.result c.requires.0 c.requires.1 (unit c) in
    rw (c.mask-keep.ensures, kept-bits a.x (2 * a.lane))
    (record { fits = omega (arith, room, mod-lt a.x (power_pos 4 (2 * a.lane) (lit< tt))) })

pub returns : goal.returns
returns c =
    let a = c.args in
    let sum = rw (c.mask-keep.ensures, kept-bits a.x (2 * a.lane)) at c.wrapping_add_u64.ensures.value in
    open-digits a.lane a.put c.wrapping_add_u64-unit.result c.requires.0 c.requires.1 (unit (goal.at.returns c).After-wrapping_add_u64-unit) a.x c.wrapping_add_u64.result
    c.ranges.x.fits sum
