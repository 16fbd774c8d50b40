-- `shifts::lanes::from_byte` meets its contract: as many bytes stay as are below byte `at`.
use Rattle.std.proofs.Common.{◌-◌}
use Rattle.shifts.proofs.LaneLaws.{bytes-blend}
use Rattle.shifts.proofs.lanes.from_byte.Goals as goal

pub returns : goal.returns
returns c =
    let a = c.args in
    let kept = c.bytes_below in
    bytes-blend (a.at - a.from) kept.result a.x a.y c.blend.result kept.ensures c.blend.ensures
