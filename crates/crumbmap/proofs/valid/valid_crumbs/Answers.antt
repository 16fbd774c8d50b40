-- `valid_crumbs` puts the valid digits of both choices side by side.
use Rattle.crumbmap.proofs.MarkLaws.{marks-home}
use Rattle.crumbmap.proofs.valid.valid_crumbs.Goals as goal

pub returns : goal.returns
returns c =
    let a = c.args in
    marks-home a.size a.from.0 _ _ c.first_marks.ensures c.second_marks.ensures
