-- `grouping::share::share` meets its contract: the front bucket is read where it was not.
use Rattle.std.proofs.Common.{◌∙◌}
use Rattle.std.proofs.lemmas.Result.{err_from_is_err_and}
use Rattle.crumbmap.specs.Layouts.{layout1}
use Rattle.image.proofs.ImageReadLaws.{front-in}
use Rattle.machine.proofs.AskLaws.{ask-unsound}
use Rattle.grouping.proofs.LoneLaws.{bars}
use Rattle.grouping.proofs.GroupLaws.{first-shared}
use Rattle.grouping.proofs.share.share.Goals as goal

pub read_front_at-requires : goal.read_front_at-requires
read_front_at-requires c = let p = c.requires in (front-in p.0, p.1)

pub returns-in_err-read_front_at : goal.returns-in_err-read_front_at
returns-in_err-read_front_at c =
    let a = c.args in
    let f = a.front.0 in
    let p = err_from_is_err_and c.from_residual.result c.from_residual.ensures.1 in
    rw (p.1, p.2)
    (bars layout1 a.size f a.key a.image.now a.reads (ask-unsound layout1 a.size f a.key a.image.now c.in_err-read_front_at.ensures))

pub returns-then-reads-eq0 : goal.returns-then-reads-eq0
returns-then-reads-eq0 c =
    let a = c.args in
    rw c.if-reads-eq0.true (c.share_front.ensures ∙ first-shared layout1 a.size a.front.0 a.key a.image.now)
