-- `grouping::share::share_second` meets its contract: b1 is unsound, or it is the third read of the ask.
use Rattle.std.proofs.Common.{◌≡◌, ◌∙◌, arith}
use Rattle.std.proofs.lemmas.Result.{err_from_is_err_and}
use Rattle.crumbmap.specs.Layouts.{layout1}
use Rattle.machine.specs.Machine.{ask_second, ask_at}
use Rattle.machine.proofs.ChoiceLaws.{reads-apart}
use Rattle.image.proofs.ImageReadLaws.{back_in}
use Rattle.grouping.proofs.LoneLaws.{past_first, second-read, second-unsound, shares, bars}
use Rattle.grouping.proofs.share.share_second.Goals.{After-second_of-way}
use Rattle.grouping.proofs.share.share_second.Goals as goal

-- the ask goes on to b1
goes_on : (c : After-second_of-way) → let a = c.args in
    ask_second layout1 a.size a.front.0 a.key a.image.now ≡ ask_at layout1 a.size a.front.0 a.key a.image.now
goes_on c =
    let a = c.args in
    let p = c.requires.2 in
    past_first layout1 a.size a.front.0 a.key a.image.now p.over p.read.accepts p.absent

pub read_back_at-requires : goal.read_back_at-requires
read_back_at-requires c =
    let p = c.requires in
    let l = c.second_of-way.ensures in
    (back_in p.0.whole l.inside, omega (arith, l.small, p.1))

pub returns-in_err-read_back_at : goal.returns-in_err-read_back_at
returns-in_err-read_back_at c =
    let a = c.args in
    let p = err_from_is_err_and c.from_residual.result c.from_residual.ensures.1 in
    rw (p.1, p.2)
    (bars layout1 a.size a.front.0 a.key a.image.now a.reads
    (second-unsound layout1 a.size a.front.0 a.key a.image.now (rw c.second_of-way.ensures.bucket at c.in_err-read_back_at.ensures)
    ∙ goes_on (goal.at.returns-in_err-read_back_at c).After-second_of-way))

pub returns : goal.returns
returns c =
    let a = c.args in
    let b1 = rw c.second_of-way.ensures.bucket at c.in_ok-read_back_at.ensures.0 in
    let t = second-read layout1 a.size a.front.0 a.key a.image.now b1 in
    let three = t.2 ∙ reads-apart a.size a.front.0 c.requires.4 in
    rw three at (shares layout1 a.size a.front.0 a.key a.image.now {reads = a.reads} (t.1 ∙ goes_on (goal.at.returns c).After-second_of-way) (omega (arith, three, c.requires.3)))
