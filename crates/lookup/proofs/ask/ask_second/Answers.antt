-- `lookup::ask::ask_second` meets its contract: what seeking in b1 finds settles it (`ask-second`).
use mathlib.Core.Path.{◌∙◌}
use Rattle.std.specs.Prelude as S
use Rattle.std.proofs.lemmas.Result.{err_from_is_err_and}
use Rattle.crumbmap.specs.Layouts.{layout1}
use Rattle.image.proofs.ImageReadLaws.{back_in}
use Rattle.lookup.proofs.AskSteps.{ask-second}
use Rattle.lookup.proofs.ask.ask_second.Goals as goal

pub seek-requires : goal.seek-requires
seek-requires c =
    let p = c.requires.0 in
    let l = c.second_of.ensures in
    (back_in p.within.whole l.inside, l.small, p.key)

pub returns-in_err-found : goal.returns-in_err-found
returns-in_err-found c =
    let t = c.args.target in
    let p = err_from_is_err_and c.from_residual.result c.from_residual.ensures.1 in
    rw (p.1, p.2) (ask-second layout1 t.size t.front.0 t.key c.args.image.now (S.Err c.in_err-found.field-0.0) c.in_err-found.ensures c.second_of.ensures c.requires.1)

pub returns-in-Some : goal.returns-in-Some
returns-in-Some c =
    let t = c.args.target in
    ask-second layout1 t.size t.front.0 t.key c.args.image.now (S.Ok (S.Some c.in-Some.found)) (rw c.in-Some.is at c.in_ok-found.ensures) c.second_of.ensures c.requires.1

pub returns-in-None : goal.returns-in-None
returns-in-None c =
    let t = c.args.target in
    c.none_in.ensures
    ∙ ask-second layout1 t.size t.front.0 t.key c.args.image.now (S.Ok S.None) (rw c.in-None.is at c.in_ok-found.ensures) c.second_of.ensures c.requires.1
