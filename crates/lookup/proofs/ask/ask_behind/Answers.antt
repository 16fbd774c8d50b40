-- `lookup::ask::ask_behind` meets its contract. Where b0 = b1 the ask comes to b1 at once (`ask-same`); else what seeking in b0 finds settles it, or
-- leads on (`ask-first`).
use mathlib.Core.Path.{sym, ◌∙◌}
use Rattle.std.specs.Prelude as S
use Rattle.std.proofs.lemmas.Result.{err_from_is_err_and}
use Rattle.crumbmap.specs.Layouts.{layout1}
use Rattle.machine.proofs.ChoiceLaws.{reads_same, reads-apart}
use Rattle.image.proofs.ImageReadLaws.{back_in}
use Rattle.lookup.proofs.AskSteps.{ask-first, ask-same}
use Rattle.lookup.proofs.ask.ask_behind.Goals as goal

pub ask_second-requires : goal.ask_second-requires
ask_second-requires c =
    let t = c.args.target in
    (c.requires.0, sym (reads_same t.size t.front.0 (sym c.coincide.ensures ∙ c.if-coincide.true)))

pub returns-then-coincide : goal.returns-then-coincide
returns-then-coincide c =
    c.ask_second.ensures ∙ ask-same c.args.target.size c.requires.0.within.front c.requires.1 (sym c.coincide.ensures ∙ c.if-coincide.true)

pub seek-requires : goal.seek-requires
seek-requires c =
    let p = c.requires.0 in
    let l = c.first_of.ensures in
    (back_in p.within.whole l.inside, l.small, p.key)

pub ask_second-requires-in-None : goal.ask_second-requires-in-None
ask_second-requires-in-None c =
    let t = c.args.target in
    (c.requires.0, sym (reads-apart t.size t.front.0 (sym c.coincide.ensures ∙ c.if-coincide.false)))

pub returns-in_err-found : goal.returns-in_err-found
returns-in_err-found c =
    let t = c.args.target in
    let p = err_from_is_err_and c.from_residual.result c.from_residual.ensures.1 in
    rw (p.1, p.2) (ask-first layout1 t.size t.front.0 t.key c.args.image.now (S.Err c.in_err-found.field-0.0) c.in_err-found.ensures c.requires.1 c.first_of.ensures)

pub returns-in-Some : goal.returns-in-Some
returns-in-Some c =
    let t = c.args.target in
    ask-first layout1 t.size t.front.0 t.key c.args.image.now (S.Ok (S.Some c.in-Some.found)) (rw c.in-Some.is at c.in_ok-found.ensures) c.requires.1 c.first_of.ensures

pub returns-in-None : goal.returns-in-None
returns-in-None c =
    let t = c.args.target in
    c.ask_second-in-None.ensures
    ∙ ask-first layout1 t.size t.front.0 t.key c.args.image.now (S.Ok S.None) (rw c.in-None.is at c.in_ok-found.ensures) c.requires.1 c.first_of.ensures
