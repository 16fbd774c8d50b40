-- A turn of the sweep does entry i. That its hash is of 64 bits is said of what `turn` gives, which keeps it.
use Rattle.std.proofs.Common.{◌≡◌, ◌∙◌, ◌^◌, ◌<◌, ap, get_or, arith}
use denote.Struct.Laws.{owed}
use Rattle.crumbmap.specs.Layouts.{layout1}
use Rattle.form.specs.Tails.{body}
use Rattle.answers.specs.contracts.Entry as T
use Rattle.answers.proofs.Entry.TheLaws as T'
use Rattle.grouping.specs.declared.Turned.{Turned}
use Rattle.grouping.specs.contracts.Turned as U
use Rattle.grouping.proofs.Turned.TheLaws as U'
use Rattle.rows.proofs.Swept.{blank, hash_stays, more}
use Rattle.rows.proofs.sweep.Goals.{After-turn-t}
use Rattle.rows.proofs.sweep.Goals as goal

small : (c : After-turn-t) → (get_or c.loop-entry.row c.loop-entry.entry-index blank).hash < 2 ^ 64
small c =
    let a = c.args in
    let e = get_or c.loop-entry.row c.loop-entry.entry-index blank in
    let r = c.turn-t.result in
    let b : r.entry.hash < 2 ^ 64 = (owed T.the_type T'.the_laws r.entry _ (owed U.the_type U'.the_laws r _ c.turn-t.type_inv).1.0).0.1 in
    let same : r.entry.hash ≡ e.hash = ap (λ (t : Turned). t.entry.hash) c.turn-t.ensures ∙ hash_stays layout1 (body a.image.now) a.start.phase c.loop-entry.s e in
    omega arith

pub loop-entry-preserved : goal.loop-entry-preserved
loop-entry-preserved c =
    let a = c.args in
    let k = c.loop-entry.invariant in
    more layout1 (body a.image.now) a.start a.row.now c.loop-entry.entry-index c.loop-entry.s c.loop-entry.row blank c.turn-t.result (omega (arith, k.long)) k
    (small (goal.at.loop-entry-preserved c).After-turn-t) c.turn-t.ensures
