-- `lookup::ask::ask_at` meets its contract. The ask is settled by the front bucket, or goes on behind it.
use mathlib.Core.Path.{◌∙◌}
use Rattle.std.proofs.lemmas.Result.{err_from_is_err_and}
use Rattle.crumbmap.specs.Layouts.{layout1}
use Rattle.machine.proofs.AskLaws.{ask-unsound}
use Rattle.image.proofs.ImageReadLaws.{front-in}
use Rattle.lookup.proofs.AskSteps.{ask-here, ask-few, ask-low}
use Rattle.lookup.proofs.ask.ask_at.Goals.{then-reading-lt-FRONT_SLOTS-via-then-reading-lt-FRONT_SLOTS, then-reading-lt-FRONT_SLOTS-via-else-reading-lt-FRONT_SLOTS+then-key-largest_front}
use Rattle.lookup.proofs.ask.ask_at.Goals as goal

pub sound_front_at-requires : goal.sound_front_at-requires
sound_front_at-requires c = front-in c.requires.within

pub returns-in_err-reading : goal.returns-in_err-reading
returns-in_err-reading c =
    let t = c.args.target in
    let p = err_from_is_err_and c.from_residual.result c.from_residual.ensures.1 in
    rw (p.1, p.2) (ask-unsound layout1 t.size t.front.0 t.key c.args.image.now c.in_err-reading.ensures)

pub returns-in-Some : goal.returns-in-Some
returns-in-Some c =
    let t = c.args.target in
    let r = c.in_ok-reading.ensures in
    ask-here t.size t.key r.0 r.1 (rw c.bucket-b.ensures.0 at c.find_front.ensures) c.in-Some.is

pub returns-then-reading-lt-FRONT_SLOTS : goal.returns-then-reading-lt-FRONT_SLOTS
returns-then-reading-lt-FRONT_SLOTS c =
    let t = c.args.target in
    let r = c.in_ok-reading.ensures in
    let said = rw c.bucket-b.ensures.0 at c.find_front.ensures in
    c.none_in.ensures
    ∙ elim c.then-reading-lt-FRONT_SLOTS.branch [
      | then-reading-lt-FRONT_SLOTS-via-then-reading-lt-FRONT_SLOTS w ↦ ask-few t.size t.key r.0 r.1 said c.in_default.is w.if-reading-lt-FRONT_SLOTS.true
      | then-reading-lt-FRONT_SLOTS-via-else-reading-lt-FRONT_SLOTS+then-key-largest_front w ↦
          ask-low t.size t.key r.0 r.1 said c.in_default.is w.if-reading-lt-FRONT_SLOTS.false (rw c.bucket-b.ensures.0 at w.largest_front.ensures) w.if-key-largest_front.true
    ]
