-- `spill::push::push` meets its contract. Both backyard buckets are counted where the choices lead to (`hold`), and the taker of their counts
-- takes the key (`chosen`), or both are full.
use mathlib.Core.Path.{◌≡◌}
use mathlib.Core.Bool.{Bool, true, false}
use mathlib.Core.Option.{some}
use Rattle.crumbmap.specs.Layouts.{layout1}
use Rattle.crumbmap.specs.Steps.Places.{Leads}
use Rattle.buckets.proofs.BucketLaws.{fits1}
use Rattle.machine.specs.Machine.{taker}
use Rattle.insertion.proofs.TakerLaws.{taking-full, taking-first, taking-second}
use Rattle.spill.proofs.PushLaws.{Holding, holding, push-stuck, push-joinable, push-to, push-keeps}
use Rattle.spill.proofs.push.push.Goals.{After-count_back-n1, Joined-choice, in-First, in-Second}
use Rattle.spill.proofs.push.push.Goals as goal

-- how many b0 and b1 hold
hold : (c : After-count_back-n1) →
    let a = c.args in
    Holding layout1 a.size a.front.0 a.image.now c.count_back-n0.result c.count_back-n1.result
hold c =
    holding c.requires.1 c.first_of-first.ensures c.second_of-second.ensures
    c.back_bucket.ensures.0 c.count_back-n0.ensures c.back_bucket-2.ensures.0 c.count_back-n1.ensures

-- the choice that takes the key, and leads where it goes
chosen : (c : Joined-choice) →
    let a = c.args in
    (t : Bool) × Leads t a.size a.front.0 c.match-choice.way' × (taker layout1 c.count_back-n0.result c.count_back-n1.result ≡ some t)
chosen c =
    elim c.match-choice.branch [
      | in-First w ↦ (true, rw w.way'-is c.first_of-first.ensures, taking-first (rw w.in-First.is at c.in-Some.ensures))
      | in-Second w ↦ (false, rw w.way'-is c.second_of-second.ensures, taking-second (rw w.in-Second.is at c.in-Some.ensures))
    ]

pub returns-in_default : goal.returns-in_default
returns-in_default c =
    let h = hold (goal.at.returns-in_default c).After-count_back-n1 in
    (push-stuck h c.args.key (taking-full c.in_default.ensures), h.read)

pub put_behind-requires : goal.put_behind-requires
put_behind-requires c =
    let at = goal.at.put_behind-requires c in
    let t = chosen at.Joined-choice in
    (c.requires.0, push-joinable (hold at.After-count_back-n1) c.args.key t.0 t.1 t.2 c.requires.2)

pub returns : goal.returns
returns c =
    let at = goal.at.returns c in
    let h = hold at.After-count_back-n1 in
    let x = c.args.key in
    let t = chosen at.Joined-choice in
    rw c.put_behind.ensures (push-to h x t.0 t.1 t.2, push-keeps h x t.0 t.1 t.2 fits1 c.requires.2)
