-- `grouping::share::test` meets its contract: the buckets that were read do (`tested-same`), or the state advances.
use Rattle.std.proofs.Common.{◌≡◌, ℕ, List, sym, ◌∙◌}
use Rattle.crumbmap.specs.Layouts.{layout1}
use Rattle.grouping.specs.Steps.Grouping.{tested_at}
use Rattle.grouping.specs.declared.State.{State}
use Rattle.grouping.proofs.GroupLaws.{tested-same}
use Rattle.grouping.proofs.share.test.Goals as goal

-- the state after an entry of the same front bucket and key
tested_at-same : (img : List ℕ) (s : State) {f g x y : ℕ} → f ≡ g → x ≡ y → tested_at layout1 img s f x ≡ tested_at layout1 img s g y
tested_at-same img s e h = rw (e, h)

pub returns-then-key-s : goal.returns-then-key-s
returns-then-key-s c =
    let f = c.front_of-front.ensures.0 in
    let a = c.args in
    tested-same layout1 a.image.now a.s c.requires _ c.if-key-s.true
    ∙ tested_at-same a.image.now a.s (sym c.if-f-s.true ∙ f) c.key_of-key.ensures.0

pub returns : goal.returns
returns c =
    let a = c.args in
    c.advance.ensures ∙ tested_at-same a.image.now a.s c.front_of-front.ensures.0 c.key_of-key.ensures.0
