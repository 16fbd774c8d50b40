-- `spill::push::push_all` meets its contract. The loop's invariant: both backyard buckets are sound, and what is left is to push the keys from this
-- one on.
use mathlib.Core.Path.{◌≡◌, sym, ◌∙◌}
use Prim.Native.Nat.{◌+◌}
use mathlib.Core.List.{[], ◌∷◌}
use native.Mathlib.Omega.{arith}
use lib.ListN.{length, drop, get_or}
use lib.Seq.{drop-length}
use Rattle.multiset.proofs.MultisetLaws.{below_at}
use Rattle.crumbmap.specs.Layouts.{layout1, keys as allKeys}
use Rattle.machine.specs.Results.{and_then}
use Rattle.machine.specs.Steps.Spills.{push_all}
use Rattle.machine.proofs.SpillLaws.{push_all-next}
use Rattle.spill.proofs.push.push_all.Goals.{After-push}
use Rattle.spill.proofs.push.push_all.Goals as goal

-- this key comes next
next : (c : After-push) →
    let l = c.loop-key in
    let a = c.args in
    push_all layout1 a.size a.front.0 a.keys.now a.target.now
    ≡ and_then (push_all layout1 a.size a.front.0 (get_or a.keys.now l.key-index 0 ∷ []) l.target)
    (push_all layout1 a.size a.front.0 (drop (l.key-index + 1) a.keys.now))
next c =
    let l = c.loop-key in
    let a = c.args in
    l.invariant.1 ∙ push_all-next layout1 a.size a.front.0 l.key-index a.keys.now l.target c.loop-key-test.true

pub push-requires : goal.push-requires
push-requires c =
    (c.requires.0, c.loop-key.invariant.0, below_at (allKeys layout1) c.loop-key.key-index c.args.keys.now c.requires.2 c.loop-key-test.true)

pub returns-then-not-push : goal.returns-then-not-push
returns-then-not-push c =
    let e = c.if-not-push.ensures in
    (sym (next (goal.at.returns-then-not-push c).After-push ∙ rw (← e.0)), e.1)

pub loop-key-preserved : goal.loop-key-preserved
loop-key-preserved c =
    let e = c.if-not-push.ensures in
    (e.1, next (goal.at.loop-key-preserved c).After-push ∙ rw (← e.0))

-- all keys are behind
pub returns : goal.returns
unfolding push_all
returns c =
    let l = c.loop-key in
    let done : l.key-index ≡ length c.args.keys.now = omega arith in
    (sym (l.invariant.1 ∙ rw (done, drop-length c.args.keys.now)), l.invariant.0)
