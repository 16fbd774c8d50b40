-- `deletion::plan::rank_without` meets its contract. The copy that leaves counts where it is below the key (`below-past`).
use mathlib.Core.Path.{◌≡◌, sym, ◌∙◌}
use Prim.Native.Nat.{suc}
use native.Mathlib.Omega.{arith}
use Rattle.multiset.specs.Multisets.{below, removed}
use Rattle.multiset.proofs.OrderLaws.{largest-max}
use Rattle.multiset.proofs.RankLaws.{below_all}
use Rattle.multiset.proofs.SlotLaws.{below-without, below-past}
use Rattle.crumbmap.specs.Layouts.{layout1}
use Rattle.machine.specs.Images.{in_front}
use Rattle.deletion.proofs.plan.rank_without.Goals.{Then-gone-key}
use Rattle.deletion.proofs.plan.rank_without.Goals as goal

-- the copy that leaves is below the key
past : (c : Then-gone-key) →
    let a = c.args in
    suc (below a.key (removed a.gone (in_front layout1 a.front.0 a.image.now))) ≡ c.in-Ok.reading.below
past c =
    let a = c.args in
    below-past a.key a.gone (in_front layout1 a.front.0 a.image.now) c.if-gone-key.true c.requires.1 ∙ sym c.in-Ok.ensures.2

pub returns-then-largest_front-key : goal.returns-then-largest_front-key
returns-then-largest_front-key c =
    let a = c.args in
    let w = c.requires.0 in
    let xs = in_front layout1 a.front.0 a.image.now in
    let l = rw c.bucket.ensures.0 at c.largest_front.ensures in
    let most = largest-max a.gone xs w.read.list.order c.requires.1 in
    omega (
      arith,
      below-past a.key a.gone xs (omega (arith, l, most)) c.requires.1,
      below_all a.key xs w.read.list.order (omega (arith, w.full)) (omega (arith, l)),
      w.full,
    )

pub overflow_sub-result-then-gone-key : goal.overflow_sub-result-then-gone-key
overflow_sub-result-then-gone-key c = omega (arith, past (goal.at.overflow_sub-result-then-gone-key c).Then-gone-key)

pub returns-then-gone-key : goal.returns-then-gone-key
returns-then-gone-key c = omega (arith, past (goal.at.returns-then-gone-key c).Then-gone-key)

pub returns : goal.returns
returns c =
    let a = c.args in
    c.in-Ok.ensures.2 ∙ sym (below-without a.key a.gone (in_front layout1 a.front.0 a.image.now) (omega (arith, c.if-gone-key.false)))
