-- `listing::lists::in_order` meets its contract. The largest of the first part is at most the least of the second (`parts-order`).
use mathlib.Core.Logic.{inl, inr}
use Prim.Native.Nat.{◌<◌}
use native.Mathlib.Omega.{arith}
use borrow.Author.Tests.{leb-true}
use Rattle.listing.proofs.MergedLists.{parts-empty, parts-order}
use Rattle.listing.proofs.lists.in_order.Goals.{Else-from-end, then-from-eq0-via-then-from-eq0, then-from-eq0-via-else-from-eq0+then-from-end}
use Rattle.listing.proofs.lists.in_order.Goals as goal

pub returns-then-from-eq0 : goal.returns-then-from-eq0
returns-then-from-eq0 c e =
    parts-empty c.requires
    elim c.then-from-eq0.branch [
      | then-from-eq0-via-then-from-eq0 w ↦ inl w.if-from-eq0.true
      | then-from-eq0-via-else-from-eq0+then-from-end w ↦ inr w.if-from-end.true
    ]

-- neither part is empty
behind : (c : Else-from-end) → c.args.from < c.args.end
behind c =
    omega (arith, c.requires.split, c.if-from-end.false)

pub returns : goal.returns
returns c e =
    let p = c.requires in
    parts-order p (omega arith) (behind (goal.at.returns c).Else-from-end) (leb-true _ _ e)
