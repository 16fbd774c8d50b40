-- `listing::lists::merge_into` meets its contract. The merged list is what stands and the merge of what is left of both (`Merging`); where one has none
-- left, that is the rest of the other.
use mathlib.Core.Path.{◌≡◌, ◌∙◌}
use mathlib.Core.Logic.{◌⊎◌, inl, inr}
use Prim.Native.Nat.{◌≤◌}
use native.Mathlib.Omega.{arith}
use lib.ListN.{length}
use Rattle.listing.proofs.MergedLists.{merging_start, merging-on, merging-end, copied-length}
use Rattle.listing.proofs.lists.merge_into.Goals.{After-copy_rest, then-loop-i-test+else-j-b, else-loop-i-test}
use Rattle.listing.proofs.lists.merge_into.Goals as goal

pub loop-i-init : goal.loop-i-init
loop-i-init c = let a = c.args in merging_start a.a.now a.b.now a.out.now

pub loop-i-smaller : goal.loop-i-smaller
loop-i-smaller c = omega (arith, c.at_most-left.ensures.1)

pub loop-i-preserved : goal.loop-i-preserved
loop-i-preserved c =
    let p = c.requires in
    merging-on c.loop-i.invariant p.2 c.loop-i-test.true c.if-j-b.true p.0 p.1 c.lesser.ensures c.at_most-left.ensures.0

pub overflow_add-i-2 : goal.overflow_add-i-2
overflow_add-i-2 c = let m = c.loop-i.invariant in omega (arith, m.left, m.right)

pub copy_rest-requires : goal.copy_rest-requires
copy_rest-requires c =
    let m = c.loop-i.invariant in
    (m.left, omega (arith, m.left, m.right, m.same, c.requires.2))

pub overflow_add-a : goal.overflow_add-a
overflow_add-a c = omega (arith, c.loop-i.invariant.right)

-- copying the rest of `a` leaves the length as it was
same : (c : After-copy_rest) → length c.copy_rest.new.out ≡ length c.args.out.now
same c =
    let m = c.loop-i.invariant in
    copied-length c.copy_rest.ensures m.left (omega (arith, m.left, m.right, m.same, c.requires.2)) ∙ m.same

pub copy_rest-requires-2 : goal.copy_rest-requires-2
copy_rest-requires-2 c =
    let m = c.loop-i.invariant in
    (m.right, omega (arith, m.right, same (goal.at.copy_rest-requires-2 c).After-copy_rest, c.requires.2))

pub returns : goal.returns
returns c =
    let p = c.requires in
    let i = c.loop-i in
    let none : (length c.args.a.now ≤ i.i) ⊎ (length c.args.b.now ≤ i.j) = elim c.loop-i-test.branch [
      | then-loop-i-test+else-j-b w ↦ inr w.if-j-b.false
      | else-loop-i-test w ↦ inl w.loop-i-test.false
    ] in
    merging-end i.invariant p.2 p.0 none c.copy_rest.ensures c.copy_rest-2.ensures
