-- `listing::lists::merge_parts` meets its contract. The parts of the copy are those of the list (`copy-first`, `copy-second`).
use mathlib.Core.Path.{sym}
use Rattle.listing.proofs.MergedLists.{copy-mergeable, copy-merged}
use Rattle.listing.proofs.lists.merge_parts.Goals as goal

pub returns-then-in_order : goal.returns-then-in_order
returns-then-in_order c = sym (c.in_order.ensures c.if-in_order.true)

pub merge_into-requires : goal.merge_into-requires
merge_into-requires c = copy-mergeable c.requires.0 c.copy_rest.ensures

pub returns : goal.returns
returns c =
    copy-merged c.requires.0 c.copy_rest.ensures c.merge_into.ensures
