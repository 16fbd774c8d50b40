-- `search::find::rank_back` meets its contract: a member is its mini-bucket and the rest, and select finds the end of the mini-bucket before.
use mathlib.Core.Path.{◌∙◌}
use mathlib.Core.Bool.{true}
use native.Mathlib.Nat.{div-add-mod'}
use native.Mathlib.Omega.{arith}
use Rattle.crumbmap.specs.Layouts.{layout1}
use Rattle.minifilter.specs.Steps.Slots.{span_of}
use Rattle.search.proofs.find.rank_back.Goals as goal

pub word_of-requires : goal.word_of-requires
word_of-requires c = omega (arith, c.requires.1.long)

pub rank_in-requires : goal.rank_in-requires
rank_in-requires c =
    let p = c.requires in
    (record { sound = p.1; mini = omega (arith, p.2); low = omega arith }, c.select-end.ensures ∙ rw (c.rank_before.ensures, c.word_of.ensures))

pub returns : goal.returns
returns c = rw (div-add-mod' c.args.member (span_of layout1 true)) at c.rank_in.ensures
