-- `search::find::find_back` meets its contract: a member is its mini-bucket and the rest.
use mathlib.Core.Bool.{true}
use native.Mathlib.Nat.{div-add-mod'}
use native.Mathlib.Omega.{arith}
use Rattle.crumbmap.specs.Layouts.{layout1}
use Rattle.minifilter.specs.Steps.Slots.{span_of}
use Rattle.search.proofs.find.find_back.Goals as goal

pub find_in-requires : goal.find_in-requires
find_in-requires c =
    record { sound = c.requires.0; mini = omega (arith, c.requires.1); low = omega arith; rank = rw (div-add-mod' c.args.member (span_of layout1 true)) c.requires.2 }

pub returns : goal.returns
returns c = rw (div-add-mod' c.args.member (span_of layout1 true)) at c.find_in.ensures
