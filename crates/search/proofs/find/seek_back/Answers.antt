-- `search::find::seek_back` meets its contract: a member is its mini-bucket and the rest.
use mathlib.Core.Bool.{true}
use native.Mathlib.Nat.{div-add-mod'}
use native.Mathlib.Omega.{arith}
use Rattle.crumbmap.specs.Layouts.{layout1}
use Rattle.minifilter.specs.Steps.Slots.{span_of}
use Rattle.search.proofs.find.seek_back.Goals as goal

pub seek_in-requires : goal.seek_in-requires
seek_in-requires c = let p = c.requires in record { sound = p.0; mini = omega (arith, p.1); low = omega arith }

pub returns : goal.returns
returns c = rw (div-add-mod' c.args.member (span_of layout1 true)) at c.seek_in.ensures
