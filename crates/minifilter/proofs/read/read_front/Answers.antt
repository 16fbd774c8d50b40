-- `minifilter::read::read_front` meets its contract: a front bucket's 28 slots are all that it has.
use mathlib.Core.Path.{refl, sym, ◌∙◌}
use Rattle.crumbmap.specs.Layouts.{layout1}
use Rattle.minifilter.proofs.ReadLaws.{reading-front}
use Rattle.minifilter.proofs.read.read_front.Goals as goal

pub returns : goal.returns
returns c = c.read_slots.ensures ∙ sym (reading-front layout1 c.args.key c.args.b.now c.requires.0 refl)
