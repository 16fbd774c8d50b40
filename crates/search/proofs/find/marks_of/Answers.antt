-- `search::find::marks_of` meets its contract: a slot is marked where it holds the tag.
use Rattle.std.proofs.Common.{false, arith}
use Rattle.crumbmap.specs.Layouts.{layout1}
use Rattle.minifilter.specs.Steps.Slots.{tag_at}
use Rattle.search.proofs.find.marks_of.Goals as goal

pub returns : goal.returns
returns c = c.marks.ensures (tag_at layout1 false c.args.b.now) c.args.tag (λ i r h p. grind arith)
