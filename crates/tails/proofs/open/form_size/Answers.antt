-- `tails::open::form_size` meets its contract: no image is shorter than a tail.
use mathlib.Core.Path.{sym, ap}
use Rattle.image.specs.Steps.ImageReads.{sizing}
use Rattle.tails.proofs.OpenLaws.{short_none}
use Rattle.tails.proofs.open.form_size.Goals as goal

pub returns-then-len-lt64 : goal.returns-then-len-lt64
returns-then-len-lt64 c = sym (ap sizing (short_none c.args.len c.if-len-lt64.true))
