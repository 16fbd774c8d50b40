-- `print_at` prints a blank line past the last front bucket, else a bucket's.
use mathlib.Core.Path.{sym, ◌∙◌}
use native.Mathlib.Omega.{arith}
use Rattle.crumbmap.specs.Layouts.{layout1, fronts}
use Rattle.printing.proofs.PageReads.{line-past, line-here}
use Rattle.printing.proofs.page.print_at.Goals as goal

pub returns-then-size-front : goal.returns-then-size-front
unfolding fronts
returns-then-size-front c =
    let a = c.args in
    c.put_blank.ensures ∙ sym (line-past layout1 a.size a.image.now a.front (omega arith))

pub print_bucket-requires : goal.print_bucket-requires
unfolding fronts
print_bucket-requires c = let p = c.requires in (p.1 (omega arith), p.2)

pub returns : goal.returns
unfolding fronts
returns c =
    let a = c.args in
    c.print_bucket.ensures ∙ sym (line-here layout1 a.size a.image.now a.front (omega arith))
