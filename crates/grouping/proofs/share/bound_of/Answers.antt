-- `grouping::share::bound_of` meets its contract: all three buckets were read, or the front bucket sets the bound.
use Rattle.std.proofs.Common.{arith, ne_eqb, le-leb}
use borrow.Author.Tests.{lt-leb}
use Rattle.grouping.specs.Steps.Grouping.{bound_at}
use Rattle.grouping.proofs.share.bound_of.Goals as goal

pub returns-then-reads-gt2 : goal.returns-then-reads-gt2
unfolding bound_at
returns-then-reads-gt2 c =
    rw (ne_eqb c.args.reads 0 (λ e. omega (arith, c.requires.1)), le-leb 3 c.args.reads (omega (arith, c.if-reads-gt2.true)))

pub returns : goal.returns
unfolding bound_at
returns c =
    rw (ne_eqb c.args.reads 0 (λ e. omega (arith, c.requires.1)), lt-leb 3 c.args.reads (omega (arith, c.if-reads-gt2.false))) c.reach.ensures.0
