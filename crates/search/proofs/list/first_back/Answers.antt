-- `search::list::first_back` meets its contract: no zero is taken away.
use borrow.Author.Rules.{rules}
use Rattle.search.specs.Steps.Searches.{without}
use Rattle.search.proofs.list.first_back.Goals as goal

pub returns : goal.returns
unfolding without
returns c = search rules
