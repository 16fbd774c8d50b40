-- `words::select::entries` meets its contract: antt computes the list that the rule of the entries gives, all 2,048 of them.
use mathlib.Core.Path.{refl}
use Rattle.words.specs.Select.{select_in, select_table}
use Rattle.words.proofs.select.entries.Goals as goal

pub returns : goal.returns
unfolding select_in select_table
returns c = refl
