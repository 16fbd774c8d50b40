-- `tails::tail::start_tail` meets its contract: noughts, then the total's eight bytes, then the layout's.
use mathlib.Core.Path.{refl}
use Rattle.multiset.specs.Digits.{digits, padded}
use Rattle.form.specs.Tails.{tail_bytes}
use Rattle.tails.proofs.tail.start_tail.Goals as goal

pub returns : goal.returns
unfolding tail_bytes padded digits
returns c =
    let f = c.fill.ensures.after (λ y e. e) in
    rw (c.put_word.ensures, f, c.requires) refl
