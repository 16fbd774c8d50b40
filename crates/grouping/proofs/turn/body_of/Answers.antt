-- `grouping::turn::body_of` meets its contract. All bytes but the last 64 are the body.
use Rattle.std.proofs.Common.{refl}
use Rattle.form.specs.Tails.{body}
use Rattle.grouping.proofs.turn.body_of.Goals as goal

pub returns : goal.returns
unfolding body
returns c = refl
