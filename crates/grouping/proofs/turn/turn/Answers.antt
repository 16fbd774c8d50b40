-- `grouping::turn::turn` meets its contract, phase by phase, on the body of the image.
use Rattle.std.proofs.Common.{ne_eqb, arith}
use Rattle.crumbmap.specs.Layouts.{layout1}
use Rattle.form.specs.Tails.{body}
use Rattle.tails.proofs.OpenLaws.{whole_long}
use Rattle.grouping.specs.Steps.Grouping.{Known, turned}
use Rattle.grouping.proofs.GroupLaws.{body_bytes}
use Rattle.grouping.proofs.turn.turn.Goals.{In-1}
use Rattle.grouping.proofs.turn.turn.Goals as goal

pub body_of-requires : goal.body_of-requires
body_of-requires c = whole_long c.args.image.now (c.requires.fetching c.in-0.is)

pub returns-in-0 : goal.returns-in-0
unfolding turned
returns-in-0 c = rw (c.in-0.is, c.fetch.ensures, c.body_of.ensures)

-- what the state says while the row is tested
live : (c : In-1) → let a = c.args in Known layout1 (body a.image.now) a.s
live c = c.requires.testing c.in-1.is (body_bytes c.args.image.now (λ i. (c.type_inv.image i).fits))

pub body_of-requires-in-1 : goal.body_of-requires-in-1
body_of-requires-in-1 c = whole_long c.args.image.now (live c).whole

pub test-requires : goal.test-requires
test-requires c = rw c.body_of-in-1.ensures (live (goal.at.test-requires c).In-1)

pub returns-in-1 : goal.returns-in-1
unfolding turned
returns-in-1 c = rw (c.in-1.is, c.test.ensures, c.body_of-in-1.ensures)

pub body_of-requires-in-2 : goal.body_of-requires-in-2
body_of-requires-in-2 c = whole_long c.args.image.now (c.requires.telling c.in-2.is).0

pub returns-in-2 : goal.returns-in-2
unfolding turned
returns-in-2 c = rw (c.in-2.is, c.tell.ensures, c.body_of-in-2.ensures)

pub returns-in_default : goal.returns-in_default
unfolding turned
returns-in_default c =
    let p = c.args.phase in
    rw (ne_eqb p 0 (λ e. omega arith), ne_eqb p 1 (λ e. omega arith), ne_eqb p 2 (λ e. omega arith))
