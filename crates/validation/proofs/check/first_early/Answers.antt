-- `validation::check::first_early` meets its contract. The loop's invariant: the first bucket with a member before its turn is the first from j on.
use Prim.Native.Nat.{◌<◌}
use native.Mathlib.Omega.{arith}
use Rattle.crumbmap.specs.Layouts.{layout1, backyards}
use Rattle.validation.proofs.CheckSteps.{early-on, early-stop, early-end}
use Rattle.validation.proofs.check.first_early.Goals.{In-loop-j}
use Rattle.validation.proofs.check.first_early.Goals as goal

-- j is the number of a backyard bucket
inside : (c : In-loop-j) → c.loop-j.j < backyards c.args.size
unfolding backyards
inside c = omega arith

pub bucket_in_turn-requires : goal.bucket_in_turn-requires
bucket_in_turn-requires c = (c.requires, inside (goal.at.bucket_in_turn-requires c).In-loop-j)

pub table_of-requires : goal.table_of-requires
table_of-requires c = (c.requires.whole.small, inside (goal.at.table_of-requires c).In-loop-j)

pub returns-then-not-bucket_in_turn : goal.returns-then-not-bucket_in_turn
returns-then-not-bucket_in_turn c =
    let a = c.args in
    let l = c.loop-j in
    let i = inside (goal.at.returns-then-not-bucket_in_turn c).In-loop-j in
    rw (
      c.table_of.ensures,
      early-stop layout1 a.size (backyards a.size) l.j a.image.now l.invariant i (c.requires.back l.j i) c.bucket_in_turn.ensures
          (rw c.if-not-bucket_in_turn.true),
    )

pub loop-j-preserved : goal.loop-j-preserved
loop-j-preserved c =
    let a = c.args in
    let l = c.loop-j in
    let i = inside (goal.at.loop-j-preserved c).In-loop-j in
    early-on layout1 a.size (backyards a.size) l.j a.image.now l.invariant i (c.requires.back l.j i) c.bucket_in_turn.ensures
    (rw c.if-not-bucket_in_turn.false)

pub returns : goal.returns
unfolding backyards
returns c =
    let a = c.args in
    rw (early-end layout1 a.size (backyards a.size) c.loop-j.j a.image.now c.loop-j.invariant (omega arith))
