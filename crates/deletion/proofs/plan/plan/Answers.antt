-- `deletion::plan::plan` meets its contract. A copy leaves the front bucket, or the delete goes on behind it.
use mathlib.Core.Path.{refl}
use native.Mathlib.Omega.{arith}
use Prim.Native.Nat.{◌<◌}
use Rattle.std.proofs.lemmas.Result.{err_from_is_err_and}
use Rattle.multiset.specs.Multisets.{copies}
use Rattle.crumbmap.specs.Layouts.{layout1}
use Rattle.search.proofs.FoundLaws.{search-absent, search-at}
use Rattle.machine.specs.Images.{in_front}
use Rattle.machine.specs.Machine.{delete_at}
use Rattle.image.specs.Steps.ImageReads.{At}
use Rattle.image.proofs.ImageReadLaws.{front-in, rank-at, front-full}
use Rattle.deletion.proofs.DeleteSteps.{delete-short}
use Rattle.deletion.proofs.plan.plan.Goals.{In-Some}
use Rattle.deletion.proofs.plan.plan.Goals as goal

-- a copy, at the slot behind the members below it
there : (c : In-Some) →
    let t = c.args.target in
    let xs = in_front layout1 t.front.0 c.args.image.now in
    (0 < copies t.key xs) × At t.key c.in-Some.found.slot xs
there c =
    let t = c.args.target in
    let order = c.in_ok-reading.ensures.0.list.order in
    let f = search-at t.key (in_front layout1 t.front.0 c.args.image.now) order (rw c.bucket.ensures.0 at c.in-Some.ensures) refl in
    (f.2, rank-at order f.0 f.2)

pub sound_front_at-requires : goal.sound_front_at-requires
sound_front_at-requires c = front-in c.requires.within

pub returns-in_err-reading : goal.returns-in_err-reading
unfolding delete_at
returns-in_err-reading c =
    let p = err_from_is_err_and c.from_residual.result c.from_residual.ensures.1 in
    rw (p.1, p.2) (rw c.in_err-reading.ensures)

pub plan_other-requires : goal.plan_other-requires
plan_other-requires c =
    let t = c.args.target in
    let r = c.in_ok-reading.ensures in
    record {
      placed = c.requires;
      read = r.0;
      many = r.1;
      absent = search-absent t.key (in_front layout1 t.front.0 c.args.image.now) r.0.list.order (rw c.bucket.ensures.0 at c.find_front.ensures) c.in_default.is;
    }

pub returns-then-reading-lt-FRONT_SLOTS : goal.returns-then-reading-lt-FRONT_SLOTS
returns-then-reading-lt-FRONT_SLOTS c =
    let r = c.in_ok-reading.ensures in
    let q = there (goal.at.returns-then-reading-lt-FRONT_SLOTS c).In-Some in
    record { read = r.0; here = q.1; delete = delete-short c.args.target c.args.image.now r.0 q.0 (omega (arith, r.1)) }

pub plan_refill-requires : goal.plan_refill-requires
plan_refill-requires c =
    let r = c.in_ok-reading.ensures in
    record { placed = c.requires; whole = front-full r.0 r.1 (omega arith); here = (there (goal.at.plan_refill-requires c).In-Some).1 }
