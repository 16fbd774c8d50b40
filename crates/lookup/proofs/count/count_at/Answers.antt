-- `lookup::count::count_at` meets its contract. The count is settled by the front bucket, or goes on behind it.
use native.Mathlib.Omega.{arith}
use Rattle.std.proofs.lemmas.Result.{err_from_is_err_and}
use Rattle.crumbmap.specs.Layouts.{layout1}
use Rattle.search.proofs.FoundLaws.{search-many}
use Rattle.machine.specs.Images.{in_front}
use Rattle.image.proofs.ImageReadLaws.{front-in}
use Rattle.lookup.proofs.CountSteps.{count-unsound, count-few, count_low, reaches}
use Rattle.lookup.proofs.count.count_at.Goals.{then-reading-lt-FRONT_SLOTS-via-then-reading-lt-FRONT_SLOTS, then-reading-lt-FRONT_SLOTS-via-else-reading-lt-FRONT_SLOTS+then-key-largest_front}
use Rattle.lookup.proofs.count.count_at.Goals as goal

pub sound_front_at-requires : goal.sound_front_at-requires
sound_front_at-requires c = front-in c.requires.within

pub returns-in_err-reading : goal.returns-in_err-reading
returns-in_err-reading c =
    let t = c.args.target in
    let p = err_from_is_err_and c.from_residual.result c.from_residual.ensures.1 in
    rw (p.1, p.2) (count-unsound layout1 t.size t.front.0 t.key c.args.image.now c.in_err-reading.ensures)

pub returns-then-reading-lt-FRONT_SLOTS : goal.returns-then-reading-lt-FRONT_SLOTS
returns-then-reading-lt-FRONT_SLOTS c =
    let t = c.args.target in
    let r = c.in_ok-reading.ensures in
    let found = rw c.bucket-b.ensures.0 at c.find_front.ensures in
    let here = search-many t.key (in_front layout1 t.front.0 c.args.image.now) r.0.list.order found c.copies_of-copies.ensures in
    elim c.then-reading-lt-FRONT_SLOTS.branch [
      | then-reading-lt-FRONT_SLOTS-via-then-reading-lt-FRONT_SLOTS w ↦ count-few t.size t.key r.0 r.1 here w.if-reading-lt-FRONT_SLOTS.true
      | then-reading-lt-FRONT_SLOTS-via-else-reading-lt-FRONT_SLOTS+then-key-largest_front w ↦
          count_low t.size t.key r.0 r.1 here w.if-reading-lt-FRONT_SLOTS.false (rw c.bucket-b.ensures.0 at w.largest_front.ensures) w.if-key-largest_front.true
    ]

pub count_behind-requires : goal.count_behind-requires
count_behind-requires c =
    let t = c.args.target in
    let r = c.in_ok-reading.ensures in
    let found = rw c.bucket-b.ensures.0 at c.find_front.ensures in
    let here = search-many t.key (in_front layout1 t.front.0 c.args.image.now) r.0.list.order found c.copies_of-copies.ensures in
    reaches c.requires r.0 r.1 here (omega arith) (rw c.bucket-b.ensures.0 at c.largest_front.ensures) (omega arith)
