-- `deletion::plan::plan_other` meets its contract. A front bucket that is not full, or whose largest is not exceeded, has nothing behind it that counts.
use native.Mathlib.Omega.{arith}
use Rattle.image.proofs.ImageReadLaws.{front-full}
use Rattle.deletion.proofs.DeleteSteps.{absent-short, absent-low}
use Rattle.deletion.proofs.plan.plan_other.Goals.{then-n-lt-FRONT_SLOTS-via-then-n-lt-FRONT_SLOTS, then-n-lt-FRONT_SLOTS-via-else-n-lt-FRONT_SLOTS+then-target-largest_front}
use Rattle.deletion.proofs.plan.plan_other.Goals as goal

pub returns-then-n-lt-FRONT_SLOTS : goal.returns-then-n-lt-FRONT_SLOTS
returns-then-n-lt-FRONT_SLOTS c =
    let t = c.args.target in
    let img = c.args.image.now in
    let p = c.requires in
    elim c.then-n-lt-FRONT_SLOTS.branch [
      | then-n-lt-FRONT_SLOTS-via-then-n-lt-FRONT_SLOTS w ↦
          absent-short t img p.read p.absent (omega (arith, p.many, w.if-n-lt-FRONT_SLOTS.true))
      | then-n-lt-FRONT_SLOTS-via-else-n-lt-FRONT_SLOTS+then-target-largest_front w ↦
          let top = rw w.bucket.ensures.0 at w.largest_front.ensures in
          absent-low t img (front-full p.read p.many w.if-n-lt-FRONT_SLOTS.false) p.absent (omega (arith, top, w.if-target-largest_front.true))
    ]
