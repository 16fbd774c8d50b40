-- `print_bucket` prints the front members of a bucket, and those behind it where it is full.
use mathlib.Core.Path.{◌≡◌, ◌∙◌, ap}
use Prim.Native.Nat.{ℕ}
use native.Mathlib.Omega.{arith}
use lib.ListN.{length}
use Rattle.crumbmap.specs.Layouts.{layout1}
use Rattle.machine.specs.Images.{in_front}
use Rattle.machine.specs.OccupancyPages.{line}
use Rattle.listing.proofs.ListingLaws.{behind-full}
use Rattle.printing.proofs.PageReads.{bucket-few, bucket-full}
use Rattle.printing.proofs.page.print_bucket.Goals.{After-count_front-near}
use Rattle.printing.proofs.page.print_bucket.Goals as goal

-- how many there are in front
many : (c : After-count_front-near) → let a = c.args in c.count_front-near.result ≡ length (in_front layout1 a.front.0 a.image.now)
many c = rw c.bucket.ensures.0 at c.count_front-near.ensures

pub returns-then-near-lt-FRONT_SLOTS : goal.returns-then-near-lt-FRONT_SLOTS
returns-then-near-lt-FRONT_SLOTS c =
    c.put_line.ensures
    ∙ ap (λ (m : ℕ). line layout1 c.args.front.0 m 0) (many (goal.at.returns-then-near-lt-FRONT_SLOTS c).After-count_front-near)
    ∙ bucket-few layout1 c.args.size c.args.image.now c.args.front.0 c.requires.0 (omega (arith, many (goal.at.returns-then-near-lt-FRONT_SLOTS c).After-count_front-near))

-- all slots are in use
pub count_overflow-requires : goal.count_overflow-requires
count_overflow-requires c =
    let p = c.requires.0 in
    record { within = p.within; both = (behind-full p (omega (arith, many (goal.at.count_overflow-requires c).After-count_front-near))).1 }

pub returns : goal.returns
returns c =
    c.put_line-2.ensures
    ∙ ap (λ (m : ℕ). line layout1 c.args.front.0 m c.count_overflow.result) (many (goal.at.returns c).After-count_front-near)
    ∙ ap (λ (m : ℕ). line layout1 c.args.front.0 (length (in_front layout1 c.args.front.0 c.args.image.now)) m) c.count_overflow.ensures
    ∙ bucket-full layout1 c.args.size c.args.image.now c.args.front.0 c.requires.0 (omega (arith, many (goal.at.returns c).After-count_front-near))
