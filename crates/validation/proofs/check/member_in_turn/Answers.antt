-- `validation::check::member_in_turn` meets its contract. A member is in turn where its front bucket holds all its slots and its largest is at most
-- the member's key.
use mathlib.Core.Path.{◌≡◌, sym}
use Prim.Native.Nat.{◌/◌, ◌%◌}
use native.Mathlib.Omega.{arith}
use lib.ListN.{length}
use Rattle.multiset.specs.Multisets.{largest}
use Rattle.crumbmap.specs.Layouts.{layout1}
use Rattle.crumbmap.proofs.CrumbMapLaws.{home-lt}
use Rattle.machine.specs.Images.{in_front}
use Rattle.image.specs.Steps.ImageReads.{FrontRead}
use Rattle.image.proofs.ImageReadLaws.{front-full}
use Rattle.validation.proofs.CheckSteps.{turn-short, turn-full}
use Rattle.validation.proofs.check.member_in_turn.Goals.{After-home_of-front, After-count_front, Else-count_front-ne-FRONT_SLOTS}
use Rattle.validation.proofs.check.member_in_turn.Goals as goal

-- the front bucket that the crumb leads back to was read
read : (c : After-home_of-front) → FrontRead layout1 c.home_of-front.result.0 c.args.image.now
read c =
    let a = c.args in
    c.requires.0.front _ (home-lt a.size a.bucket.0 (a.member % 16) c.home_of-front.result.0 (omega arith) c.home_of-front.ensures)

-- how many it holds
many : (c : After-count_front) → c.count_front.result ≡ length (in_front layout1 c.home_of-front.result.0 c.args.image.now)
many c = rw c.bucket-mine.ensures.0 at c.count_front.ensures

pub bucket-mine-requires : goal.bucket-mine-requires
bucket-mine-requires c = (read (goal.at.bucket-mine-requires c).After-home_of-front).inside

pub count_front-requires : goal.count_front-requires
count_front-requires c = rw c.bucket-mine.ensures.0 (read (goal.at.count_front-requires c).After-home_of-front).sound

pub returns-then-count_front-ne-FRONT_SLOTS : goal.returns-then-count_front-ne-FRONT_SLOTS
returns-then-count_front-ne-FRONT_SLOTS c =
    let w = goal.at.returns-then-count_front-ne-FRONT_SLOTS c in
    let r = read w.After-home_of-front in
    rw c.home_of-front.ensures (sym (turn-short r (c.args.member / 16) (omega (arith, c.if-count_front-ne-FRONT_SLOTS.true, many w.After-count_front, r.list.room))))

pub largest_front-requires : goal.largest_front-requires
largest_front-requires c =
    let w = goal.at.largest_front-requires c in
    let f = front-full (read w.After-home_of-front) (sym (many w.After-count_front)) (omega arith) in
    rw c.bucket-mine.ensures.0 (f.read.sound, f.full)

pub returns : goal.returns
returns c =
    let w = goal.at.returns c in
    let f = front-full (read w.After-home_of-front) (sym (many w.After-count_front)) (omega arith) in
    let most : c.largest_front.result ≡ largest (in_front layout1 c.home_of-front.result.0 c.args.image.now) =
    rw c.bucket-mine.ensures.0 at c.largest_front.ensures in
    rw (c.home_of-front.ensures, most, turn-full f (c.args.member / 16))
