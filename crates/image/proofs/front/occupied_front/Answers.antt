-- `image::front::occupied_front` meets its contract: the 64 bytes that are lent are those of the front bucket that has members.
use mathlib.Core.Path.{◌≡◌, sym, ◌∙◌}
use lib.ListN.{length}
use borrow.Author.Tests.{eq-eqb, ne_eqb}
use Rattle.image.specs.Steps.ImageReads.{occupied}
use Rattle.machine.specs.Images.{in_front}
use Rattle.crumbmap.specs.Layouts.{layout1}
use Rattle.image.proofs.front.occupied_front.Goals as goal

pub returns-then-count_front-eq0 : goal.returns-then-count_front-eq0
unfolding occupied
returns-then-count_front-eq0 c =
    let a = c.args in
    let b = c.bucket-mine in
    let n : c.count_front.result ≡ length (in_front layout1 a.front.0 a.first.now) =
    rw b.ensures.0 at c.count_front.ensures in
    (c.bucket.ensures.0 ∙ rw (eq-eqb (length (in_front layout1 a.front.0 a.first.now)) 0 (sym n ∙ c.if-count_front-eq0.true)), c.bucket.ensures.1)

pub returns-else-count_front-eq0 : goal.returns-else-count_front-eq0
unfolding occupied
returns-else-count_front-eq0 c =
    let a = c.args in
    let b = c.bucket-mine in
    let n : c.count_front.result ≡ length (in_front layout1 a.front.0 a.first.now) =
    rw b.ensures.0 at c.count_front.ensures in
    (b.ensures.0 ∙ rw (ne_eqb (length (in_front layout1 a.front.0 a.first.now)) 0 (λ e. c.if-count_front-eq0.false (n ∙ e))), b.ensures.1)
