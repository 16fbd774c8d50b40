-- `validation::check::bucket_in_turn` meets its contract. The loop's invariant: all members are in turn where those from the cursor's slot on are.
-- The measure is what is left of them.
use mathlib.Core.Path.{◌≡◌, ap, ◌∙◌}
use Prim.Native.Nat.{ℕ, ◌/◌, ◌%◌, ◌<◌}
use mathlib.Core.List.{List}
use native.Mathlib.Omega.{arith}
use lib.ListN.{length, get_or}
use Rattle.crumbmap.specs.Layouts.{layout1}
use Rattle.crumbmap.specs.CrumbMap.{home}
use Rattle.buckets.specs.Buckets.{back_list}
use Rattle.machine.specs.Checks.{all_in_turn, home_in_turn}
use Rattle.validation.proofs.CheckSteps.{member-homed, members-on, members-stop, members-end}
use Rattle.validation.proofs.check.bucket_in_turn.Goals.{In-loop-at, After-member_in_turn}
use Rattle.validation.proofs.check.bucket_in_turn.Goals as goal

-- the slot at hand is in use
used : (c : In-loop-at) → c.loop-at.at.slot < length (back_list layout1 c.back_bucket-mine.result.now)
used c = omega (arith, c.loop-at-test.true, c.count_back-members.ensures)

-- what was told of the member at hand
told : (c : After-member_in_turn) →
    let y = get_or (back_list layout1 c.back_bucket-mine.result.now) c.loop-at.at.slot 0 in
    c.member_in_turn.result ≡ home_in_turn layout1 (home c.args.size c.args.bucket.0 (y % 16)) (y / 16) c.args.image.now
told c = rw c.next_back-passed.ensures.0 at c.member_in_turn.ensures

pub member_in_turn-requires : goal.member_in_turn-requires
member_in_turn-requires c =
    let w = goal.at.member_in_turn-requires c in
    let a = c.args in
    let list = rw (← c.back_bucket-mine.ensures.0) at (c.requires.0.back a.bucket.0 c.requires.1).list.crumbs in (
      c.requires.0,
      c.requires.1,
      rw c.next_back-passed.ensures.0 (member-homed a.size a.bucket.0 c.loop-at.at.slot (back_list layout1 c.back_bucket-mine.result.now) list (used w.In-loop-at)),
    )

pub returns-then-not-member_in_turn : goal.returns-then-not-member_in_turn
returns-then-not-member_in_turn c =
    let w = goal.at.returns-then-not-member_in_turn c in
    let a = c.args in
    members-stop layout1 a.size a.bucket.0 a.image.now (back_list layout1 c.back_bucket-mine.result.now) c.loop-at.at.slot c.loop-at.invariant.1
    (used w.In-loop-at) (told w.After-member_in_turn) (rw c.if-not-member_in_turn.true)
    ∙ ap (λ (bytes : List ℕ). all_in_turn layout1 a.size a.bucket.0 a.image.now (back_list layout1 bytes)) c.back_bucket-mine.ensures.0

pub loop-at-preserved : goal.loop-at-preserved
loop-at-preserved c =
    let w = goal.at.loop-at-preserved c in
    let a = c.args in
    let e = c.next_back-passed.ensures in (
      e.2,
      rw e.1 (members-on layout1 a.size a.bucket.0 a.image.now (back_list layout1 c.back_bucket-mine.result.now) c.loop-at.at.slot c.loop-at.invariant.1
          (used w.In-loop-at) (told w.After-member_in_turn) (rw c.if-not-member_in_turn.false)),
    )

pub returns : goal.returns
returns c =
    let a = c.args in
    members-end layout1 a.size a.bucket.0 a.image.now (back_list layout1 c.back_bucket-mine.result.now) c.loop-at.at.slot c.loop-at.invariant.1
    (omega (arith, c.loop-at-test.false, c.loop-at.invariant.0.0, c.count_back-members.ensures))
    ∙ ap (λ (bytes : List ℕ). all_in_turn layout1 a.size a.bucket.0 a.image.now (back_list layout1 bytes)) c.back_bucket-mine.ensures.0
