-- `search::find::find_in` meets its contract: the slot is past the mini-bucket or holds more, and there is no copy; or a scan of what is left of the
-- mini-bucket finds the end of the copies.
use mathlib.Core.Path.{◌≡◌, sym, ap}
use mathlib.Core.List.{List}
use mathlib.Core.Option.{none}
use Prim.Native.Nat.{ℕ, ◌+◌, ◌*◌, ◌<◌}
use native.Mathlib.Omega.{arith}
use Rattle.multiset.specs.Multisets.{found_in}
use Rattle.crumbmap.specs.Layouts.{layout1}
use Rattle.minifilter.specs.Steps.Readings.{members_of}
use Rattle.minifilter.specs.Steps.Slots.{span_of, low_at}
use Rattle.buckets.proofs.ElementLaws.{below-bytes}
use Rattle.buckets.proofs.BucketLaws.{fits1}
use Rattle.minifilter.proofs.HeldLaws.{span1-le, Held, held, sound-long}
use Rattle.minifilter.proofs.PassLaws.{slots1-le}
use Rattle.search.specs.Steps.Searches.{search_of}
use Rattle.search.proofs.SearchLaws.{find_none, find-some}
use Rattle.search.proofs.find.find_in.Goals.{After-past_of-past}
use Rattle.search.proofs.find.find_in.Goals as goal

-- the members, and the bucket that was read
abbrev members : After-past_of-past → List ℕ
members c = let a = c.args in members_of layout1 a.crumbs a.b.now

known : (c : After-past_of-past) → let a = c.args in Held layout1 a.crumbs a.b.now (members c)
known c =
    let a = c.args in
    held layout1 fits1 a.crumbs a.b.now (below-bytes a.b.now c.shared_slice_known-1.given) c.requires.sound

-- the slot holds more, or is another mini-bucket's
absent : (c : After-past_of-past) → let a = c.args in
    (a.slot < c.past_of-past.result → a.low < low_at layout1 a.crumbs a.b.now a.slot)
    → found_in (a.mini * span_of layout1 a.crumbs + a.low) (members c) ≡ none
absent c h =
    let a = c.args in
    find_none layout1 a.crumbs a.b.now (members c) (known c) a.mini a.low a.slot c.requires.low c.requires.rank
    (λ k. h (omega (arith, c.past_of-past.ensures.0)))

pub returns-then-past-slot : goal.returns-then-past-slot
returns-then-past-slot c = ap search_of (sym (absent (goal.at.returns-then-past-slot c).After-past_of-past (λ h. absurd (omega (arith, c.if-past-slot.true)))))

pub low_of-requires : goal.low_of-requires
low_of-requires c =
    let p = c.past_of-past.ensures in
    (sound-long layout1 c.args.crumbs c.args.b.now c.requires.sound, omega (arith, p.1, p.2, c.if-past-slot.false))

pub returns-then-low-low_of : goal.returns-then-low-low_of
returns-then-low-low_of c =
    ap search_of (sym (absent (goal.at.returns-then-low-low_of c).After-past_of-past (λ h. omega (arith, c.low_of.ensures, c.if-low-low_of.true))))

pub overflow_add-slot : goal.overflow_add-slot
overflow_add-slot c =
    omega (arith, c.past_of-past.ensures.1, c.past_of-past.ensures.2, slots1-le c.args.crumbs)

pub overflow_add-low : goal.overflow_add-low
overflow_add-low c = omega (arith, c.requires.low, span1-le c.args.crumbs)

pub scan-requires : goal.scan-requires
scan-requires c =
    let p = c.past_of-past.ensures in
    (sound-long layout1 c.args.crumbs c.args.b.now c.requires.sound, omega (arith, p.1, c.if-past-slot.false), p.2)

pub returns : goal.returns
returns c =
    let a = c.args in
    ap search_of
    (sym (find-some layout1 a.crumbs a.b.now (members (goal.at.returns c).After-past_of-past) (known (goal.at.returns c).After-past_of-past) a.mini a.low a.slot c.requires.low c.requires.rank c.scan.result
    (omega (arith, c.low_of.ensures, c.if-low-low_of.false)) (rw c.past_of-past.ensures.0 at c.scan.ensures)))

pub overflow_sub-copies : goal.overflow_sub-copies
overflow_sub-copies c = omega (arith, c.scan.ensures.start)
