-- `minifilter::read::ascends` meets its contract. A turn takes an even slot and the odd one behind it: each stops the pass or leaves the answer to
-- the slots behind it, and is counted where it holds less than `sought`.
use Rattle.std.proofs.Common.{◌≡◌, ℕ, suc, ◌+◌, ◌*◌, ◌-◌, ◌≤◌, ◌<◌, List, length, drop, get_or, sym, ◌∙◌, ap, zero-add, zero-le, add-one, arith}
use Rattle.std.specs.Int.Bits.{bit_and}
use Rattle.std.specs.Int.Count.{count_trailing_zeros}
use lib.Dec.{leb}
use borrow.Author.Tests.{le-leb, lt-leb}
use Rattle.multiset.specs.Multisets as M
use Rattle.crumbmap.specs.Layouts.{layout1}
use Rattle.minifilter.specs.Steps.Slots.{end_of, slot_minis, slot_members, in_order}
use Rattle.buckets.proofs.BucketLaws.{fits1}
use Rattle.minifilter.proofs.PassLaws.{ZeroAt, small1, zero1, gaps1, slots1-even, length-slot_members, slot_members-at, from_slot, pass-start, pass-stop, pass_on, pass-end, below-rest-smaller, below-rest-other, below-rest-none}
use Rattle.minifilter.proofs.read.ascends.Goals.{Start, In-loop-pair, After-member_at-even, Else-even-last, After-member_at-odd, After-loop-pair, then-even-sought, else-even-sought, then-odd-sought, else-odd-sought}
use Rattle.minifilter.proofs.read.ascends.Goals as goal

-- what the slots hold, as many as there are slots
abbrev held : Start → List ℕ
held c = slot_members layout1 c.args.crumbs c.args.w c.args.b.now

slots-are : (c : Start) → length (held c) ≡ c.args.slots
slots-are c =
    length-slot_members layout1 fits1 c.args.b.now c.requires.0 c.args.crumbs c.args.w (small1 c.args.crumbs c.args.w c.ranges.w.fits) c.requires.1
    ∙ sym c.requires.2

pub loop-pair-init : goal.loop-pair-init
unfolding in_order
loop-pair-init c =
    let ks = held (goal.at.loop-pair-init c).Start in (
      omega (arith, gaps1 c.args.w c.ranges.w.fits c.requires.1 c.args.crumbs),
      pass-start (end_of layout1 c.args.crumbs) ks,
      zero-le,
      sym (zero-add (M.below c.args.sought ks)),
    )

-- in a turn: the zeros of the even slot, and then of the odd one
even-zero : (c : In-loop-pair) → ZeroAt 64 layout1.minis (slot_minis layout1 c.args.crumbs c.args.w) (2 * c.loop-pair.pair) c.loop-pair.zeros
even-zero c =
    zero1 c.args.w c.ranges.w.fits c.requires.1 c.args.crumbs (2 * c.loop-pair.pair) c.loop-pair.zeros (omega (arith, c.requires.2)) c.loop-pair.invariant.0

odd-zero : (c : In-loop-pair)
    → ZeroAt 64 layout1.minis (slot_minis layout1 c.args.crumbs c.args.w) (suc (2 * c.loop-pair.pair)) (bit_and c.loop-pair.zeros (c.loop-pair.zeros - 1))
odd-zero c =
    let z = c.loop-pair.zeros in
    zero1 c.args.w c.ranges.w.fits c.requires.1 c.args.crumbs (suc (2 * c.loop-pair.pair)) (bit_and z (z - 1)) (omega (arith, c.requires.2)) (even-zero c).next

pub overflow_sub-zeros : goal.overflow_sub-zeros
overflow_sub-zeros c = omega (arith, (even-zero (goal.at.overflow_sub-zeros c).In-loop-pair).place)

pub member_at-even-requires : goal.member_at-even-requires
member_at-even-requires c =
    let z = even-zero (goal.at.member_at-even-requires c).In-loop-pair in
    (c.requires.0, omega (arith, z.place, z.mini), omega (arith, c.requires.2))

-- what `member_at` gave is what the even slot holds
even_is : (c : After-member_at-even) → c.member_at-even.result ≡ get_or (held (goal.at.After-member_at-even c).Start) (2 * c.loop-pair.pair) 0
even_is c =
    let a = c.args in
    let i = 2 * c.loop-pair.pair in
    let e : count_trailing_zeros 64 c.loop-pair.zeros - i ≡ get_or (slot_minis layout1 a.crumbs a.w) i 0 =
    omega (arith, (even-zero (goal.at.After-member_at-even c).In-loop-pair).place) in
    rw (c.member_at-even.ensures, e)
    (sym (slot_members-at layout1 fits1 a.b.now c.requires.0 a.crumbs a.w (small1 a.crumbs a.w c.ranges.w.fits) c.requires.1 i (omega (arith, c.requires.2))))

pub returns-then-even-last : goal.returns-then-even-last
returns-then-even-last c =
    let g = goal.at.returns-then-even-last c in
    rw (c.loop-pair.invariant.1 ∙ pass-stop (end_of layout1 c.args.crumbs) (held g.Start) c.loop-pair.last (2 * c.loop-pair.pair) (omega (arith, slots-are g.Start))
    (omega (arith, even_is g.After-member_at-even)))

-- what is still to be said from the odd slot on
even-on : (c : Else-even-last) → let ks = held (goal.at.Else-even-last c).Start in
    in_order layout1 c.args.crumbs c.args.w c.args.b.now ≡ from_slot (end_of layout1 c.args.crumbs) c.member_at-even.result (suc (2 * c.loop-pair.pair)) ks
even-on c =
    let g = goal.at.Else-even-last c in
    let i = 2 * c.loop-pair.pair in
    let m = even_is g.After-member_at-even in
    c.loop-pair.invariant.1
    ∙ pass_on (end_of layout1 c.args.crumbs) (held g.Start) c.loop-pair.last i (omega (arith, slots-are g.Start)) (omega (arith, m))
    ∙ ap (λ (x : ℕ). from_slot (end_of layout1 c.args.crumbs) x (suc i) (held g.Start)) (sym m)

pub overflow_sub-zeros-in-loop-pair : goal.overflow_sub-zeros-in-loop-pair
overflow_sub-zeros-in-loop-pair c = (even-zero (goal.at.overflow_sub-zeros-in-loop-pair c).In-loop-pair).some

pub overflow_sub-zeros-in-loop-pair-2 : goal.overflow_sub-zeros-in-loop-pair-2
overflow_sub-zeros-in-loop-pair-2 c = omega (arith, (odd-zero (goal.at.overflow_sub-zeros-in-loop-pair-2 c).In-loop-pair).place)

pub overflow_sub-zeros-in-loop-pair-3 : goal.overflow_sub-zeros-in-loop-pair-3
overflow_sub-zeros-in-loop-pair-3 c = omega (arith, (odd-zero (goal.at.overflow_sub-zeros-in-loop-pair-3 c).In-loop-pair).place)

pub member_at-odd-requires : goal.member_at-odd-requires
member_at-odd-requires c =
    let z = odd-zero (goal.at.member_at-odd-requires c).In-loop-pair in
    (c.requires.0, omega (arith, z.place, z.mini), omega (arith, c.requires.2))

-- and what it gave then is what the odd slot holds
odd_is : (c : After-member_at-odd) → c.member_at-odd.result ≡ get_or (held (goal.at.After-member_at-odd c).Start) (suc (2 * c.loop-pair.pair)) 0
odd_is c =
    let a = c.args in
    let i = 2 * c.loop-pair.pair in
    let z = c.loop-pair.zeros in
    let e : count_trailing_zeros 64 (bit_and z (z - 1)) - i - 1 ≡ get_or (slot_minis layout1 a.crumbs a.w) (suc i) 0 =
    omega (arith, (odd-zero (goal.at.After-member_at-odd c).In-loop-pair).place) in
    rw (c.member_at-odd.ensures, e, add-one i)
    (sym (slot_members-at layout1 fits1 a.b.now c.requires.0 a.crumbs a.w (small1 a.crumbs a.w c.ranges.w.fits) c.requires.1 (suc i) (omega (arith, c.requires.2))))

pub returns-then-odd-even : goal.returns-then-odd-even
returns-then-odd-even c =
    let g = goal.at.returns-then-odd-even c in
    rw (even-on g.Else-even-last ∙ pass-stop (end_of layout1 c.args.crumbs) (held g.Start) c.member_at-even.result (suc (2 * c.loop-pair.pair))
    (omega (arith, slots-are g.Start)) (omega (arith, odd_is g.After-member_at-odd)))

pub overflow_sub-zeros-in-loop-pair-4 : goal.overflow_sub-zeros-in-loop-pair-4
overflow_sub-zeros-in-loop-pair-4 c = (odd-zero (goal.at.overflow_sub-zeros-in-loop-pair-4 c).In-loop-pair).some

pub loop-pair-preserved : goal.loop-pair-preserved
loop-pair-preserved c =
    let g = goal.at.loop-pair-preserved c in
    let ks = held g.Start in
    let i = 2 * c.loop-pair.pair in
    let x = c.args.sought in
    let n = slots-are g.Start in
    let m = even_is g.After-member_at-even in
    let k = odd_is g.After-member_at-odd in
    let h : i < length ks = omega (arith, n) in
    let l : suc i < length ks = omega (arith, n) in
    let even : (c.if-even-sought.below ≤ suc c.loop-pair.below)
    × (c.if-even-sought.below + M.below x (drop (suc i) ks) ≡ c.loop-pair.below + M.below x (drop i ks)) =
    elim c.if-even-sought.branch [
      | then-even-sought w ↦ (omega (arith, w.below-is), omega (arith, w.below-is, below-rest-smaller x i ks h (omega (arith, m, w.if-even-sought.true))))
      | else-even-sought w ↦ (omega (arith, w.below-is), omega (arith, w.below-is, below-rest-other x i ks h (omega (arith, m, w.if-even-sought.false))))
    ] in
    let odd : (c.if-odd-sought.below ≤ suc c.if-even-sought.below)
    × (c.if-odd-sought.below + M.below x (drop (suc (suc i)) ks) ≡ c.if-even-sought.below + M.below x (drop (suc i) ks)) =
    elim c.if-odd-sought.branch [
      | then-odd-sought w ↦ (omega (arith, w.below-is), omega (arith, w.below-is, below-rest-smaller x (suc i) ks l (omega (arith, k, w.if-odd-sought.true))))
      | else-odd-sought w ↦ (omega (arith, w.below-is), omega (arith, w.below-is, below-rest-other x (suc i) ks l (omega (arith, k, w.if-odd-sought.false))))
    ] in
    let two : 2 * (c.loop-pair.pair + 1) ≡ suc (suc i) = omega arith in (
      rw two (odd-zero g.In-loop-pair).next,
      even-on g.Else-even-last ∙ pass_on (end_of layout1 c.args.crumbs) ks c.member_at-even.result (suc i) l (omega (arith, k)) ∙ rw (two, k),
      omega (arith, even.0, odd.0, c.loop-pair.invariant.2),
      rw two (omega (arith, c.loop-pair.invariant.3, even.1, odd.1)),
    )

-- after the last slot: nothing is left to say, and nothing to count
passed : (c : After-loop-pair) → let ks = held (goal.at.After-loop-pair c).Start in
    (in_order layout1 c.args.crumbs c.args.w c.args.b.now ≡ leb c.loop-pair.last (end_of layout1 c.args.crumbs)) × (M.below c.args.sought ks ≡ c.loop-pair.below)
passed c =
    let s = (goal.at.After-loop-pair c).Start in
    let i = 2 * c.loop-pair.pair in
    let h : length (held s) ≤ i = omega (arith, slots-are s, c.requires.2, slots1-even c.args.crumbs) in (
      c.loop-pair.invariant.1 ∙ pass-end (end_of layout1 c.args.crumbs) (held s) c.loop-pair.last i h,
      omega (arith, c.loop-pair.invariant.3, below-rest-none c.args.sought i (held s) h),
    )

pub returns-then-last-end_of : goal.returns-then-last-end_of
returns-then-last-end_of c =
    let p = passed (goal.at.returns-then-last-end_of c).After-loop-pair in
    rw (p.0, le-leb c.loop-pair.last (end_of layout1 c.args.crumbs) (omega (arith, c.if-last-end_of.true, c.end_of.ensures)), p.1)

pub returns : goal.returns
returns c =
    let p = passed (goal.at.returns c).After-loop-pair in
    rw (p.0, lt-leb c.loop-pair.last (end_of layout1 c.args.crumbs) (omega (arith, c.if-last-end_of.false, c.end_of.ensures)))
