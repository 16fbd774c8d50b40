-- Where a member stands in a sound bucket, at any layout, for front and backyard alike: what a scan of one mini-bucket's slots finds.
-- Main results: `rank-scanned`, `find_none`, `find-some`.
use mathlib.Core.Path.{◌≡◌, sym, ap}
use Prim.Native.Nat.{ℕ, suc, ◌+◌, ◌*◌, ◌/◌, ◌-◌, ◌≤◌, ◌<◌}
use mathlib.Core.Bool.{Bool}
use mathlib.Core.List.{List}
use mathlib.Core.Option.{none, some}
use native.Mathlib.Nat.{div-lt_iff_lt-mul, suc-mul}
use native.Mathlib.Decide.{dec_le, ℕ_discrete}
use native.Mathlib.Omega.{arith, by_contra, both_ways}
use lib.ListN.{length, get_or}
use lib.Dec.{T}
use Rattle.multiset.specs.Multisets.{ascending, below, copies, found_in}
use Rattle.multiset.specs.Digits.{highs}
use Rattle.crumbmap.specs.Layouts.{Layout}
use Rattle.minifilter.specs.Steps.Slots.{span_of, low_at}
use Rattle.search.specs.Steps.Searches.{Scanned}
use Rattle.multiset.proofs.RankLaws.{below-le-length, below_suc, found_none, found_some}
use Rattle.multiset.proofs.SlotLaws.{slot-below, slot-above}
use Rattle.multiset.proofs.DigitLaws.{ascending-highs, length-highs}
use Rattle.crumbmap.proofs.FingerprintLaws.{parts-high}
use Rattle.buckets.proofs.HighLaws.{get_d-highs, highs-from, highs-past, parts-lt, parts-le}
use Rattle.minifilter.proofs.HeldLaws.{Held, span_pos}

-- a slot more that holds less than `low`
pub smaller-on : (f : ℕ → ℕ) (from slot low : ℕ) → ((i : ℕ) → from ≤ i → i < slot → f i < low) → f slot < low
    → (i : ℕ) → from ≤ i → i < slot + 1 → f i < low
smaller-on f from slot low before here i h l = elim (ℕ_discrete i slot) [ yes e ↦ rw e here | no n ↦ before i h (omega arith) ]

-- a slot with smaller members in front of it and none from it on
below-settled : (x p : ℕ) (ys : List ℕ) → T (ascending ys) → p ≤ length ys → ((i : ℕ) → i < p → get_or ys i 0 < x) → (p < length ys → x ≤ get_or ys p 0)
    → below x ys ≡ p
below-settled x p ys a r l h = both_ways (below x ys) p
    (by_contra (below x ys) p (λ more. omega (arith, slot-below x p ys a more, h (omega (arith, below-le-length x ys)))))
    (by_contra p (below x ys) (λ less. omega (arith, slot-above x (below x ys) ys a (omega arith) (omega arith), l (below x ys) less)))

module _ (L : Layout) (crumbs : Bool) (b ys : List ℕ) (h : Held L crumbs b ys) (mini : ℕ) where
  abbrev K : ℕ
  K = span_of L crumbs

  abbrev ms : List ℕ
  ms = highs K ys

  minis-order : T (ascending ms)
  minis-order = ascending-highs K ys (span_pos L crumbs) h.order

  -- members in front of the mini-bucket's slots are smaller
  before-mini : (i : ℕ) → i < below mini ms → get_or ys i 0 < mini * K
  before-mini i l = (div-lt_iff_lt-mul (span_pos L crumbs)).0 (rw (get_d-highs K i ys) at (slot-below mini i ms minis-order l))

  scanned-below : (low from r : ℕ) → low ≤ K → below mini ms ≤ from → ((i : ℕ) → i < from → get_or ys i 0 < mini * K + low)
      → Scanned L crumbs b from (below (suc mini) ms) low r → below (mini * K + low) ys ≡ r
  scanned-below low from r fit start before s =
      let len : length ms ≡ length ys = length-highs K ys in
      let most : below (suc mini) ms ≤ length ms = below-le-length (suc mini) ms in
      below-settled (mini * K + low) r ys h.order (omega (arith, s.stop))
      (λ i l. elim (dec_le from i) [
        | yes e ↦ parts-lt K (get_or ys i 0) mini low (rw (get_d-highs K i ys) at (slot-below (suc mini) i ms minis-order (omega (arith, s.stop))))
            (rw (h.low i (omega (arith, s.stop))) at (s.smaller i e l))
        | no n ↦ before i (omega arith)
      ])
      (λ l. elim (dec_le (below (suc mini) ms) r) [
        | yes e ↦ omega (
          arith,
          suc-mul mini K,
          parts-le K (get_or ys r 0) (suc mini) 0 (rw (get_d-highs K r ys) at (slot-above (suc mini) r ms minis-order e (omega arith))) (omega arith),
        )
        | no n ↦ parts-le K (get_or ys r 0) mini low
            (rw (get_d-highs K r ys) at (slot-above mini r ms minis-order (omega (arith, s.start)) (omega arith)))
            (rw (h.low r l) at (s.here (omega arith)))
      ])

-- a scan of the mini-bucket's slots finds how many members are below one
pub rank-scanned : (L : Layout) (crumbs : Bool) (b ys : List ℕ) → Held L crumbs b ys → (mini low slot : ℕ) → low < span_of L crumbs
    → Scanned L crumbs b (below mini (highs (span_of L crumbs) ys)) (below (suc mini) (highs (span_of L crumbs) ys)) low slot
    → slot ≡ below (mini * span_of L crumbs + low) ys
rank-scanned L crumbs b ys h mini low slot fit s =
    sym (scanned-below L crumbs b ys h mini low (below mini (highs (span_of L crumbs) ys)) slot (omega arith) (omega arith)
    (λ i l. omega (arith, before-mini L crumbs b ys h mini i l)) s)

mini-of : (L : Layout) (crumbs : Bool) (mini low : ℕ) → low < span_of L crumbs → (mini * span_of L crumbs + low) / span_of L crumbs ≡ mini
mini-of L crumbs mini low h = parts-high (span_of L crumbs) mini low h

-- the first slot that holds as much is one of the mini-bucket's, or the one past them
pub rank-from : (L : Layout) (crumbs : Bool) (ys : List ℕ) (mini low : ℕ) → low < span_of L crumbs
    → below mini (highs (span_of L crumbs) ys) ≤ below (mini * span_of L crumbs + low) ys
rank-from L crumbs ys mini low h = rw (mini-of L crumbs mini low h) at (highs-from (span_of L crumbs) (mini * span_of L crumbs + low) ys (span_pos L crumbs))

pub rank-past : (L : Layout) (crumbs : Bool) (ys : List ℕ) (mini low : ℕ) → low < span_of L crumbs
    → below (mini * span_of L crumbs + low) ys ≤ below (suc mini) (highs (span_of L crumbs) ys)
rank-past L crumbs ys mini low h =
    let x : ℕ = mini * span_of L crumbs + low in
    omega (arith, below_suc x ys, rw (mini-of L crumbs mini low h) at (highs-past (span_of L crumbs) x ys (span_pos L crumbs)))

-- a scan from there for the next larger member finds the end of the copies
copies-scanned : (L : Layout) (crumbs : Bool) (b ys : List ℕ) → Held L crumbs b ys → (mini low slot end : ℕ) → low < span_of L crumbs
    → slot ≡ below (mini * span_of L crumbs + low) ys → Scanned L crumbs b slot (below (suc mini) (highs (span_of L crumbs) ys)) (low + 1) end
    → end - slot ≡ copies (mini * span_of L crumbs + low) ys
copies-scanned L crumbs b ys h mini low slot end fit e s =
    let x : ℕ = mini * span_of L crumbs + low in
    let next : mini * span_of L crumbs + (low + 1) ≡ suc x = omega arith in
    let last : below (mini * span_of L crumbs + (low + 1)) ys ≡ end = scanned-below L crumbs b ys h mini (low + 1) slot end (omega arith)
    (omega (arith, rank-from L crumbs ys mini low fit)) (λ i l. omega (arith, slot-below x i ys h.order (omega arith))) s in
    omega (arith, below_suc x ys, ap (λ (z : ℕ). below z ys) next)

-- the slot behind the smaller members: no copy stands there where its mini-bucket has ended or it holds more; where it holds no more, the copies run
-- on from it up to the first slot that does
module _ (L : Layout) (crumbs : Bool) (b ys : List ℕ) (h : Held L crumbs b ys) (mini low slot : ℕ) (l : low < span_of L crumbs)
    (at : slot ≡ below (mini * span_of L crumbs + low) ys) where
  pub find_none : (slot < below (suc mini) (highs (span_of L crumbs) ys) → low < low_at L crumbs b slot) → found_in (mini * span_of L crumbs + low) ys ≡ none
  find_none more =
      let s : Scanned L crumbs b slot (below (suc mini) (highs (span_of L crumbs) ys)) (low + 1) slot = record {
        start = omega arith;
        stop = omega (arith, at, rank-past L crumbs ys mini low l);
        smaller = λ i p q. absurd (omega arith);
        here = λ p. omega (arith, more p);
      } in
      found_none (mini * span_of L crumbs + low) ys (omega (arith, copies-scanned L crumbs b ys h mini low slot slot l at s))

  pub find-some : (end : ℕ) → low_at L crumbs b slot ≤ low → Scanned L crumbs b (slot + 1) (below (suc mini) (highs (span_of L crumbs) ys)) (low + 1) end
      → found_in (mini * span_of L crumbs + low) ys ≡ some (record { slot = slot; copies = end - slot })
  find-some end few s =
      let x : ℕ = mini * span_of L crumbs + low in
      let all : Scanned L crumbs b slot (below (suc mini) (highs (span_of L crumbs) ys)) (low + 1) end = record {
        start = omega (arith, s.start);
        stop = s.stop;
        smaller = λ i p q. elim (ℕ_discrete i slot) [ yes e ↦ rw e (omega arith) | no n ↦ s.smaller i (omega arith) q ];
        here = s.here;
      } in
      let many : end - slot ≡ copies x ys = copies-scanned L crumbs b ys h mini low slot end l at all in
      rw (many, at) (found_some x ys h.order (omega (arith, s.start, many)))
