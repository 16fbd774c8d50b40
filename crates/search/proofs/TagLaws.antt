-- Where a key stands in a front bucket by the slots that hold its tag, at any layout: by the first of them (`tag-none`, `tag-rank`), and its copies from
-- there on, by the next slot (`run-copies`, `lone-copy`) or by the marks (`marked-one`, `marked-run`). The last section
-- is of layout 1 (`marks-absent`, `marks-lowest`).
use mathlib.Core.Path.{◌≡◌, refl, sym, ap, ◌∙◌}
use Prim.Native.Nat.{ℕ, zero, suc, ◌+◌, ◌*◌, ◌-◌, ◌/◌, ◌%◌, ◌^◌, ◌≤◌, ◌<◌, min}
use mathlib.Core.Bool.{Bool, true, false, ◌&&◌}
use mathlib.Core.List.{List}
use mathlib.Core.Option.{none}
use native.Mathlib.Nat.{le_antisymm, mul-le-mul_right, div-add-mod'}
use native.Mathlib.Decide.{dec_le}
use native.Mathlib.Omega.{arith}
use lib.ListN.{length, get_or, take}
use lib.Dec.{T, eqb, lit≤}
use borrow.Author.Tests.{eqb-true}
use lib.Pow.{pow_mono}
use lib.Count.{ones_in, count_trailing_zeros}
use Rattle.multiset.specs.Multisets.{ascending, below, copies, found_in}
use Rattle.multiset.specs.Digits.{highs, value}
use Rattle.multiset.proofs.RankLaws.{below-le-length, found_none, found-copies}
use Rattle.multiset.proofs.SlotLaws.{slot-below, slot-above, slot-holds, slot-inside, holds-from, holds-past, holds-copy}
use Rattle.multiset.proofs.DigitLaws.{ascending-highs, length-highs}
use Rattle.crumbmap.specs.Layouts.{Layout, layout1, tags, keys}
use Rattle.crumbmap.proofs.FingerprintLaws.{parts-high, parts_low}
use Rattle.crumbmap.proofs.TestLaws.{both_true}
use Rattle.buckets.proofs.HighLaws.{get_d-highs}
use Rattle.minifilter.specs.Steps.Readings.{members_of}
use Rattle.minifilter.specs.Steps.Slots.{tag_at}
use Rattle.words.specs.Steps.Wide.{word_bytes1}
use Rattle.words.proofs.SelectLaws.{slot-minis_in}
use Rattle.minifilter.specs.Steps.Marks.{marks_of}
use Rattle.minifilter.proofs.HeldLaws.{Held, span_pos, held-many1, held-minis1}
use Rattle.search.specs.Steps.Searches.{Scanned, Marked}
use Rattle.search.proofs.SearchLaws.{find-some}
use Rattle.minifilter.proofs.MarkLaws.{Run, marks-lt, marks-none, first-mark, run-one, run_more, run-some}

-- ---- a key

module _ (L : Layout) (b xs : List ℕ) (h : Held L false b xs) where
  abbrev K : ℕ
  K = tags L

  abbrev tag : ℕ → ℕ
  tag i = tag_at L false b i

  -- a slot in use holds the tag of its member
  tag_of : (i : ℕ) → i < length xs → tag i ≡ get_or xs i 0 % K
  tag_of i l = h.low i l

  module _ (x : ℕ) where
    others : (i : ℕ) → (tag i ≡ x % K → ⊥) → i < length xs → get_or xs i 0 ≡ x → ⊥
    others i other k e = other (tag_of i k ∙ ap (λ (y : ℕ). y % K) e)

    -- no slot has the tag, and the key is not there
    pub tag-none : ((i : ℕ) → i < L.front_slots → tag i ≡ x % K → ⊥) → found_in x xs ≡ none
    tag-none other = found_none x xs (go (copies x xs) refl)
      where
        go : (n : ℕ) → copies x xs ≡ n → n ≡ 0
        go zero e = refl
        go (suc n) e =
            let some : 0 < copies x xs = omega arith in
            let inside = slot-inside x xs h.order some in
            absurd (others (below x xs) (other (below x xs) (omega (arith, inside, h.room))) inside (slot-holds x xs h.order some))

    -- the first that has it is one of the key's mini-bucket, and so the lowest of its slots
    module _ (slot : ℕ) (here : tag slot ≡ x % K) (l : slot < length xs) (e : get_or (highs K xs) slot 0 ≡ x / K) where
      whole : get_or xs slot 0 ≡ x
      whole = sym (div-add-mod' (get_or xs slot 0) K) ∙ rw (sym (get_d-highs K slot xs), e, sym (tag_of slot l), here) (div-add-mod' x K)

      pub tag-there : 0 < copies x xs
      tag-there = holds-copy x slot xs h.order l whole

      pub tag-rank : ((i : ℕ) → i < slot → tag i ≡ x % K → ⊥) → slot ≡ below x xs
      tag-rank first = elim (dec_le slot (below x xs)) [
        | yes g ↦ le_antisymm g (holds-from x slot xs h.order l whole)
        | no g ↦ absurd (others (below x xs) (first (below x xs) (omega arith)) (slot-inside x xs h.order tag-there) (slot-holds x xs h.order tag-there))
      ]

  -- from the lowest slot of a key on
  module _ (mini low slot : ℕ) (small : low < K) (at : slot ≡ below (mini * K + low) xs) (there : 0 < copies (mini * K + low) xs) where
    abbrev ms : List ℕ
    ms = highs K xs

    order : T (ascending ms)
    order = ascending-highs K xs (span_pos L false) h.order

    key-inside : slot < length xs
    key-inside = omega (arith, at, slot-inside (mini * K + low) xs h.order there)

    holds : get_or xs slot 0 ≡ mini * K + low
    holds = rw at (slot-holds (mini * K + low) xs h.order there)

    key-tag : tag slot ≡ low
    key-tag = tag_of slot key-inside ∙ rw holds (parts_low K mini low small)

    pub in-mini : slot < below (suc mini) ms
    in-mini = holds-past mini slot ms order (omega (arith, key-inside, length-highs K xs)) (get_d-highs K slot xs ∙ rw holds (parts-high K mini low small))

    -- a slot of the mini-bucket behind them holds a larger tag
    above : (i : ℕ) → slot ≤ i → i < below (suc mini) ms → (tag i ≡ low → ⊥) → low < tag i
    above i g k other =
        let y : ℕ = get_or xs i 0 in
        let inside : i < length xs = omega (arith, below-le-length (suc mini) ms, length-highs K xs) in
        let up : mini * K + low ≤ y = slot-above (mini * K + low) i xs h.order (omega (arith, at)) inside in
        let high : y / K < suc mini = rw (get_d-highs K i xs) at (slot-below (suc mini) i ms order k) in
        let part : y / K * K ≤ mini * K = mul-le-mul_right K (omega arith) in
        let same : tag i ≡ y % K = tag_of i inside in
        elim (dec_le (tag i) low) [ yes z ↦ absurd (other (omega (arith, div-add-mod' y K))) | no z ↦ omega arith ]

    -- the copies run on up to the first slot of the mini-bucket that holds more
    pub run-copies : (end : ℕ) → Scanned L false b (slot + 1) (below (suc mini) ms) (low + 1) end → end - slot ≡ copies (mini * K + low) xs
    run-copies end s =
        let few : tag slot ≤ low = omega (arith, key-tag) in
        (found-copies (mini * K + low) xs _ h.order (find-some L false b xs h mini low slot small at end few s)).1

    -- there is one, where the next slot has another tag or there is none
    pub lone-copy : (slot + 1 < L.front_slots → tag (slot + 1) ≡ low → ⊥) → 1 ≡ copies (mini * K + low) xs
    lone-copy other =
        let most : below (suc mini) ms ≤ length ms = below-le-length (suc mini) ms in
        let scanned : Scanned L false b (slot + 1) (below (suc mini) ms) (low + 1) (slot + 1) = record {
          start = omega arith;
          stop = omega (arith, in-mini);
          smaller = λ i j k. absurd (omega arith);
          here = λ k. omega (arith, above (slot + 1) (omega arith) k (other (omega (arith, length-highs K xs, h.room))));
        } in
        omega (arith, run-copies (slot + 1) scanned)

    -- as many as slots in a row have its tag, as far as they are its mini-bucket's
    tag-copies : (r : ℕ) → 0 < r → Run tag low slot (L.front_slots - slot) r → min (below (suc mini) ms - slot) r ≡ copies (mini * K + low) xs
    tag-copies r p run =
        let end : ℕ = slot + min (below (suc mini) ms - slot) r in
        let most : below (suc mini) ms ≤ length ms = below-le-length (suc mini) ms in
        let scanned : Scanned L false b (slot + 1) (below (suc mini) ms) (low + 1) end = record {
          start = omega (arith, in-mini);
          stop = omega (arith, in-mini);
          smaller = λ i j k. omega (arith, run.within i (omega arith) (omega arith));
          here = λ k.
              let s : end ≡ slot + r = omega arith in
              rw s (omega (arith, above (slot + r) (omega arith) (omega arith) (run.behind (omega (arith, length-highs K xs, h.room)))));
        } in
        omega (arith, run-copies end scanned)

-- ---- a key that stands there, by the marks of its tag from its lowest slot on

module _ (L : Layout) (b : List ℕ) (h : Held L false b (members_of L false b)) (slot mini low marks : ℕ) (m : Marked L b slot mini low marks) where
  abbrev xs : List ℕ
  xs = members_of L false b

  abbrev rest : ℕ
  rest = L.front_slots - slot

  room : slot < L.front_slots
  room = omega (arith, key-inside L b xs h mini low slot m.standing.rank.low m.standing.rank.rank m.standing.there, h.room)

  here : tag_at L false b slot ≡ low
  here = key-tag L b xs h mini low slot m.standing.rank.low m.standing.rank.rank m.standing.there

  counted : (r : ℕ) → 0 < r → Run (tag_at L false b) low slot rest r
      → min (below (suc mini) (highs (tags L) xs) - slot) r ≡ copies (mini * tags L + low) xs
  counted = tag-copies L b xs h mini low slot m.standing.rank.low m.standing.rank.rank m.standing.there

  pub marked-small : marks < 2 ^ L.front_slots
  marked-small = omega (
    arith,
    m.marks-are,
    marks-lt (tag_at L false b) low slot rest,
    pow_mono {i = rest} {j = L.front_slots} (omega arith),
  )

  -- the next slot has no mark, and there is one copy
  pub marked-one : marks / 2 % 2 ≡ 0 → 1 ≡ copies (mini * tags L + low) xs
  marked-one z =
      let run = run-one (tag_at L false b) low slot rest here (rw m.marks-are at z) (omega (arith, room)) in
      omega (arith, counted 1 (omega arith) run, m.standing.there)

  -- the marks in a row, as far as the mini-bucket goes
  pub marked-run : (bits : ℕ) → L.front_slots < bits
      → min (below (suc mini) (highs (tags L) xs) - slot) (count_trailing_zeros bits (marks + 1)) ≡ copies (mini * tags L + low) xs
  marked-run bits l =
      let run : Run (tag_at L false b) low slot rest (count_trailing_zeros bits (marks + 1)) =
      rw m.marks-are (run_more (tag_at L false b) low bits slot rest (omega arith)) in
      counted _ (run-some (tag_at L false b) low slot rest _ run (omega (arith, room)) here) run

-- ---- layout 1: the first slot with a key's tag, by the marks, and the test that it is one of the key's mini-bucket

module _ (b xs : List ℕ) (h : Held layout1 false b xs) (x marks : ℕ) (small : x < keys layout1)
    (are : marks ≡ 2 * marks_of (tag_at layout1 false b) (x % tags layout1) 0 layout1.front_slots) where
  -- no slot is marked, and the key is not there
  pub marks-absent : marks ≡ 0 → found_in x xs ≡ none
  marks-absent z =
      let none = marks-none (tag_at layout1 false b) (x % tags layout1) 0 layout1.front_slots (omega (arith, are)) in
      tag-none layout1 b xs h x (λ i l. none i (omega arith) (omega arith))

  module _ (some : 0 < marks) where
    abbrev first_slot : ℕ
    first_slot = count_trailing_zeros 32 marks - 1

    pub first : let place = count_trailing_zeros 32 marks in
        (0 < place) × (first_slot < layout1.front_slots) × (tag_at layout1 false b first_slot ≡ x % tags layout1)
        × ((i : ℕ) → i < first_slot → tag_at layout1 false b i ≡ x % tags layout1 → ⊥)
        × (marks / 2 ^ place ≡ marks_of (tag_at layout1 false b) (x % tags layout1) first_slot (layout1.front_slots - first_slot))
    first = first-mark (tag_at layout1 false b) (x % tags layout1) layout1.front_slots marks 32 are (lit≤ tt) some

    -- the first that is marked is one of the key's mini-bucket, and so the lowest of its slots
    pub marks-lowest : (w : ℕ) → w ≡ value 256 (take word_bytes1 b) → w < 2 ^ 64 → {test : Bool}
        → test ≡ (eqb (ones_in (x / tags layout1 + first_slot) w) (x / tags layout1) && eqb (w / 2 ^ (x / tags layout1 + first_slot) % 2) 0) → test ≡ true
        → (first_slot ≡ below x xs) × (0 < copies x xs)
    marks-lowest w word fits said passes =
        let mini = x / tags layout1 in
        let e = both_true (eqb (ones_in (mini + first_slot) w) mini) (eqb (w / 2 ^ (mini + first_slot) % 2) 0) (sym said ∙ passes) in
        let at = rw (held-minis1 b xs w word false h) at (slot-minis_in 64 layout1.minis w mini first_slot fits (held-many1 b xs w word false h)
        (omega arith) (eqb-true _ _ e.0) (eqb-true _ _ e.1)) in
        let inside : first_slot < length xs = omega (arith, at.0, length-highs (tags layout1) xs) in (
          tag-rank layout1 b xs h x first_slot first.2 inside at.1 first.3,
          tag-there layout1 b xs h x first_slot first.2 inside at.1,
        )
