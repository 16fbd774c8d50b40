-- How word and tags change where a key is put in or taken out, at any layout, slot and number of slots: `slots-inserted`, `slots-removed`;
-- and where the slot of a member lies, `slot-from`, `slot-past`.
use mathlib.Core.Path.{◌≡◌, sym, ap, ap₂, ◌∙◌}
use Prim.Native.Nat.{ℕ, suc, ◌+◌, ◌*◌, ◌/◌, ◌%◌, ◌-◌, ◌≤◌, ◌<◌, ◌^◌}
use mathlib.Core.List.{List, [], ◌∷◌, ◌++◌, append_assoc}
use native.Mathlib.Nat.{div-lt_iff_lt-mul}
use native.Mathlib.Omega.{arith}
use lib.ListN.{length, take, drop}
use lib.Seq.{take_at, drop_at}
use Rattle.multiset.specs.Multisets.{below}
use Rattle.multiset.specs.Digits.{digits, spread, padded, highs, lows}
use Rattle.crumbmap.specs.Layouts.{Layout, tags, word_bytes, keys}
use Rattle.buckets.specs.Words.{word_from, opened_at, closed_at}
use Rattle.buckets.specs.Buckets.{tag_part, slot_bytes, slot_end, word_in}
use Rattle.shifts.specs.Steps.Shifts.{inserted, taken_out}
use Rattle.edits.specs.Steps.Edits.{tag_area, slot_inserted, slot_removed}
use Rattle.multiset.proofs.RankLaws.{below-le-length}
use Rattle.multiset.proofs.DigitLaws.{length_digits, length-highs, length-lows}
use Rattle.buckets.proofs.BitLaws.{word-opened, word-closed}
use Rattle.buckets.proofs.SlotBytes.{length-tag_part, length-slot_bytes, tags-pos}
use Rattle.buckets.proofs.KeyBytes.{Keys, keys-run, keys-word}
use Rattle.buckets.proofs.PieceLaws.{spread-take}
use Rattle.buckets.proofs.WordLaws.{Run, word_lt}
use Rattle.buckets.proofs.HighLaws.{highs-from, highs-past}
use Rattle.shifts.proofs.ShiftLaws.{map-inserted, map-removed, padded-inserted, padded-removed, spread-inserted, spread-taken_out}

-- bytes that begin with word and tags of keys
module _ (L : Layout) (slots : ℕ) where
  abbrev word_at : List ℕ → ℕ
  word_at xs = word_from L.minis 0 (highs (tags L) xs)

  module _ (xs rest : List ℕ) (k : Keys L slots xs) where
    run : Run 0 L.minis (highs (tags L) xs)
    run = keys-run L slots xs k

    long-tags : length (tag_part L slots xs) ≡ slots * L.tag_bytes
    long-tags = length-tag_part L slots xs k.room

    tags-area : tag_area (word_bytes L slots) (slot_end L slots) (slot_bytes L slots xs ++ rest) ≡ tag_part L slots xs
    unfolding slot_bytes
    tags-area =
        let ds : List ℕ = digits 256 (word_bytes L slots) (word_at xs) in
        rw (append_assoc ds (tag_part L slots xs) rest, drop_at ds (tag_part L slots xs ++ rest) (word_bytes L slots) (length_digits 256 (word_bytes L slots) (word_at xs)))
        (take_at (tag_part L slots xs) rest (slot_end L slots - word_bytes L slots) (omega (arith, long-tags)))

    tags-rest : drop (slot_end L slots) (slot_bytes L slots xs ++ rest) ≡ rest
    tags-rest = drop_at (slot_bytes L slots xs) rest (slot_end L slots) (length-slot_bytes L slots xs k.room)

    bytes-inserted : (x p : ℕ) → x / tags L < L.minis → length xs < slots
        → below (x / tags L) (highs (tags L) xs) ≤ p → p ≤ below (suc (x / tags L)) (highs (tags L) xs)
        → slot_bytes L slots (take p xs ++ (x ∷ drop p xs))
        ≡ digits 256 (word_bytes L slots) (opened_at (x / tags L + p) (word_at xs))
        ++ take (length (tag_part L slots xs)) (inserted (p * L.tag_bytes) (digits 256 L.tag_bytes (x % tags L)) (tag_part L slots xs))
    unfolding slot_bytes
    bytes-inserted x p fit free l u =
        let rs : List ℕ = lows (tags L) xs in
        let len : length rs ≡ length xs = length-lows (tags L) xs in
        let within : p ≤ length rs = omega (arith, below-le-length (suc (x / tags L)) (highs (tags L) xs), length-highs (tags L) xs) in
        ap₂ ◌++◌ (ap (digits 256 (word_bytes L slots)) (ap (word_from L.minis 0) (map-inserted (λ (y : ℕ). y / tags L) p x xs)
        ∙ word-opened L.minis (x / tags L) p (highs (tags L) xs) run fit l u))
        (ap (spread 256 L.tag_bytes) (ap (padded slots) (map-inserted (λ (y : ℕ). y % tags L) p x xs) ∙ padded-inserted slots p (x % tags L) rs (omega arith) within)
        ∙ spread-take 256 L.tag_bytes slots (inserted p (x % tags L ∷ []) (padded slots rs))
        ∙ ap₂ take (sym long-tags) (spread-inserted 256 L.tag_bytes p (x % tags L) (padded slots rs)))

    pub slots-inserted : (x p : ℕ) → x / tags L < L.minis → length xs < slots
        → below (x / tags L) (highs (tags L) xs) ≤ p → p ≤ below (suc (x / tags L)) (highs (tags L) xs)
        → slot_inserted L (word_bytes L slots) (slot_end L slots) p x (slot_bytes L slots xs ++ rest) ≡ slot_bytes L slots (take p xs ++ (x ∷ drop p xs)) ++ rest
    unfolding slot_inserted
    slots-inserted x p fit free l u =
        let new : List ℕ = digits 256 (word_bytes L slots) (opened_at (x / tags L + p) (word_at xs)) in
        let put : List ℕ = take (length (tag_part L slots xs)) (inserted (p * L.tag_bytes) (digits 256 L.tag_bytes (x % tags L)) (tag_part L slots xs)) in
        rw (tags-area, tags-rest, keys-word L slots xs k rest, bytes-inserted x p fit free l u) (sym (append_assoc new put rest))

    bytes-removed : (m p : ℕ) → m < L.minis → below m (highs (tags L) xs) ≤ p → p < below (suc m) (highs (tags L) xs)
        → slot_bytes L slots (take p xs ++ drop (suc p) xs)
        ≡ digits 256 (word_bytes L slots) (closed_at (m + p) (word_at xs)) ++ taken_out (p * L.tag_bytes) L.tag_bytes (tag_part L slots xs)
    unfolding slot_bytes
    bytes-removed m p fit l u =
        let rs : List ℕ = lows (tags L) xs in
        let len : length rs ≡ length xs = length-lows (tags L) xs in
        let within : p < length rs = omega (arith, below-le-length (suc m) (highs (tags L) xs), length-highs (tags L) xs) in
        ap₂ ◌++◌ (ap (digits 256 (word_bytes L slots)) (ap (word_from L.minis 0) (map-removed (λ (y : ℕ). y / tags L) p xs)
        ∙ word-closed L.minis m p (highs (tags L) xs) run fit l u))
        (ap (spread 256 L.tag_bytes) (ap (padded slots) (map-removed (λ (y : ℕ). y % tags L) p xs) ∙ padded-removed slots p rs within (omega (arith, k.room)))
        ∙ spread-taken_out 256 L.tag_bytes p (padded slots rs))

    pub slots-removed : (m p : ℕ) → m < L.minis → below m (highs (tags L) xs) ≤ p → p < below (suc m) (highs (tags L) xs)
        → slot_removed L (word_bytes L slots) (slot_end L slots) p m (slot_bytes L slots xs ++ rest) ≡ slot_bytes L slots (take p xs ++ drop (suc p) xs) ++ rest
    unfolding slot_removed
    slots-removed m p fit l u =
        let new : List ℕ = digits 256 (word_bytes L slots) (closed_at (m + p) (word_at xs)) in
        rw (tags-area, tags-rest, keys-word L slots xs k rest, bytes-removed m p fit l u)
        (sym (append_assoc new (taken_out (p * L.tag_bytes) L.tag_bytes (tag_part L slots xs)) rest))

-- ---- the word, and the slot of a member

module _ (L : Layout) where
  -- a word that has bits left
  pub slots-word-lt : (slots bits : ℕ) (xs rest : List ℕ) → Keys L slots xs → L.minis + length xs ≤ bits → word_in L slots (slot_bytes L slots xs ++ rest) < 2 ^ bits
  slots-word-lt slots bits xs rest k h =
      rw (keys-word L slots xs k rest) (word_lt bits L.minis (highs (tags L) xs) (keys-run L slots xs k) (rw (length-highs (tags L) xs) h))

  -- the slot of a member lies among those of its mini-bucket
  pub slot-from : (x : ℕ) (xs : List ℕ) → below (x / tags L) (highs (tags L) xs) ≤ below x xs
  slot-from x xs = highs-from (tags L) x xs (tags-pos L 0)

  pub slot-past : (x : ℕ) (xs : List ℕ) → below (suc x) xs ≤ below (suc (x / tags L)) (highs (tags L) xs)
  slot-past x xs = highs-past (tags L) x xs (tags-pos L 0)

  pub key-mini : (x : ℕ) → x < keys L → x / tags L < L.minis
  key-mini x h = (div-lt_iff_lt-mul (tags-pos L 0)).1 h
