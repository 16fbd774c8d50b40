-- A bucket whose slots are edited, at any layout, and what an edit asks of a bucket.
use Rattle.std.specs.Prelude.{◌≡◌, ℕ, ◌+◌, ◌*◌, ◌/◌, ◌%◌, ◌-◌, ◌^◌, ◌≤◌, ◌<◌, List, ◌++◌, length, take, drop, get_or}
use Rattle.multiset.specs.Multisets.{below, removed}
use Rattle.multiset.specs.Digits.{digits, value}
use Rattle.crumbmap.specs.Layouts.{Layout, layout1, tags, keys}
use Rattle.buckets.specs.Words.{opened_at, closed_at}
use Rattle.buckets.specs.Buckets.{front_list, back_list}
use Rattle.words.specs.Steps.Wide.{word_bytes1}
use Rattle.minifilter.specs.Steps.Readings.{SoundFront, SoundBack}
use Rattle.shifts.specs.Steps.Shifts.{inserted, taken_out}

-- ---- word and tags

-- the tags' bytes of a bucket whose word takes `head` bytes and whose tags end at byte `end`
abbrev pub tag_area : ℕ → ℕ → List ℕ → List ℕ
tag_area head end b = take (end - head) (drop head b)

module _ (L : Layout) (head end : ℕ) where
  -- such a bucket with a key put in at a slot, the last slot falling off, and with the one there, of mini-bucket `mini`, taken out
  unfoldable pub slot_inserted : ℕ → ℕ → List ℕ → List ℕ
  slot_inserted slot key b =
      digits 256 head (opened_at (key / tags L + slot) (value 256 (take head b)))
      ++ (take (length (tag_area head end b)) (inserted (slot * L.tag_bytes) (digits 256 L.tag_bytes (key % tags L)) (tag_area head end b)) ++ drop end b)

  unfoldable pub slot_removed : ℕ → ℕ → List ℕ → List ℕ
  slot_removed slot mini b =
      digits 256 head (closed_at (mini + slot) (value 256 (take head b))) ++ (taken_out (slot * L.tag_bytes) L.tag_bytes (tag_area head end b) ++ drop end b)

-- ---- what an edit asks

module _ (L : Layout) where
  -- a free slot, and how many members are below the one that joins
  pub record FrontInsert (b : List ℕ) (slot key : ℕ) : Type 0 where
    pub sound : SoundFront L b
    pub free : length (front_list L b) < L.front_slots
    pub range : key < keys L
    pub rank : slot ≡ below key (front_list L b)

  pub record BackInsert (b : List ℕ) (slot member : ℕ) : Type 0 where
    pub sound : SoundBack L b
    pub free : length (back_list L b) < L.back_slots
    pub range : member < keys L * 16
    pub rank : slot ≡ below member (back_list L b)

  -- the key at slot `at` leaves, and `to` joins behind `slot` of the others
  pub record FrontSwap (b : List ℕ) (at from slot to : ℕ) : Type 0 where
    pub sound : SoundFront L b
    pub inside : at < length (front_list L b)
    pub same : get_or (front_list L b) at 0 ≡ from
    pub range : to < keys L
    pub rank : slot ≡ below to (removed from (front_list L b))

-- ---- layout 1: a word of 8 bytes, tags of two

-- 64 bytes whose tags, two words of them or more, end at byte `end`, one of them at slot `slot`
pub record TagRoom1 (b : List ℕ) (end slot : ℕ) : Type 0 where
  pub long : length b ≡ 64
  pub inside : end ≤ 64
  pub even : end % 2 ≡ 0
  pub wide : word_bytes1 + 16 ≤ end
  pub room : word_bytes1 + slot * 2 + 2 ≤ end

-- the same with a bit left in the word for one more key
pub record InsertRoom1 (b : List ℕ) (end slot key : ℕ) : Type 0 where
  pub tags : TagRoom1 b end slot
  pub range : key < keys layout1
  pub free : value 256 (take word_bytes1 b) < 2 ^ 63
