-- A bucket's 64 bytes and its members, both ways. A front member is its key m × tags + r; a backyard member is key × 16 + crumb.
-- So "members ascend by (m, r)" and "by (m, r, crumb)" are both the order of numbers.
use Rattle.std.specs.Prelude.{ℕ, ◌+◌, ◌*◌, ◌/◌, ◌%◌, ◌-◌, ◌<◌, ◌≤◌, Bool, true, false, cond, ◌&&◌, List, [], ◌∷◌, ◌++◌, length, take, drop, leb, eqb, T}
use Rattle.std.proofs.Math.Option.{Option, none, some, bind}
use Rattle.multiset.specs.Multisets.{ascending, all_zero, Below}
use Rattle.multiset.specs.Digits.{digits, value, spread, grouped, padded, joined, highs, lows}
use Rattle.crumbmap.specs.Layouts.{Layout, tags, keys, word_bytes}
use Rattle.crumbmap.specs.CrumbMap.{home}
use Rattle.buckets.specs.Words.{word_from, minis_from, list_of}

-- o where a test holds, none elsewhere
unfoldable pub given : {A : Type 0} → Bool → Option A → Option A
given b o = cond b o none

abbrev pub is_some : Option ℕ → Bool
is_some none = false
is_some (some f) = true

-- "each crumb is valid": every member's, in backyard bucket j of B
unfoldable pub valid : ℕ → ℕ → List ℕ → Bool
valid B j [] = true
valid B j (y ∷ ys) = is_some (home B j (y % 16)) && valid B j ys

-- First(f) and Second(f), "decoded from the buckets by crumb": the keys of the members that carry crumb c, in order
unfoldable pub carrying : ℕ → List ℕ → List ℕ
carrying c [] = []
carrying c (y ∷ ys) = cond (eqb (y % 16) c) (y / 16 ∷ carrying c ys) (carrying c ys)

module _ (L : Layout) where
  -- how many bytes word and tags take
  abbrev pub slot_end : ℕ → ℕ
  slot_end slots = word_bytes L slots + slots * L.tag_bytes

  -- how many bytes of a backyard bucket stand behind them, for its crumbs
  abbrev pub crumb_room : ℕ
  crumb_room = 64 - slot_end L.back_slots

  -- ---- bytes of members

  -- "bytes 0 to 7: a little-endian word", "bytes 8 up: tags, two bytes each, little-endian, in member order"
  abbrev pub word_part : ℕ → List ℕ → List ℕ
  word_part slots xs = digits 256 (word_bytes L slots) (word_from L.minis 0 (highs (tags L) xs))

  abbrev pub tag_part : ℕ → List ℕ → List ℕ
  tag_part slots xs = spread 256 L.tag_bytes (padded slots (lows (tags L) xs))

  unfoldable pub slot_bytes : ℕ → List ℕ → List ℕ
  slot_bytes slots xs = word_part slots xs ++ tag_part slots xs

  -- a front bucket's 64 bytes
  unfoldable pub front_bytes : List ℕ → List ℕ
  front_bytes xs = padded 64 (slot_bytes L.front_slots xs)

  -- a backyard bucket's: "bytes 52 to 62 hold crumbs of 4 bits .. even slots in the low half .. byte 63 is 0"
  abbrev pub crumb_bytes : List ℕ → List ℕ
  crumb_bytes ys = grouped 16 2 crumb_room (padded (crumb_room * 2) (lows 16 ys))

  unfoldable pub back_bytes : List ℕ → List ℕ
  back_bytes ys = slot_bytes L.back_slots (highs 16 ys) ++ crumb_bytes ys

  -- ---- members of bytes

  -- the word and the tags of a bucket of so many slots, and the crumbs of a backyard bucket
  abbrev pub word_in : ℕ → List ℕ → ℕ
  word_in slots b = value 256 (take (word_bytes L slots) b)

  abbrev pub tags_in : ℕ → List ℕ → List ℕ
  tags_in slots b = grouped 256 L.tag_bytes slots (drop (word_bytes L slots) b)

  abbrev pub crumbs_in : List ℕ → List ℕ
  crumbs_in b = spread 16 2 (drop (slot_end L.back_slots) b)

  -- the keys of the slots in use, where the word is sound, "members fit the slots" and unused tags are 0
  unfoldable pub slot_keys : ℕ → List ℕ → Option (List ℕ)
  slot_keys slots b =
      bind (minis_from (8 * word_bytes L slots) L.minis 0 (word_in slots b)) (λ ms.
      given (leb (length ms) slots) (given (all_zero (drop (length ms) (tags_in slots b))) (some (joined (tags L) ms (tags_in slots b)))))

  -- "a bucket is first read whole": a front bucket's members, none where it is unsound
  unfoldable pub front_members : List ℕ → Option (List ℕ)
  front_members b =
      bind (slot_keys L.front_slots b) (λ xs.
      given (ascending xs) (given (all_zero (drop (slot_end L.front_slots) b)) (some xs)))

  -- the members of backyard bucket j of B, none where it is unsound
  unfoldable pub back_members : ℕ → ℕ → List ℕ → Option (List ℕ)
  back_members B j b =
      bind (slot_keys L.back_slots b) (λ xs.
      let ys : List ℕ = joined 16 xs (crumbs_in b) in
      given (ascending ys) (given (all_zero (drop (length xs) (crumbs_in b))) (given (valid B j ys) (some ys))))

  -- the members of a front bucket that is sound, and of a backyard bucket, whichever it is
  unfoldable pub front_list : List ℕ → List ℕ
  front_list b = list_of (front_members b)

  unfoldable pub back_list : List ℕ → List ℕ
  back_list b = joined 16 (list_of (slot_keys L.back_slots b)) (crumbs_in b)

-- a layout whose buckets fit 64 bytes, its mini-buckets and front slots above nought
pub record Fits64 (L : Layout) : Type 0 where
  pub minis : 0 < L.minis
  pub slots : 0 < L.front_slots
  pub front : slot_end L L.front_slots ≤ 64
  pub back : 2 * slot_end L L.back_slots + L.back_slots ≤ 128

-- what can stand in a front bucket, and in backyard bucket j of B
pub record FrontList (L : Layout) (xs : List ℕ) : Type 0 where
  pub order : T (ascending xs)
  pub range : Below (keys L) xs
  pub room : length xs ≤ L.front_slots

pub record BackList (L : Layout) (B j : ℕ) (ys : List ℕ) : Type 0 where
  pub order : T (ascending ys)
  pub range : Below (keys L * 16) ys
  pub room : length ys ≤ L.back_slots
  pub crumbs : T (valid B j ys)
