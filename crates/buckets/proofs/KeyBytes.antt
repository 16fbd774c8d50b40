-- Bytes that begin with the word and the tags of keys, for any layout and number of slots: the word is that of the keys' mini-buckets, and each
-- slot holds its key's tag. A front bucket's bytes and a backyard bucket's are such. Main results: `keys-run`, `keys-coded`, `keys-word`,
-- `keys-tag`, `front-keys`, `back-keys`, `front-slots`, `back-slots`.
use mathlib.Core.Path.{◌≡◌, refl, ap, ◌∙◌}
use Prim.Native.Nat.{ℕ, ◌+◌, ◌*◌, ◌%◌, ◌-◌, ◌≤◌, ◌<◌}
use mathlib.Core.List.{List, ◌++◌}
use lib.ListN.{length, get_or, replicate}
use lib.Dec.{T, lit<}
use Rattle.multiset.specs.Multisets.{ascending, Below}
use Rattle.multiset.specs.Digits.{padded, highs}
use Rattle.crumbmap.specs.Layouts.{Layout, tags, keys, word_bytes}
use Rattle.buckets.specs.Words.{word_from}
use Rattle.buckets.specs.Buckets.{slot_bytes, front_bytes, back_bytes, crumb_bytes, word_in, tags_in, FrontList, BackList}
use Rattle.multiset.proofs.DigitLaws.{ascending-highs, below-highs, length-highs}
use Rattle.buckets.proofs.WordLaws.{Run, Coded}
use Rattle.buckets.proofs.SlotBytes.{run-highs, slots-coded, word_room, word_in-slot_bytes, tags_in-slot_bytes}
use Rattle.buckets.proofs.HighLaws.{padded-low}

module _ (L : Layout) (slots : ℕ) where
  -- keys that fit the slots
  pub record Keys (xs : List ℕ) : Type 0 where
    pub order : T (ascending xs)
    pub range : Below (keys L) xs
    pub room : length xs ≤ slots

  module _ (xs : List ℕ) (k : Keys xs) where
    pub keys-run : Run 0 L.minis (highs (tags L) xs)
    keys-run = run-highs L slots xs k.order k.range

    pub keys-coded : Coded L.minis 0 (highs (tags L) xs) (word_from L.minis 0 (highs (tags L) xs))
    keys-coded = slots-coded L slots xs k.order k.range

    pub keys-room : L.minis + length (highs (tags L) xs) ≤ 8 * word_bytes L slots
    keys-room = word_room L slots xs k.room

    pub keys-word : (rest : List ℕ) → word_in L slots (slot_bytes L slots xs ++ rest) ≡ word_from L.minis 0 (highs (tags L) xs)
    keys-word rest = word_in-slot_bytes L slots xs rest k.order k.range k.room

    pub keys-tag : (rest : List ℕ) (i : ℕ) → get_or (tags_in L slots (slot_bytes L slots xs ++ rest)) i 0 ≡ get_or xs i 0 % tags L
    keys-tag rest i = ap (λ (l : List ℕ). get_or l i 0) (tags_in-slot_bytes L slots xs rest k.room) ∙ padded-low (tags L) slots i xs

-- ---- front and backyard

module _ (L : Layout) where
  pub front-keys : (xs : List ℕ) → FrontList L xs → Keys L L.front_slots xs
  front-keys xs f = record { order = f.order; range = f.range; room = f.room }

  pub back-keys : (B j : ℕ) (ys : List ℕ) → BackList L B j ys → Keys L L.back_slots (highs 16 ys)
  back-keys B j ys f = record {
    order = ascending-highs 16 ys (lit< tt) f.order;
    range = below-highs (keys L) 16 ys (lit< tt) f.range;
    room = rw (length-highs 16 ys) f.room;
  }

  -- what stands behind a front bucket's tags
  abbrev pub front_rest : List ℕ → List ℕ
  front_rest xs = replicate {A = ℕ} (64 - length (slot_bytes L L.front_slots xs)) 0

  pub front-slots : (xs : List ℕ) → front_bytes L xs ≡ slot_bytes L L.front_slots xs ++ front_rest xs
  unfolding front_bytes padded
  front-slots xs = refl

  pub back-slots : (ys : List ℕ) → back_bytes L ys ≡ slot_bytes L L.back_slots (highs 16 ys) ++ crumb_bytes L ys
  unfolding back_bytes
  back-slots ys = refl
