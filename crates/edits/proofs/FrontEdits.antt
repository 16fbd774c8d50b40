-- How a front bucket's bytes change where a key is put in or taken out, at any layout: `front-inserted`, `front-removed`; the bytes of what can
-- stand in one are a sound bucket, `front-sound`. The last section is of layout 1.
use mathlib.Core.Path.{◌≡◌, refl, sym, ap, ◌∙◌}
use Prim.Native.Nat.{ℕ, suc, ◌+◌, ◌/◌, ◌-◌, ◌^◌, ◌≤◌, ◌<◌}
use mathlib.Core.List.{List, [], ◌++◌}
use native.Mathlib.Omega.{arith}
use lib.Dec.{lit≤}
use lib.ListN.{length, take, drop, get_or, replicate, length-drop, drop_of_length-le}
use lib.Seq.{drop_at, drop-drop, length-take-le}
use Rattle.multiset.specs.Multisets.{added, removed, copies, below, Below}
use Rattle.multiset.specs.Digits.{digits, spread, padded}
use Rattle.crumbmap.specs.Layouts.{Layout, layout1, tags, keys, word_bytes}
use Rattle.buckets.specs.Words.{word_from}
use Rattle.buckets.specs.Buckets.{Fits64, FrontList, slot_end, slot_bytes, front_bytes, word_in, front_list}
use Rattle.words.specs.Steps.Wide.{word_bytes1}
use Rattle.minifilter.specs.Steps.Readings.{SoundFront}
use Rattle.edits.specs.Steps.Edits.{TagRoom1, slot_inserted, slot_removed}
use Rattle.multiset.proofs.MultisetLaws.{below-copies, length-added, length_removed, below-removed}
use Rattle.multiset.proofs.RankLaws.{below_suc}
use Rattle.multiset.proofs.OrderLaws.{ascending-removed}
use Rattle.multiset.proofs.SlotLaws.{added-at, removed-at, holds-from, holds-past, holds-copy}
use Rattle.buckets.proofs.SlotBytes.{length-slot_bytes}
use Rattle.buckets.proofs.KeyBytes.{front-keys, front_rest, front-slots}
use Rattle.buckets.proofs.BucketLaws.{length-front_bytes, front_members-front_bytes}
use Rattle.minifilter.proofs.HeldLaws.{front-list, front_bytes-front_list}
use Rattle.edits.proofs.SlotEdits.{slots-inserted, slots-removed, slots-word-lt, slot-from, slot-past, key-mini}

-- ---- a front bucket

-- the bytes of what can stand in a front bucket are a sound bucket that holds it
pub front-sound : (L : Layout) → Fits64 L → (b xs : List ℕ) → b ≡ front_bytes L xs → FrontList L xs → SoundFront L b × (front_list L b ≡ xs)
unfolding front_list
front-sound L fits b xs e f =
    let read = rw (← e) at (front_members-front_bytes L fits xs f) in
    (record { long = rw e (length-front_bytes L fits xs f.room); sound = rw read }, rw read)

module _ (L : Layout) (fits : Fits64 L) (b : List ℕ) (bytes : Below 256 b) (s : SoundFront L b) where
  abbrev slots : ℕ
  slots = L.front_slots

  abbrev xs : List ℕ
  xs = front_list L b

  list : FrontList L xs
  list = front-list L fits b bytes s

  front-is : slot_bytes L slots xs ++ front_rest L xs ≡ b
  front-is = sym (front-slots L xs) ∙ front_bytes-front_list L fits b bytes s

  front-new : (ys : List ℕ) → length ys ≤ slots → slot_bytes L slots ys ++ front_rest L xs ≡ front_bytes L ys
  front-new ys h =
      let same : length (slot_bytes L slots xs) ≡ length (slot_bytes L slots ys) = length-slot_bytes L slots xs list.room ∙ sym (length-slot_bytes L slots ys h) in
      ap (λ (n : ℕ). slot_bytes L slots ys ++ replicate {A = ℕ} (64 - n) 0) same ∙ sym (front-slots L ys)

  pub front-word-lt : (bits : ℕ) → L.minis + length xs ≤ bits → word_in L slots b < 2 ^ bits
  front-word-lt bits h = rw front-is at (slots-word-lt L slots bits xs (front_rest L xs) (front-keys L xs list) h)

  pub front-inserted : (x : ℕ) → x < keys L → length xs < slots
      → slot_inserted L (word_bytes L slots) (slot_end L slots) (below x xs) x b ≡ front_bytes L (added x xs)
  front-inserted x fit free =
      let p : ℕ = below x xs in
      let next : below (suc x) xs ≡ p + copies x xs = below_suc x xs in
      rw front-is at
      (slots-inserted L slots xs (front_rest L xs) (front-keys L xs list) x p (key-mini L x fit) free (slot-from L x xs) (omega (arith, slot-past L x xs)))
      ∙ ap (λ (l : List ℕ). slot_bytes L slots l ++ front_rest L xs) (sym (added-at x p xs list.order (omega arith) (omega arith)))
      ∙ front-new (added x xs) (omega (arith, length-added x xs))

  module _ (x p : ℕ) (h : p < length xs) (there : get_or xs p 0 ≡ x) where
    front-copy : 0 < copies x xs
    front-copy = holds-copy x p xs list.order h there

    pub front-lt : x < keys L
    front-lt = below-copies (keys L) x xs list.range front-copy

    pub front-removed : slot_removed L (word_bytes L slots) (slot_end L slots) p (x / tags L) b ≡ front_bytes L (removed x xs)
    front-removed =
        let from : below x xs ≤ p = holds-from x p xs list.order h there in
        let past : p < below (suc x) xs = holds-past x p xs list.order h there in
        rw front-is at
        (slots-removed L slots xs (front_rest L xs) (front-keys L xs list) (x / tags L) p (key-mini L x front-lt) (omega (arith, slot-from L x xs))
        (omega (arith, slot-past L x xs)))
        ∙ ap (λ (l : List ℕ). slot_bytes L slots l ++ front_rest L xs) (sym (removed-at x p xs list.order from past))
        ∙ front-new (removed x xs) (omega (arith, length_removed x xs front-copy, list.room))

    -- what is left can stand in a front bucket, and has a free slot
    pub front-left : FrontList L (removed x xs) × (length (removed x xs) < slots)
    front-left =
        let less : length xs ≡ suc (length (removed x xs)) = length_removed x xs front-copy in (
          record {
            order = ascending-removed x xs list.order;
            range = below-removed (keys L) x xs list.range;
            room = omega (arith, list.room);
          },
          omega (arith, list.room),
        )

-- ---- layout 1: a word of 8 bytes

pub front-room : (b : List ℕ) (slot : ℕ) → length b ≡ 64 → slot < layout1.front_slots → TagRoom1 b 64 slot
front-room b slot e h = record { long = e; inside = lit≤ tt; even = refl; wide = lit≤ tt; room = omega arith }

-- a stretch from the word to `end` and the word put back into the bytes
pub word-put : (b ys : List ℕ) (end w : ℕ) → word_bytes1 ≤ length b → word_bytes1 ≤ end
    → digits 256 word_bytes1 w ++ drop word_bytes1 (take word_bytes1 b ++ (ys ++ drop (end - word_bytes1) (drop word_bytes1 b)))
    ≡ digits 256 word_bytes1 w ++ (ys ++ drop end b)
word-put b ys end w h l =
    let rest : word_bytes1 + (end - word_bytes1) ≡ end = omega arith in
    rw (
      drop_at (take word_bytes1 b) (ys ++ drop (end - word_bytes1) (drop word_bytes1 b)) word_bytes1 (length-take-le word_bytes1 b h),
      drop-drop (end - word_bytes1) word_bytes1 b,
      rest,
    )

-- "every bucket empty (word 2^36 − 1, else 0)"
pub empty-word1 : word_from layout1.minis 0 [] ≡ 68719476735
unfolding word_from copies
empty-word1 = refl

cleared-bytes : digits 256 word_bytes1 68719476735 ++ (replicate {A = ℕ} 56 0 ++ []) ≡ front_bytes layout1 []
unfolding front_bytes slot_bytes padded digits spread word_from copies
cleared-bytes = refl

pub cleared : (b z : List ℕ) → length b ≡ 64 → z ≡ replicate {A = ℕ} (length (take 56 (drop word_bytes1 b))) 0
    → digits 256 word_bytes1 68719476735 ++ (z ++ drop 64 b) ≡ front_bytes layout1 []
cleared b z e q =
    let none : drop 64 b ≡ [] = drop_of_length-le b {i = 64} (omega arith) in
    let long : length (take 56 (drop word_bytes1 b)) ≡ 56 = length-take-le 56 (drop word_bytes1 b) (simp length-drop (omega arith)) in
    rw (q, long, none) cleared-bytes
