-- The bytes of a front bucket's keys, key by key: the word as each gets its zero, behind those before it, and the tags as each gets its bytes.
-- Main results: `word_next`, `front_bytes-written`, and of tags of two bytes (layout 1) `tags-next`, `tags-all`.
use mathlib.Core.Path.{◌≡◌, refl, sym, ap, ◌∙◌}
use Prim.Native.Nat.{ℕ, zero, suc, ◌+◌, ◌-◌, ◌*◌, ◌/◌, ◌%◌, ◌^◌, ◌≤◌, ◌<◌}
use mathlib.Core.List.{List, [], ◌∷◌, ◌++◌, append-nil, append_assoc}
use native.Mathlib.Numerals.{add-one}
use native.Mathlib.Omega.{arith}
use lib.ListN.{length, take, drop, get_or, replicate, length-append, length-drop, drop_of_length-le, get_or-map}
use lib.Seq.{take_all, take_at, take-suc, take-take, length-take-le}
use Rattle.multiset.specs.Digits.{digits, spread, padded, highs, lows}
use Rattle.crumbmap.specs.Layouts.{Layout, layout1, tags, word_bytes}
use Rattle.buckets.specs.Words.{word_from, opened_at}
use Rattle.buckets.specs.Buckets.{slot_end, tag_part, slot_bytes, front_bytes, FrontList}
use Rattle.multiset.proofs.RankLaws.{below-le-length}
use Rattle.multiset.proofs.DigitLaws.{length_digits, length-highs, length-lows}
use Rattle.buckets.proofs.WordLaws.{Run, run_take, run_at, run-rank, word_lt}
use Rattle.buckets.proofs.BitLaws.{word-opened}
use Rattle.buckets.proofs.HighLaws.{get_d-highs}
use Rattle.buckets.proofs.PieceLaws.{spread-append}
use Rattle.buckets.proofs.SlotBytes.{length-slot_bytes}
use Rattle.buckets.proofs.KeyBytes.{keys-run, front-keys, front_rest, front-slots}

-- ---- the word

word_on : (minis : ℕ) (ms : List ℕ) (i : ℕ) → Run 0 minis ms → i < length ms
    → word_from minis 0 (take (suc i) ms) ≡ opened_at (get_or ms i 0 + i) (word_from minis 0 (take i ms))
word_on minis ms i r h =
    let before : List ℕ = take i ms in
    let len : length before ≡ i = length-take-le i ms (omega arith) in
    let none : drop i before ≡ [] = drop_of_length-le before {i = i} (omega arith) in
    let grown : take i before ++ (get_or ms i 0 ∷ drop i before) ≡ take (suc i) ms = rw (none, take-take i i ms (omega arith)) (sym (take-suc ms i 0 h)) in
    ap (word_from minis 0) (sym grown)
    ∙ word-opened minis (get_or ms i 0) i before (run_take 0 minis i ms r) (run_at 0 minis i ms r h).1
    (omega (arith, below-le-length (get_or ms i 0) before)) (omega (arith, run-rank 0 minis i ms r h))

module _ (L : Layout) (xs : List ℕ) (f : FrontList L xs) where
  -- the keys' mini-buckets, and the word of those in front of slot i
  abbrev ms : List ℕ
  ms = highs (tags L) xs

  abbrev pub word_to : ℕ → ℕ
  word_to i = word_from L.minis 0 (take i ms)

  minis-run : Run 0 L.minis ms
  minis-run = keys-run L L.front_slots xs (front-keys L xs f)

  pub mini-lt : (i : ℕ) → i < length xs → get_or xs i 0 / tags L < L.minis
  mini-lt i h = rw (get_d-highs (tags L) i xs) at (run_at 0 L.minis i ms minis-run (omega (arith, length-highs (tags L) xs))).1

  -- it leaves room for one more
  pub room-lt : (bits i : ℕ) → L.minis + i ≤ bits → i ≤ length xs → word_to i < 2 ^ bits
  room-lt bits i k h =
      let len : length (take i ms) ≡ i = length-take-le i ms (omega (arith, length-highs (tags L) xs)) in
      word_lt bits L.minis (take i ms) (run_take 0 L.minis i ms minis-run) (omega arith)

  pub word_next : (i : ℕ) → i < length xs → opened_at (get_or xs i 0 / tags L + i) (word_to i) ≡ word_to (i + 1)
  word_next i h =
      rw (add-one i) (sym (rw (get_d-highs (tags L) i xs) at (word_on L.minis ms i minis-run (omega (arith, length-highs (tags L) xs)))))

-- ---- the bucket

-- whose word and tags take all 64 bytes
pub front_bytes-written : (L : Layout) → slot_end L L.front_slots ≡ 64 → (b xs ts : List ℕ) (w : ℕ) → length b ≡ 64 → FrontList L xs
    → w ≡ word_from L.minis 0 (highs (tags L) xs) → ts ≡ tag_part L L.front_slots xs
    → digits 256 (word_bytes L L.front_slots) w ++ (ts ++ drop 64 b) ≡ front_bytes L xs
unfolding slot_bytes
front_bytes-written L whole b xs ts w long f e q =
    let slots : ℕ = L.front_slots in
    let none : drop 64 b ≡ [] = drop_of_length-le b {i = 64} (omega arith) in
    let rest : front_rest L xs ≡ [] = rw (length-slot_bytes L slots xs f.room, whole) in
    let bytes : slot_bytes L slots xs ≡ digits 256 (word_bytes L slots) w ++ ts = rw (e, q) in
    rw (none, append-nil ts) (sym (front-slots L xs ∙ rw rest (append-nil (slot_bytes L slots xs)) ∙ bytes))

-- ---- layout 1: tags of two bytes

-- what s holds in front of a slot: the tags of the keys before it
abbrev pub TagsTo : List ℕ → ℕ → List ℕ → Type 0
TagsTo xs slot s = take (slot * 2) s ≡ spread 256 2 (take slot (lows (tags layout1) xs))

pub tags-next : (xs s bytes : List ℕ) (slot : ℕ) → slot < length xs → slot * 2 + 2 ≤ length s → TagsTo xs slot s
    → bytes ≡ digits 256 2 (get_or xs slot 0 % tags layout1) → TagsTo xs (slot + 1) (take (slot * 2) s ++ (bytes ++ drop 2 (drop (slot * 2) s)))
unfolding spread
tags-next xs s bytes slot h room t e =
    let ts : List ℕ = lows (tags layout1) xs in
    let tag : ℕ = get_or xs slot 0 % tags layout1 in
    let at : ℕ = slot * 2 in
    let two : (slot + 1) * 2 ≡ at + 2 = omega arith in
    let here : get_or ts slot 0 ≡ tag = get_or-map (λ (x : ℕ). x % tags layout1) xs slot 0 in
    let long : length (take at s ++ bytes) ≡ at + 2 =
    omega (arith, length-append (take at s) bytes, length-take-le at s (omega arith), ap length e, length_digits 256 2 tag) in
    let front = rw (append_assoc (take at s) bytes (drop 2 (drop at s))) at (take_at (take at s ++ bytes) (drop 2 (drop at s)) (at + 2) long) in
    rw (two, front, t, add-one slot, take-suc ts slot 0 (omega (arith, length-lows (tags layout1) xs)))
    (sym (spread-append 256 2 (take slot ts) (get_or ts slot 0 ∷ [])
    ∙ ap (λ (l : List ℕ). spread 256 2 (take slot ts) ++ l) (append-nil (digits 256 2 (get_or ts slot 0)) ∙ ap (digits 256 2) here ∙ sym e)))

spread-zeros : (n : ℕ) → spread 256 2 (replicate {A = ℕ} n 0) ≡ replicate {A = ℕ} (n * 2) 0
unfolding spread digits
spread-zeros zero = refl
spread-zeros (suc n) = let e : suc n * 2 ≡ suc (suc (n * 2)) = omega arith in rw e (ap (λ (l : List ℕ). 0 ∷ 0 ∷ l) (spread-zeros n))

-- the tags of all keys, and zeros put behind them
pub tags-all : (xs s zeros : List ℕ) → length xs ≤ layout1.front_slots → length s ≡ 56 → TagsTo xs (length xs) s → let end = length xs * 2 in
    zeros ≡ replicate {A = ℕ} (length (take (length s - end) (drop end s))) 0
    → take end s ++ (zeros ++ drop (length s - end) (drop end s)) ≡ tag_part layout1 layout1.front_slots xs
unfolding padded
tags-all xs s zeros room long t e =
    let end : ℕ = length xs * 2 in
    let ts : List ℕ = lows (tags layout1) xs in
    let free : ℕ = layout1.front_slots - length ts in
    let keys : length ts ≡ length xs = length-lows (tags layout1) xs in
    let behind : length s - end ≡ length (drop end s) = sym (length-drop end s) in
    let two : length (drop end s) ≡ free * 2 = omega (arith, length-drop end s) in
    let all : take (length s - end) (drop end s) ≡ drop end s = take_all (length s - end) (drop end s) (omega arith) in
    let none : drop (length s - end) (drop end s) ≡ [] = drop_of_length-le (drop end s) {i = length s - end} (omega arith) in
    let filled : zeros ≡ spread 256 2 (replicate {A = ℕ} free 0) =
    e ∙ ap (λ (l : List ℕ). replicate {A = ℕ} (length l) 0) all ∙ ap (λ (n : ℕ). replicate {A = ℕ} n 0) two ∙ sym (spread-zeros free) in
    rw (none, append-nil zeros, t, take_all (length xs) ts (omega arith), filled) (sym (spread-append 256 2 ts (replicate {A = ℕ} free 0)))
