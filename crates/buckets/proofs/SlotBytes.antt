-- Word and tags of a bucket, for any number of slots: the bytes of keys and the keys of bytes undo each other.
-- Main results: slot_keys-slot_bytes, slot_bytes-slot_keys, and what the keys that were read are like, slot_keys-list.
use mathlib.Core.Path.{◌≡◌, refl, sym, ap, ap₂, ◌∙◌}
use Prim.Native.Nat.{ℕ, zero, suc, ◌+◌, ◌*◌, ◌^◌, ◌≤◌, ◌<◌}
use mathlib.Core.Bool.{Bool, true, false}
use mathlib.Core.List.{List, [], ◌∷◌, ◌++◌, append_assoc}
use mathlib.Core.Option.{Option, some, bind, bind-eq-some_iff}
use native.Mathlib.Nat.{zero-add, pow-suc}
use native.Mathlib.Omega.{arith}
use lib.ListN.{length, take, drop, length-append, length-drop}
use lib.Seq.{length-take-le, take_at, drop_at, take-add}
use lib.Pow.{pow-add, pow_pos}
use lib.Dec.{T, leb, leb→le, le→leb}
use Rattle.multiset.specs.Multisets.{ascending, all_zero, Below}
use Rattle.multiset.specs.Digits.{padded, joined, highs, lows}
use Rattle.crumbmap.specs.Layouts.{Layout, tags, keys, word_bytes}
use Rattle.buckets.specs.Words.{word_from, minis_from}
use Rattle.buckets.specs.Buckets.{word_part, tag_part, given, slot_end, slot_bytes, slot_keys, word_in, tags_in}
use Rattle.multiset.proofs.OrderLaws.{ascending-tail, ascending-le, ascending-cons}
use Rattle.multiset.proofs.DigitLaws.{length_digits, value-digits, digits_value, length-spread, length-grouped, grouped-spread, spread-grouped, below-grouped, length-padded, below-padded, length-highs, length-lows, below-highs, below-lows, ascending-highs, length-joined, highs-joined, below-joined, joined-padded, padded-unused, padded-joined}
use Rattle.multiset.proofs.MultisetLaws.{below-take, below-drop}
use Rattle.buckets.proofs.WordLaws.{Run, run-below, Coded, coded-word, coded-unique, coded-run, minis-coded, coded-minis, word_lt}

-- ---- a test in front of an answer

pub given-true : {A : Type 0} (b : Bool) (o : Option A) → T b → given b o ≡ o
unfolding given
given-true true o t = refl
given-true false o t = absurd t

pub given-some : {A : Type 0} (b : Bool) (o : Option A) (x : A) → given b o ≡ some x → T b × (o ≡ some x)
unfolding given
given-some true o x e = (tt, e)
given-some false o x e = let z : ◌≡◌ {A = ℕ} 0 1 = cc in absurd (omega arith)

-- ---- mini-buckets of an ascending list of keys

run-ascending : (lo hi : ℕ) (ms : List ℕ) → T (ascending (lo ∷ ms)) → Below hi ms → Run lo hi ms
run-ascending lo hi [] a b = tt
run-ascending lo hi (m ∷ ms) a b = (ascending-le lo m ms a, b.0, run-ascending m hi ms (ascending-tail lo (m ∷ ms) a) b.1)

-- a byte is 8 bits
pub bytes_pow : (n : ℕ) → 256 ^ n ≡ 2 ^ (8 * n)
bytes_pow zero = refl
bytes_pow (suc n) =
    let eight : 8 * suc n ≡ 8 * n + 8 = omega arith in
    rw (eight, pow-add 2 (8 * n) 8, pow-suc 256 n, bytes_pow n)

-- ---- what is read off bytes

-- keys that were read, by the tests that their bytes passed
pub record Read (L : Layout) (slots : ℕ) (b xs : List ℕ) : Type 0 where
  pub minis : List ℕ
  pub word : minis_from (8 * word_bytes L slots) L.minis 0 (word_in L slots b) ≡ some minis
  pub room : length minis ≤ slots
  pub zeros : T (all_zero (drop (length minis) (tags_in L slots b)))
  pub keys : joined (tags L) minis (tags_in L slots b) ≡ xs

module _ (L : Layout) (slots : ℕ) where
  pub tags-pos : 0 < tags L
  tags-pos = pow_pos (8 * L.tag_bytes)

  -- the word has a bit for each mini-bucket and slot
  pub word_room : (xs : List ℕ) → length xs ≤ slots → L.minis + length (highs (tags L) xs) ≤ 8 * word_bytes L slots
  word_room xs h = omega (arith, length-highs (tags L) xs)

  pub run-highs : (xs : List ℕ) → T (ascending xs) → Below (keys L) xs → Run 0 L.minis (highs (tags L) xs)
  run-highs xs a b =
      let ms : List ℕ = highs (tags L) xs in
      run-ascending 0 L.minis ms (ascending-cons 0 ms (λ z h. omega arith) (ascending-highs (tags L) xs tags-pos a))
      (below-highs L.minis (tags L) xs tags-pos b)

  pub slots-coded : (xs : List ℕ) → T (ascending xs) → Below (keys L) xs
      → Coded L.minis 0 (highs (tags L) xs) (word_from L.minis 0 (highs (tags L) xs))
  slots-coded xs a b = coded-word L.minis 0 (highs (tags L) xs) (rw (zero-add L.minis) (run-highs xs a b))

  slots-lt : (xs : List ℕ) → T (ascending xs) → Below (keys L) xs → length xs ≤ slots → word_from L.minis 0 (highs (tags L) xs) < 256 ^ word_bytes L slots
  slots-lt xs a b h =
      rw (bytes_pow (word_bytes L slots)) (word_lt (8 * word_bytes L slots) L.minis (highs (tags L) xs) (run-highs xs a b) (word_room xs h))

  pub length-word : (xs : List ℕ) → length (word_part L slots xs) ≡ word_bytes L slots
  length-word xs = length_digits 256 (word_bytes L slots) (word_from L.minis 0 (highs (tags L) xs))

  length-tags : (xs : List ℕ) → length xs ≤ slots → length (padded slots (lows (tags L) xs)) ≡ slots
  length-tags xs h = length-padded slots (lows (tags L) xs) (omega (arith, length-lows (tags L) xs))

  pub length-tag_part : (xs : List ℕ) → length xs ≤ slots → length (tag_part L slots xs) ≡ slots * L.tag_bytes
  length-tag_part xs h = length-spread 256 L.tag_bytes (padded slots (lows (tags L) xs)) ∙ ap (λ (n : ℕ). n * L.tag_bytes) (length-tags xs h)

  pub length-slot_bytes : (xs : List ℕ) → length xs ≤ slots → length (slot_bytes L slots xs) ≡ slot_end L slots
  unfolding slot_bytes
  length-slot_bytes xs h = length-append (word_part L slots xs) (tag_part L slots xs) ∙ ap₂ ◌+◌ (length-word xs) (length-tag_part xs h)

  pub keys-read : (b xs : List ℕ) → Read L slots b xs → slot_keys L slots b ≡ some xs
  unfolding slot_keys bind
  keys-read b xs r = rw (
    r.word,
    given-true (leb (length r.minis) slots) _ (le→leb (length r.minis) slots r.room),
    given-true (all_zero (drop (length r.minis) (tags_in L slots b))) _ r.zeros,
    r.keys,
  )

  read-checked : (b xs ms : List ℕ) → minis_from (8 * word_bytes L slots) L.minis 0 (word_in L slots b) ≡ some ms
      → given (leb (length ms) slots) (given (all_zero (drop (length ms) (tags_in L slots b))) (some (joined (tags L) ms (tags_in L slots b)))) ≡ some xs
      → Read L slots b xs
  read-checked b xs ms w e =
      let fits : T (leb (length ms) slots) × _ = given-some (leb (length ms) slots) _ xs e in
      let zero : T (all_zero (drop (length ms) (tags_in L slots b))) × _ = given-some (all_zero (drop (length ms) (tags_in L slots b))) _ xs fits.1 in
      record { minis = ms; word = w; room = leb→le (length ms) slots fits.0; zeros = zero.0; keys = cc zero.1 }

  pub read-keys : (b xs : List ℕ) → slot_keys L slots b ≡ some xs → Read L slots b xs
  unfolding slot_keys
  read-keys b xs e =
      let found : (ms : List ℕ) × (minis_from (8 * word_bytes L slots) L.minis 0 (word_in L slots b) ≡ some ms) × (_ ≡ some xs) =
      (bind-eq-some_iff _ _).0 e in
      read-checked b xs found.0 found.1 found.2

  -- the word's bytes and the tags' bytes are read back
  pub word_in-slot_bytes : (xs rest : List ℕ) → T (ascending xs) → Below (keys L) xs → length xs ≤ slots
      → word_in L slots (slot_bytes L slots xs ++ rest) ≡ word_from L.minis 0 (highs (tags L) xs)
  unfolding slot_bytes
  word_in-slot_bytes xs rest a b h =
      let w : ℕ = word_from L.minis 0 (highs (tags L) xs) in
      rw (
        append_assoc (word_part L slots xs) (tag_part L slots xs) rest,
        take_at (word_part L slots xs) (tag_part L slots xs ++ rest) (word_bytes L slots) (length-word xs),
      )
      (value-digits 256 (word_bytes L slots) w (omega arith) (slots-lt xs a b h))

  pub tags_in-slot_bytes : (xs rest : List ℕ) → length xs ≤ slots → tags_in L slots (slot_bytes L slots xs ++ rest) ≡ padded slots (lows (tags L) xs)
  unfolding slot_bytes
  tags_in-slot_bytes xs rest h =
      let rs : List ℕ = padded slots (lows (tags L) xs) in
      let small : Below (256 ^ L.tag_bytes) rs =
      rw (bytes_pow L.tag_bytes) (below-padded (tags L) slots (lows (tags L) xs) tags-pos (below-lows (tags L) xs tags-pos)) in
      rw (
        append_assoc (word_part L slots xs) (tag_part L slots xs) rest,
        drop_at (word_part L slots xs) (tag_part L slots xs ++ rest) (word_bytes L slots) (length-word xs),
      )
      (rw (length-tags xs h) at (grouped-spread 256 L.tag_bytes rs rest (omega arith) small))

  pub slot_keys-slot_bytes : (xs rest : List ℕ) → T (ascending xs) → Below (keys L) xs → length xs ≤ slots
      → slot_keys L slots (slot_bytes L slots xs ++ rest) ≡ some xs
  slot_keys-slot_bytes xs rest a b h =
      keys-read (slot_bytes L slots xs ++ rest) xs (record {
        minis = highs (tags L) xs;
        word = rw (word_in-slot_bytes xs rest a b h) (minis-coded (8 * word_bytes L slots) (slots-coded xs a b) (word_room xs h));
        room = omega (arith, length-highs (tags L) xs);
        zeros = rw (tags_in-slot_bytes xs rest h) (padded-unused (tags L) slots xs);
        keys = rw (tags_in-slot_bytes xs rest h) (joined-padded (tags L) slots xs tags-pos);
      })

  -- ---- what stands in bytes that were read

  pub length-tags_in : (b : List ℕ) → length (tags_in L slots b) ≡ slots
  length-tags_in b = length-grouped 256 L.tag_bytes slots (drop (word_bytes L slots) b)

  tags-room : (b : List ℕ) → slot_end L slots ≤ length b → slots * L.tag_bytes ≤ length (drop (word_bytes L slots) b)
  tags-room b long = omega (arith, length-drop (word_bytes L slots) b)

  pub below-tags_in : (b : List ℕ) → Below 256 b → slot_end L slots ≤ length b → Below (tags L) (tags_in L slots b)
  below-tags_in b bytes long = rw (bytes_pow L.tag_bytes) at
      (below-grouped 256 L.tag_bytes slots (drop (word_bytes L slots) b) (below-drop 256 (word_bytes L slots) b bytes) (tags-room b long))

  -- the members read are at most the slots
  read_short : (b xs : List ℕ) → Read L slots b xs → length xs ≤ slots
  read_short b xs r =
      rw (← r.keys) (omega (arith, length-joined (tags L) r.minis (tags_in L slots b) (omega (arith, length-tags_in b, r.room)), r.room))

  pub slot_keys-short : (b xs : List ℕ) → slot_keys L slots b ≡ some xs → length xs ≤ slots
  slot_keys-short b xs e = read_short b xs (read-keys b xs e)

  module _ (b xs : List ℕ) (bytes : Below 256 b) (long : slot_end L slots ≤ length b) (r : Read L slots b xs) where
    coded-read : Coded L.minis 0 r.minis (word_in L slots b)
    coded-read = (coded-minis (8 * word_bytes L slots) L.minis 0 (word_in L slots b) r.minis r.word).0

    small : Below (tags L) (tags_in L slots b)
    small = below-tags_in b bytes long

    highs-read : highs (tags L) xs ≡ r.minis
    highs-read = rw (← r.keys) (highs-joined (tags L) r.minis (tags_in L slots b) (omega (arith, length-tags_in b, r.room)) small)

    word_read : word_part L slots xs ≡ take (word_bytes L slots) b
    word_read = rw (highs-read, ← coded-unique coded-read) (rw (length-take-le (word_bytes L slots) b (omega arith)) at
        (digits_value 256 (take (word_bytes L slots) b) (below-take 256 (word_bytes L slots) b bytes)))

    tags-read : tag_part L slots xs ≡ take (slots * L.tag_bytes) (drop (word_bytes L slots) b)
    tags-read = rw (← r.keys, padded-joined (tags L) slots r.minis (tags_in L slots b) (length-tags_in b) r.room small r.zeros)
        (spread-grouped 256 L.tag_bytes slots (drop (word_bytes L slots) b) (below-drop 256 (word_bytes L slots) b bytes) (tags-room b long))

    bytes_read : slot_bytes L slots xs ≡ take (slot_end L slots) b
    unfolding slot_bytes
    bytes_read = rw (word_read, tags-read) (sym (take-add (word_bytes L slots) (slots * L.tag_bytes) b))

    range-read : Below (keys L) xs
    range-read = rw (← r.keys) (below-joined L.minis (tags L) r.minis (tags_in L slots b)
        (run-below 0 L.minis r.minis (rw (zero-add L.minis) at (coded-run coded-read))) small)

  pub slot_bytes-slot_keys : (b xs : List ℕ) → Below 256 b → slot_end L slots ≤ length b → slot_keys L slots b ≡ some xs
      → slot_bytes L slots xs ≡ take (slot_end L slots) b
  slot_bytes-slot_keys b xs bytes long e = bytes_read b xs bytes long (read-keys b xs e)

  pub slot_keys-list : (b xs : List ℕ) → Below 256 b → slot_end L slots ≤ length b → slot_keys L slots b ≡ some xs
      → Below (keys L) xs × (length xs ≤ slots)
  slot_keys-list b xs bytes long e =
      let r : Read L slots b xs = read-keys b xs e in
      (range-read b xs bytes long r, read_short b xs r)
