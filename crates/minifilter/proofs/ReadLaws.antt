-- What the reader answers at any layout: the pass over all slots says that the members ascend and the others are 0, and counts those below x.
-- Main results: `reading-unlike`, `reading-over`, `reading-slots`, `reading-front`.
use mathlib.Core.Path.{◌≡◌, refl, sym, ◌∙◌, ap}
use Prim.Native.Nat.{ℕ, ◌+◌, ◌-◌, ◌^◌, ◌≤◌, ◌<◌, zero-le}
use mathlib.Core.Bool.{Bool, true, false, ◌&&◌, and-true, and_assoc, and_comm}
use mathlib.Core.List.{List, [], ◌∷◌, ◌++◌}
use mathlib.Core.Option.{Option, none, some, bind}
use native.Mathlib.Omega.{arith}
use lib.ListN.{length, take, drop, replicate, drop_of_length-le}
use lib.Seq.{drop-nil, take-nil}
use lib.Count.{ones}
use borrow.Author.Tests.{lt-leb, le-leb}
use Rattle.std.specs.Prelude as S
use Rattle.multiset.specs.Multisets.{ascending, all_zero, below, Below}
use Rattle.multiset.specs.Digits.{joined}
use Rattle.crumbmap.specs.Layouts.{Layout, tags, keys}
use Rattle.buckets.specs.Buckets.{Fits64, given, slot_keys, slot_end, front_members}
use Rattle.minifilter.specs.Steps.Readings.{reading_of}
use Rattle.minifilter.specs.Steps.Slots.{slots_of, slot_crumbs, with_crumbs, end_of, bits_of, zeros_of, word_of, tags_of, minis_of, slot_minis, slot_members, in_order, order_of, slot_list}
use Rattle.minifilter.specs.declared.Reading.{Reading}
use Rattle.multiset.proofs.DigitLaws.{length-joined, below-joined}
use Rattle.buckets.proofs.WordLaws.{run-below, minis-none, minis-word, minis_in-run}
use Rattle.buckets.proofs.SlotBytes.{below-tags_in, length-tags_in}
use Rattle.buckets.proofs.PieceLaws.{joined-append}
use Rattle.buckets.proofs.BucketLaws.{below-crumbs_in}
use Rattle.minifilter.proofs.SlotOrder.{raised, order-all, below-slots, joined-raised, keys-split, zeros-joined}
use Rattle.minifilter.proofs.PassLaws.{bits-room, ascending-zero, length-slot_crumbs, length-with_crumbs}

-- ---- a reading by what was tested

-- a member count n, and k of them below x, where a test holds
abbrev pub count_if : Bool → ℕ → ℕ → S.Option Reading
count_if true n k = S.Some (record { members = n; below = k })
count_if false n k = S.None

-- the same by what the pass over the slots says
abbrev pub order_reading : ℕ → S.Option ℕ → S.Option Reading
order_reading n (S.Some k) = S.Some (record { members = n; below = k })
order_reading n S.None = S.None

reading-order : (t : Bool) (n x : ℕ) (ks : List ℕ) → count_if t n (below x ks) ≡ order_reading n (order_of t x ks)
reading-order true n x ks = refl
reading-order false n x ks = refl

pub reading-given : (x : ℕ) (t : Bool) (xs : List ℕ) → reading_of x (given t (some xs)) ≡ count_if t (length xs) (below x xs)
unfolding given
reading-given x true xs = refl
reading-given x false xs = refl

bind-given : (t : Bool) (xs : List ℕ) (f : List ℕ → Option (List ℕ)) → bind (given t (some xs)) f ≡ given t (f xs)
unfolding given bind
bind-given true xs f = refl
bind-given false xs f = refl

given-and : (t u : Bool) (o : Option (List ℕ)) → given t (given u o) ≡ given (u && t) o
unfolding given
given-and true true o = refl
given-and true false o = refl
given-and false true o = refl
given-and false false o = refl

-- ---- the reader's answers

module _ (L : Layout) (fits : Fits64 L) (b : List ℕ) (long : length b ≡ 64) where
  -- the same with crumbs
  slots-split : (crumbs : Bool) (p : ℕ) (ms rs : List ℕ) → length ms ≤ length rs → length rs ≤ length ms + p
      → length rs ≤ slots_of L crumbs
      → let n = length ms in let cs = slot_crumbs L crumbs b in
      with_crumbs crumbs (joined (tags L) (ms ++ replicate p L.minis) rs) cs
      ≡ with_crumbs crumbs (joined (tags L) ms rs) cs ++ raised (end_of L crumbs) (with_crumbs crumbs (drop n rs) (drop n cs))
  slots-split false p ms rs h l g = keys-split (tags L) L.minis p ms rs h l
  slots-split true p ms rs h l g =
      let cs = slot_crumbs L true b in
      let n = length-joined (tags L) ms rs h in
      ap (λ (xs : List ℕ). joined 16 xs cs) (keys-split (tags L) L.minis p ms rs h l)
      ∙ joined-append 16 (joined (tags L) ms rs) (raised (keys L) (drop (length ms) rs)) cs (omega (arith, length-slot_crumbs L fits b long))
      ∙ rw (n, joined-raised (keys L) (drop (length ms) rs) (drop (length ms) cs))

  zeros-members : (crumbs : Bool) (n : ℕ) (rs : List ℕ) → length rs ≤ slots_of L crumbs
      → let cs = slot_crumbs L crumbs b in
      all_zero (with_crumbs crumbs (drop n rs) (drop n cs)) ≡ all_zero (drop n rs) && all_zero (drop n (take (length rs) cs))
  unfolding all_zero
  zeros-members true n rs h = zeros-joined n rs (slot_crumbs L true b) (omega (arith, length-slot_crumbs L fits b long))
  zeros-members false n rs h = rw (take-nil (length rs), drop-nil n) (sym (and-true (all_zero (drop n rs))))

  below-members : (crumbs : Bool) (ms rs : List ℕ) → Below L.minis ms → Below (tags L) rs
      → Below (end_of L crumbs) (with_crumbs crumbs (joined (tags L) ms rs) (slot_crumbs L crumbs b))
  below-members false ms rs bm br = below-joined L.minis (tags L) ms rs bm br
  below-members true ms rs bm br =
      below-joined (keys L) 16 (joined (tags L) ms rs) (slot_crumbs L true b) (below-joined L.minis (tags L) ms rs bm br) (below-crumbs_in L b)

  -- word and tags stand within the 64 bytes
  slots-inside : (crumbs : Bool) → slot_end L (slots_of L crumbs) ≤ length b
  slots-inside true = omega (arith, long, fits.back)
  slots-inside false = omega (arith, long, fits.front)

  module _ (x w : ℕ) (crumbs : Bool) (word : w ≡ word_of L crumbs b) where
    -- "exactly 36 ones"
    pub reading-unlike : (ones w ≡ L.minis → ⊥) → reading_of x (slot_list L crumbs b) ≡ S.None
    unfolding slot_list slot_keys bind
    reading-unlike h = rw (← word, minis-none (bits_of L crumbs) L.minis 0 w h)

    module _ (small : w < 2 ^ bits_of L crumbs) (full : ones w ≡ L.minis) where
      -- the members' mini-buckets, the tags and crumbs of all slots, and the members
      abbrev ms : List ℕ
      ms = minis_of L crumbs w

      abbrev rs : List ℕ
      rs = tags_of L crumbs b

      abbrev cs : List ℕ
      cs = slot_crumbs L crumbs b

      abbrev ys : List ℕ
      ys = with_crumbs crumbs (joined (tags L) ms rs) cs

      many-tags : length rs ≡ slots_of L crumbs
      many-tags = length-tags_in L (slots_of L crumbs) b

      -- "members fit the slots"
      pub reading-over : slots_of L crumbs < length ms → reading_of x (slot_list L crumbs b) ≡ S.None
      unfolding slot_list slot_keys given bind
      reading-over h = rw (← word, minis-word (bits_of L crumbs) L.minis w small full, lt-leb (length ms) (slots_of L crumbs) h)

      module _ (h : length ms ≤ slots_of L crumbs) where
        split-all : slot_members L crumbs w b ≡ ys ++ raised (end_of L crumbs) (with_crumbs crumbs (drop (length ms) rs) (drop (length ms) cs))
        unfolding slot_members slot_minis
        split-all =
            let g = many-tags in
            slots-split crumbs (zeros_of L crumbs - length ms) ms rs (omega arith) (omega (arith, bits-room L crumbs)) (omega arith)

        -- the pass over all slots says that the members ascend and the others are 0
        in_order-all : Below 256 b → in_order L crumbs w b
            ≡ ascending ys && (all_zero (drop (length ms) rs) && all_zero (drop (length ms) (take (slots_of L crumbs) cs)))
        unfolding in_order
        in_order-all bytes =
            let zs = with_crumbs crumbs (drop (length ms) rs) (drop (length ms) cs) in
            let minis-lt : Below L.minis ms = run-below 0 L.minis ms (minis_in-run (bits_of L crumbs) L.minis w small full) in
            let tags-lt : Below (tags L) rs = below-tags_in L (slots_of L crumbs) b bytes (slots-inside crumbs) in
            rw split-all (sym (ascending-zero ((ys ++ raised (end_of L crumbs) zs) ++ (end_of L crumbs ∷ [])))
            ∙ order-all (end_of L crumbs) 0 ys zs zero-le (below-members crumbs ms rs minis-lt tags-lt)
            ∙ rw (ascending-zero ys, zeros-members crumbs (length ms) rs (omega (arith, many-tags)), many-tags))

        pub reading-slots : Below 256 b → x ≤ end_of L crumbs
            → reading_of x (slot_list L crumbs b) ≡ order_reading (length ms) (order_of (in_order L crumbs w b) x (slot_members L crumbs w b))
        unfolding slot_list slot_keys bind given
        reading-slots bytes small-x =
            let slots = slots_of L crumbs in
            let g = many-tags in
            let xs = joined (tags L) ms rs in
            let lx : length xs ≡ length ms = length-joined (tags L) ms rs (omega arith) in
            let ly : length ys ≡ length ms = length-with_crumbs L fits b long crumbs xs (omega arith) ∙ lx in
            let used : Bool = all_zero (drop (length ms) rs) in
            let rest : Bool = all_zero (drop (length xs) (take slots cs)) in
            let zs = with_crumbs crumbs (drop (length ms) rs) (drop (length ms) cs) in
            rw (← word, minis-word (bits_of L crumbs) L.minis w small full, le-leb (length ms) slots h)
            (ap (λ (o : Option (List ℕ)). reading_of x o) (bind-given used xs (λ (l : List ℕ).
            given (ascending (with_crumbs crumbs l cs) && all_zero (drop (length l) (take slots cs))) (some (with_crumbs crumbs l cs)))
            ∙ given-and used (ascending ys && rest) (some ys))
            ∙ reading-given x ((ascending ys && rest) && used) ys
            ∙ rw (
              ly,
              lx,
              ← reading-order (in_order L crumbs w b) (length ms) x (slot_members L crumbs w b),
              in_order-all bytes,
              split-all,
              below-slots (end_of L crumbs) x ys zs small-x,
              and_assoc (ascending ys) (all_zero (drop (length ms) (take slots cs))) used,
              and_comm (all_zero (drop (length ms) (take slots cs))) used,
            ))

-- a front bucket whose word and tags take all 64 bytes is all slots
pub reading-front : (L : Layout) (key : ℕ) (b : List ℕ) → length b ≡ 64 → slot_end L L.front_slots ≡ 64
    → reading_of key (front_members L b) ≡ reading_of key (slot_list L false b)
unfolding front_members slot_list bind given all_zero
reading-front L key b long whole = go (slot_keys L L.front_slots b)
  where
    go : (o : Option (List ℕ))
        → reading_of key (bind o (λ xs. given (ascending xs) (given (all_zero (drop (slot_end L L.front_slots) b)) (some xs))))
        ≡ reading_of key (bind o (λ xs. given (ascending xs && all_zero (drop (length xs) (take {A = ℕ} L.front_slots []))) (some xs)))
    go none = refl
    go (some xs) =
        rw (drop_of_length-le b {i = slot_end L L.front_slots} (omega arith), take-nil {A = ℕ} L.front_slots, drop-nil {A = ℕ} (length xs), and-true (ascending xs))
