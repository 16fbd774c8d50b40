-- What the reader's pass over all slots meets, at any layout: the mini-buckets of a word's zeros, what each slot holds, and what is still to be
-- said from a slot on. Main results: `slot_minis-run`, `slot_minis-gaps`, `zero-at`, `slot_members-at`, `pass-start`, `pass-stop`, `pass_on`,
-- `pass-end`, and for the slots below x `below-rest-smaller`, `below-rest-other`, `below-rest-none`. The last section is of layout 1.
use mathlib.Core.Path.{◌≡◌, refl, sym, ◌∙◌, ap}
use Prim.Native.Nat.{ℕ, zero, suc, ◌+◌, ◌*◌, ◌-◌, ◌^◌, ◌≤◌, ◌<◌, ◌%◌}
use mathlib.Core.Bool.{Bool, true, false, and-true}
use mathlib.Core.List.{List, [], ◌∷◌, ◌++◌}
use native.Mathlib.Nat.{le_refl}
use native.Mathlib.Omega.{arith}
use lib.ListN.{length, drop, get_or, replicate, length-append, length-replicate, drop_of_length-le, get_or-append, take}
use lib.Seq.{drop-cons, drop-drop}
use lib.Count.{ones, count_trailing_zeros}
use lib.Bits.{bit_and}
use lib.Dec.{leb, leb-zero}
use borrow.Author.Tests.{lt-leb, le-leb}
use Rattle.multiset.specs.Multisets.{ascending, at_least, below}
use Rattle.multiset.specs.Digits.{joined, value}
use Rattle.crumbmap.specs.Layouts.{Layout, tags, layout1}
use Rattle.buckets.specs.Words.{minis_in}
use Rattle.buckets.specs.Buckets.{Fits64}
use Rattle.words.specs.Steps.Wide.{word_bytes1}
use Rattle.minifilter.specs.Steps.Slots.{slots_of, slot_crumbs, member_of, with_crumbs, head_of, bits_of, zeros_of, word_of, tags_of, tag_at, minis_of, slot_minis, slot_members}
use Rattle.multiset.proofs.RankLaws.{below-smaller, below_other}
use Rattle.multiset.proofs.DigitLaws.{length-joined, length-joined-min}
use Rattle.buckets.proofs.WordLaws.{Run, coded-minis_in, minis_in-run}
use Rattle.buckets.proofs.ElementLaws.{grouped-at, joined_at}
use Rattle.buckets.proofs.GapLaws.{gaps, gaps-word, gap-place, gap-next, gap_below, gap-some}
use Rattle.buckets.proofs.SlotBytes.{length-tags_in}
use Rattle.buckets.proofs.BucketLaws.{length-crumbs_in}

-- ---- the word's zeros

run-padded : (lo hi p : ℕ) (ms : List ℕ) → lo ≤ hi → Run lo hi ms → Run lo (suc hi) (ms ++ replicate p hi)
run-padded lo hi zero [] h r = tt
run-padded lo hi (suc p) [] h r = (h, le_refl (suc hi), run-padded hi hi p [] (le_refl hi) tt)
run-padded lo hi p (m ∷ ms) h r = (r.0, omega arith, run-padded m hi p ms (omega arith) r.2)

-- z are the zeros from slot s on, where those of all slots stand over ms: the lowest stands over the mini-bucket of s, the others are those
-- from the next slot on
pub record ZeroAt (bits minis : ℕ) (ms : List ℕ) (s z : ℕ) : Type 0 where
  pub place : count_trailing_zeros bits z ≡ get_or ms s 0 + s
  pub mini : get_or ms s 0 ≤ minis
  pub some : 0 < z
  pub next : bit_and z (z - 1) ≡ gaps (suc s) (drop (suc s) ms)

module _ (L : Layout) (crumbs : Bool) where
  -- a bit for each mini-bucket and slot
  pub bits-room : L.minis + slots_of L crumbs ≤ bits_of L crumbs
  bits-room = omega arith

  module _ (w : ℕ) (small : w < 2 ^ bits_of L crumbs) (full : ones w ≡ L.minis) where
    pub length-slot_minis : length (slot_minis L crumbs w) ≡ zeros_of L crumbs
    unfolding slot_minis
    length-slot_minis = rw (length-append, length-replicate) (omega (arith, (coded-minis_in (bits_of L crumbs) L.minis w small full).1))

    pub slot_minis-run : Run 0 (suc L.minis) (slot_minis L crumbs w)
    unfolding slot_minis
    slot_minis-run = run-padded 0 L.minis (zeros_of L crumbs - length (minis_of L crumbs w)) (minis_of L crumbs w) (omega arith)
        (minis_in-run (bits_of L crumbs) L.minis w small full)

    pub slot_minis-gaps : gaps 0 (slot_minis L crumbs w) + (1 + w) ≡ 2 ^ bits_of L crumbs
    unfolding slot_minis
    slot_minis-gaps =
        let c = coded-minis_in (bits_of L crumbs) L.minis w small full in
        gaps-word (zeros_of L crumbs - length (minis_of L crumbs w)) (bits_of L crumbs) c.0 (omega (arith, c.1))

    -- a slot in use stands over its member's mini-bucket
    pub slot_minis-used : (s : ℕ) → s < length (minis_of L crumbs w) → get_or (slot_minis L crumbs w) s 0 ≡ get_or (minis_of L crumbs w) s 0
    unfolding slot_minis
    slot_minis-used s h = get_or-append (minis_of L crumbs w) _ 0 s h

    pub zero-at : (s z : ℕ) → s < zeros_of L crumbs → z ≡ gaps s (drop s (slot_minis L crumbs w))
        → ZeroAt (bits_of L crumbs) L.minis (slot_minis L crumbs w) s z
    zero-at s z h e =
        let ms = slot_minis L crumbs w in
        let top : ℕ = suc L.minis in
        let bits = bits_of L crumbs in
        let l = length-slot_minis in
        let r = bits-room in
        let fits : top + length ms ≤ suc bits = omega (arith, l, r) in
        let k : s < length ms = omega (arith, l) in
        let below = gap_below top bits ms slot_minis-run fits s k in
        record {
          place = rw e (gap-place top bits ms slot_minis-run fits s k);
          mini = omega (arith, below);
          some = rw e (gap-some top bits ms slot_minis-run fits s k);
          next = ap (λ (x : ℕ). bit_and x (x - 1)) e ∙ gap-next top bits ms slot_minis-run fits s k;
        }

-- ---- what the slots hold

pub tag_in : (L : Layout) (crumbs : Bool) (b : List ℕ) (i : ℕ) → i < slots_of L crumbs → get_or (tags_of L crumbs b) i 0 ≡ tag_at L crumbs b i
tag_in L crumbs b i h =
    grouped-at 256 L.tag_bytes (slots_of L crumbs) (drop (head_of L crumbs) b) i h ∙ rw (drop-drop (i * L.tag_bytes) (head_of L crumbs) b)

module _ (L : Layout) (fits : Fits64 L) (b : List ℕ) (long : length b ≡ 64) where
  pub length-slot_crumbs : L.back_slots ≤ length (slot_crumbs L true b)
  length-slot_crumbs = omega (arith, length-crumbs_in L b long, fits.back)

  pub length-with_crumbs : (crumbs : Bool) (xs : List ℕ) → length xs ≤ slots_of L crumbs
      → length (with_crumbs crumbs xs (slot_crumbs L crumbs b)) ≡ length xs
  length-with_crumbs true xs h = length-joined 16 xs (slot_crumbs L true b) (omega (arith, length-slot_crumbs))
  length-with_crumbs false xs h = refl

  with_crumbs-at : (crumbs : Bool) (xs : List ℕ) (s : ℕ) → length xs ≤ slots_of L crumbs → s < length xs
      → get_or (with_crumbs crumbs xs (slot_crumbs L crumbs b)) s 0 ≡ member_of crumbs (get_or xs s 0) (get_or (slot_crumbs L crumbs b) s 0)
  with_crumbs-at true xs s h l = joined_at 16 xs (slot_crumbs L true b) s l (omega (arith, length-slot_crumbs))
  with_crumbs-at false xs s h l = refl

  module _ (crumbs : Bool) (w : ℕ) (small : w < 2 ^ bits_of L crumbs) (full : ones w ≡ L.minis) where
    -- a key in each slot
    length-keys : length (joined (tags L) (slot_minis L crumbs w) (tags_of L crumbs b)) ≡ slots_of L crumbs
    length-keys =
        omega (
          arith,
          length-joined-min (tags L) (slot_minis L crumbs w) (tags_of L crumbs b),
          length-tags_in L (slots_of L crumbs) b,
          length-slot_minis L crumbs w small full,
          bits-room L crumbs,
        )

    pub length-slot_members : length (slot_members L crumbs w b) ≡ slots_of L crumbs
    unfolding slot_members
    length-slot_members = length-with_crumbs crumbs (joined (tags L) (slot_minis L crumbs w) (tags_of L crumbs b)) (omega (arith, length-keys)) ∙ length-keys

    pub slot_members-at : (s : ℕ) → s < slots_of L crumbs → get_or (slot_members L crumbs w b) s 0
        ≡ member_of crumbs (get_or (slot_minis L crumbs w) s 0 * tags L + tag_at L crumbs b s) (get_or (slot_crumbs L crumbs b) s 0)
    unfolding slot_members
    slot_members-at s h =
        let rs = tags_of L crumbs b in
        let l : s < length (slot_minis L crumbs w) = rw (length-slot_minis L crumbs w small full) (omega (arith, bits-room L crumbs)) in
        let k : s < length rs = rw (length-tags_in L (slots_of L crumbs) b) h in
        with_crumbs-at crumbs (joined (tags L) (slot_minis L crumbs w) rs) s (omega (arith, length-keys)) (omega (arith, length-keys))
        ∙ rw (joined_at (tags L) (slot_minis L crumbs w) rs s l k, tag_in L crumbs b s h)

-- ---- the pass itself: what it has still to say from slot s on

pub ascending-zero : (l : List ℕ) → ascending (0 ∷ l) ≡ ascending l
unfolding ascending at_least
ascending-zero [] = refl
ascending-zero (x ∷ l) = rw (leb-zero x)

-- the slots from s on ascend from `last` to `end`
unfoldable pub from_slot : ℕ → ℕ → ℕ → List ℕ → Bool
from_slot end last s ks = ascending (last ∷ (drop s ks ++ (end ∷ [])))

module _ (end : ℕ) (ks : List ℕ) where
  pub pass-start : ascending (ks ++ (end ∷ [])) ≡ from_slot end 0 0 ks
  unfolding from_slot
  pass-start = sym (ascending-zero (ks ++ (end ∷ [])))

  module _ (last s : ℕ) (h : s < length ks) where
    pub pass-stop : get_or ks s 0 < last → from_slot end last s ks ≡ false
    unfolding from_slot ascending at_least
    pass-stop l = rw (drop-cons ks s 0 h, lt-leb last (get_or ks s 0) l)

    pub pass_on : last ≤ get_or ks s 0 → from_slot end last s ks ≡ from_slot end (get_or ks s 0) (suc s) ks
    unfolding from_slot ascending at_least
    pass_on l = rw (drop-cons ks s 0 h, le-leb last (get_or ks s 0) l)

  pub pass-end : (last s : ℕ) → length ks ≤ s → from_slot end last s ks ≡ leb last end
  unfolding from_slot ascending at_least
  pass-end last s h = rw (drop_of_length-le ks h) (and-true (leb last end))

-- ---- the slots below x, counted on the way: those from slot s on are the rest, still to be counted

module _ (x s : ℕ) (ks : List ℕ) (h : s < length ks) where
  pub below-rest-smaller : get_or ks s 0 < x → below x (drop s ks) ≡ suc (below x (drop (suc s) ks))
  below-rest-smaller l = rw (drop-cons ks s 0 h) (below-smaller x (get_or ks s 0) (drop (suc s) ks) l)

  pub below-rest-other : x ≤ get_or ks s 0 → below x (drop s ks) ≡ below x (drop (suc s) ks)
  below-rest-other l = rw (drop-cons ks s 0 h) (below_other x (get_or ks s 0) (drop (suc s) ks) l)

pub below-rest-none : (x s : ℕ) (ks : List ℕ) → length ks ≤ s → below x (drop s ks) ≡ 0
unfolding below
below-rest-none x s ks h = rw (drop_of_length-le ks h)

-- ---- layout 1: a word is one u64, and a tag stands at the same bytes, in either kind of bucket

pub bits1 : (crumbs : Bool) → bits_of layout1 crumbs ≡ 64
bits1 true = refl
bits1 false = refl

pub small1 : (crumbs : Bool) (w : ℕ) → w < 2 ^ 64 → w < 2 ^ bits_of layout1 crumbs
small1 crumbs w h = rw (bits1 crumbs) h

pub word1 : (crumbs : Bool) (b : List ℕ) → value 256 (take word_bytes1 b) ≡ word_of layout1 crumbs b
word1 true b = refl
word1 false b = refl

pub tag1 : (crumbs : Bool) (b : List ℕ) (i : ℕ) → tag_at layout1 crumbs b i ≡ tag_at layout1 false b i
tag1 true b i = refl
tag1 false b i = refl

pub minis1 : (crumbs : Bool) (w : ℕ) → minis_of layout1 crumbs w ≡ minis_in 64 layout1.minis w
minis1 true w = refl
minis1 false w = refl

module _ (w : ℕ) (small : w < 2 ^ 64) (full : ones w ≡ layout1.minis) where
  pub gaps1 : (crumbs : Bool) → gaps 0 (slot_minis layout1 crumbs w) + (1 + w) ≡ 2 ^ 64
  gaps1 true = slot_minis-gaps layout1 true w small full
  gaps1 false = slot_minis-gaps layout1 false w small full

  pub zero1 : (crumbs : Bool) (s z : ℕ) → s < slots_of layout1 crumbs → z ≡ gaps s (drop s (slot_minis layout1 crumbs w))
      → ZeroAt 64 layout1.minis (slot_minis layout1 crumbs w) s z
  zero1 true s z h e = zero-at layout1 true w small full s z (omega arith) e
  zero1 false s z h e = zero-at layout1 false w small full s z (omega arith) e

pub slots1-le : (crumbs : Bool) → slots_of layout1 crumbs ≤ layout1.front_slots
slots1-le true = omega arith
slots1-le false = omega arith

pub slots1-even : (crumbs : Bool) → slots_of layout1 crumbs % 2 ≡ 0
slots1-even true = refl
slots1-even false = refl
