-- What the word and the slots of a sound bucket hold of its members, at any layout, for front and backyard alike: `held`, `held-past`,
-- `held-crumb`, `held-key`, `held-lt`. The last section is of layout 1.
use mathlib.Core.Path.{◌≡◌, sym, ap, ◌∙◌}
use Prim.Native.Nat.{ℕ, ◌+◌, ◌*◌, ◌/◌, ◌%◌, ◌≤◌, ◌<◌}
use mathlib.Core.Bool.{Bool, true, false}
use mathlib.Core.List.{List}
use native.Mathlib.Nat.{mul_comm, mul_assoc, div-lt_iff_lt-mul, div-add-mod', zero-add}
use native.Mathlib.Omega.{arith}
use lib.ListN.{length, take, get_or}
use lib.Count.{ones}
use lib.Dec.{T, lit<, lit≤}
use Rattle.multiset.specs.Multisets.{ascending, below, Below}
use Rattle.multiset.specs.Digits.{value, highs}
use Rattle.crumbmap.specs.Layouts.{Layout, tags, layout1}
use Rattle.buckets.specs.Words.{word_from, minis_in}
use Rattle.buckets.specs.Buckets.{Fits64, front_bytes, back_bytes, crumbs_in, crumb_bytes, crumb_room, FrontList, BackList, front_list, back_list}
use Rattle.words.specs.Steps.Wide.{word_bytes1}
use Rattle.minifilter.specs.Steps.Readings.{SoundFront, SoundBack, Sound, members_of}
use Rattle.minifilter.specs.Steps.Slots.{slots_of, end_of, bits_of, word_of, tag_at, crumb_at, minis_of, span_of, low_at}
use Rattle.multiset.proofs.RankLaws.{below-le-length}
use Rattle.multiset.proofs.DigitLaws.{length-highs}
use Rattle.buckets.proofs.ElementLaws.{below-get_d}
use Rattle.buckets.proofs.HighLaws.{get_d-highs, highs-highs, padded-low, low_parts, crumb-parts, key-parts}
use Rattle.buckets.proofs.WordLaws.{Coded, coded-run, minis_in-coded, ones-coded, run_at}
use Rattle.buckets.proofs.SlotBytes.{tags-pos}
use Rattle.buckets.proofs.KeyBytes.{keys-coded, keys-word, keys-tag, front-keys, back-keys, front_rest, front-slots, back-slots}
use Rattle.buckets.proofs.BucketLaws.{crumbs_in-back_bytes, front_members-list, back_members-list, front_bytes-front_members, back_bytes-back_members, below-crumbs_in}
use Rattle.minifilter.proofs.PassLaws.{bits-room, tag_in}

-- ---- a sound bucket of either kind

pub sound-long : (L : Layout) (crumbs : Bool) (b : List ℕ) → Sound L crumbs b → length b ≡ 64
sound-long L false b s = s.long
sound-long L true b s = s.long

pub span_pos : (L : Layout) (crumbs : Bool) → 0 < span_of L crumbs
span_pos L false = tags-pos L 0
span_pos L true = omega (arith, tags-pos L 0)

-- what a front bucket's and a backyard bucket's bytes are
module _ (L : Layout) (fits : Fits64 L) (b : List ℕ) (bytes : Below 256 b) where
  pub front-list : SoundFront L b → FrontList L (front_list L b)
  front-list s = front_members-list L fits b (front_list L b) bytes s.long s.sound

  pub front_bytes-front_list : SoundFront L b → front_bytes L (front_list L b) ≡ b
  front_bytes-front_list s = front_bytes-front_members L fits b (front_list L b) bytes s.long s.sound

  pub back-list : (s : SoundBack L b) → BackList L s.size s.bucket (back_list L b)
  back-list s = back_members-list L fits s.size s.bucket b (back_list L b) bytes s.long s.sound

  pub back-bytes : SoundBack L b → back_bytes L (back_list L b) ≡ b
  back-bytes s = back_bytes-back_members L fits s.size s.bucket b (back_list L b) bytes s.long s.sound

-- ---- what its word and slots hold of its members

pub record Held (L : Layout) (crumbs : Bool) (b ys : List ℕ) : Type 0 where
  pub coded : Coded L.minis 0 (highs (span_of L crumbs) ys) (word_of L crumbs b)
  pub order : T (ascending ys)
  pub room : length ys ≤ slots_of L crumbs
  pub low : (i : ℕ) → i < length ys → low_at L crumbs b i ≡ get_or ys i 0 % span_of L crumbs

module _ (L : Layout) where
  held-front : (xs : List ℕ) → FrontList L xs → Held L false (front_bytes L xs) xs
  held-front xs f =
      let k = front-keys L xs f in
      let b : List ℕ = front_bytes L xs in
      let word : word_of L false b ≡ word_from L.minis 0 (highs (tags L) xs) =
      rw (front-slots L xs) (keys-word L L.front_slots xs k (front_rest L xs)) in
      record {
        coded = rw word (keys-coded L L.front_slots xs k);
        order = f.order;
        room = f.room;
        low = λ i h. sym (tag_in L false b i (omega (arith, f.room))) ∙ rw (front-slots L xs) (keys-tag L L.front_slots xs k (front_rest L xs) i);
      }

  span-highs : (ys : List ℕ) → highs (tags L) (highs 16 ys) ≡ highs (tags L * 16) ys
  span-highs ys = highs-highs 16 (tags L) ys ∙ ap (λ (k : ℕ). highs k ys) (mul_comm 16 (tags L))

  held_back : Fits64 L → (B j : ℕ) (ys : List ℕ) → BackList L B j ys → Held L true (back_bytes L ys) ys
  held_back fits B j ys f =
      let k = back-keys L B j ys f in
      let b : List ℕ = back_bytes L ys in
      let word : word_of L true b ≡ word_from L.minis 0 (highs (tags L) (highs 16 ys)) =
      rw (back-slots L ys) (keys-word L L.back_slots (highs 16 ys) k (crumb_bytes L ys)) in
      let tag : (i : ℕ) → i < length ys → tag_at L true b i ≡ get_or ys i 0 / 16 % tags L =
      λ i h. sym (tag_in L true b i (omega (arith, f.room)))
      ∙ rw (back-slots L ys) (keys-tag L L.back_slots (highs 16 ys) k (crumb_bytes L ys) i)
      ∙ ap (λ (x : ℕ). x % tags L) (get_d-highs 16 i ys) in
      let crumb : (i : ℕ) → i < length ys → crumb_at L b i ≡ get_or ys i 0 % 16 =
      λ i h. ap (λ (l : List ℕ). get_or l i 0) (crumbs_in-back_bytes L fits ys f.room) ∙ padded-low 16 (crumb_room L * 2) i ys in
      record {
        coded = rw (word, ← span-highs ys) (keys-coded L L.back_slots (highs 16 ys) k);
        order = f.order;
        room = f.room;
        low = λ i h. rw (tag i h, crumb i h) (low_parts (tags L) (get_or ys i 0));
      }

  pub held : Fits64 L → (crumbs : Bool) (b : List ℕ) → Below 256 b → Sound L crumbs b → Held L crumbs b (members_of L crumbs b)
  held fits false b bytes s = rw (front_bytes-front_list L fits b bytes s) at (held-front (front_list L b) (front-list L fits b bytes s))
  held fits true b bytes s = rw (back-bytes L fits b bytes s) at (held_back fits s.size s.bucket (back_list L b) (back-list L fits b bytes s))

module _ (L : Layout) (crumbs : Bool) (b ys : List ℕ) (h : Held L crumbs b ys) where
  pub held-many : ones (word_of L crumbs b) ≡ L.minis
  held-many = ones-coded h.coded

  pub held-minis : minis_of L crumbs (word_of L crumbs b) ≡ highs (span_of L crumbs) ys
  held-minis = minis_in-coded (bits_of L crumbs) h.coded (omega (arith, length-highs (span_of L crumbs) ys, h.room, bits-room L crumbs))

  -- the slots of mini-buckets before one are among those that a bucket has
  pub held-past : (mini : ℕ) → below mini (highs (span_of L crumbs) ys) ≤ slots_of L crumbs
  held-past mini = omega (arith, below-le-length mini (highs (span_of L crumbs) ys), length-highs (span_of L crumbs) ys, h.room)

  held-mini : (i : ℕ) → i < length ys → get_or ys i 0 / span_of L crumbs < L.minis
  held-mini i l =
      let ms : List ℕ = highs (span_of L crumbs) ys in
      let many : length ms ≡ length ys = length-highs (span_of L crumbs) ys in
      rw (get_d-highs (span_of L crumbs) i ys) at (run_at 0 L.minis i ms (rw (zero-add L.minis) at (coded-run h.coded)) (omega arith)).1

-- ---- the key and the crumb of a slot

-- a member's key
abbrev pub member_key : Bool → ℕ → ℕ
member_key false x = x
member_key true y = y / 16

pub crumb-lt : (L : Layout) (b : List ℕ) (i : ℕ) → crumb_at L b i < 16
crumb-lt L b i = below-get_d 16 i (crumbs_in L b) (lit< tt) (below-crumbs_in L b)

module _ (L : Layout) (b ys : List ℕ) (h : Held L true b ys) (i : ℕ) (l : i < length ys) where
  pub held-crumb : crumb_at L b i ≡ get_or ys i 0 % 16
  held-crumb = crumb-parts (tags L) (get_or ys i 0) (tag_at L true b i) (crumb_at L b i) (h.low i l) (crumb-lt L b i)

  pub held-member : (key crumb : ℕ) → key ≡ get_or ys i 0 / 16 → crumb ≡ crumb_at L b i → key * 16 + crumb ≡ get_or ys i 0
  held-member key crumb e q = omega (arith, held-crumb)

pub held-key : (L : Layout) (crumbs : Bool) (b ys : List ℕ) → Held L crumbs b ys → (i : ℕ) → i < length ys
    → get_or (highs (span_of L crumbs) ys) i 0 * tags L + tag_at L crumbs b i ≡ member_key crumbs (get_or ys i 0)
held-key L false b ys h i l = rw (get_d-highs (tags L) i ys, h.low i l) (div-add-mod' (get_or ys i 0) (tags L))
held-key L true b ys h i l = rw (get_d-highs (tags L * 16) i ys)
    (key-parts (tags L) (get_or ys i 0) (tag_at L true b i) (crumb_at L b i) (h.low i l) (crumb-lt L b i))

pub held-lt : (L : Layout) (crumbs : Bool) (b ys : List ℕ) → Held L crumbs b ys → (i : ℕ) → i < length ys → get_or ys i 0 < end_of L crumbs
held-lt L false b ys h i l = (div-lt_iff_lt-mul (span_pos L false)).0 (held-mini L false b ys h i l)
held-lt L true b ys h i l = rw (mul_assoc L.minis (tags L) 16) ((div-lt_iff_lt-mul (span_pos L true)).0 (held-mini L true b ys h i l))

-- ---- layout 1: a word is one u64 in either kind of bucket

module _ (b ys : List ℕ) (w : ℕ) (e : w ≡ value 256 (take word_bytes1 b)) where
  pub held-many1 : (crumbs : Bool) → Held layout1 crumbs b ys → ones w ≡ layout1.minis
  held-many1 true h = rw e (held-many layout1 true b ys h)
  held-many1 false h = rw e (held-many layout1 false b ys h)

  pub held-minis1 : (crumbs : Bool) → Held layout1 crumbs b ys → minis_in 64 layout1.minis w ≡ highs (span_of layout1 crumbs) ys
  held-minis1 true h = rw e (held-minis layout1 true b ys h)
  held-minis1 false h = rw e (held-minis layout1 false b ys h)

  pub held-count1 : (crumbs : Bool) → Held layout1 crumbs b ys → length (minis_in 64 layout1.minis w) ≡ length ys
  held-count1 crumbs h = ap length (held-minis1 crumbs h) ∙ length-highs (span_of layout1 crumbs) ys

pub span1-le : (crumbs : Bool) → span_of layout1 crumbs ≤ tags layout1 * 16
span1-le false = lit≤ tt
span1-le true = lit≤ tt
