-- Why the quick test of a front bucket suffices, at any layout: where each slot whose tag is above the next one's stands right below a one of the
-- word, and what is past the members is 0, the slots are in order. Main results: `covered`, `slots-rise`, `quick-order`; for either kind of bucket
-- `key-rises`, `members-order`.
use mathlib.Core.Path.{◌≡◌, refl, sym, ◌∙◌, ap}
use Prim.Native.Nat.{ℕ, zero, suc, ◌+◌, ◌*◌, ◌-◌, ◌/◌, ◌%◌, ◌^◌, ◌≤◌, ◌<◌}
use mathlib.Core.Bool.{Bool, true, false}
use mathlib.Core.Logic.{◌⊎◌, ⊎_elim}
use mathlib.Core.List.{List, [], ◌∷◌, ◌++◌}
use native.Mathlib.Nat.{zero-add, pow-succ', mul-le-mul_right, div-one, zero-div}
use native.Mathlib.Omega.{arith, by_contra}
use lib.ListN.{length, get_or, replicate}
use lib.Pow.{pow_pos, pow_mono}
use lib.Count.{ones, ones_in}
use lib.Bits.{bit_and, and_step}
use borrow.Author.Tests.{le-leb, lt-ltb, le-ltb}
use Rattle.multiset.specs.Multisets.{ascending, at_least, Below}
use Rattle.crumbmap.specs.Layouts.{Layout, layout1, tags}
use Rattle.buckets.specs.Buckets.{Fits64}
use Rattle.borders.specs.Steps.Borders.{zeros_in, ends_in, borders_in}
use Rattle.minifilter.specs.Steps.Slots.{slots_of, slot_crumbs, member_of, end_of, bits_of, zeros_of, tags_of, tag_at, minis_of, slot_minis, slot_members, in_order, Ordered}
use Rattle.minifilter.specs.Steps.Marks.{marks_of, fall_at}
use Rattle.buckets.proofs.WordLaws.{Run, Coded, done, member, end, coded-run, coded-lt, coded-minis_in, minis_in-run, run_at}
use Rattle.multiset.proofs.MultisetLaws.{below_at}
use Rattle.buckets.proofs.BitLaws.{shr-suc}
use Rattle.buckets.proofs.SlotBytes.{below-tags_in, length-tags_in}
use Rattle.buckets.proofs.BucketLaws.{fits1}
use Rattle.words.proofs.SelectLaws.{ones_low}
use Rattle.words.proofs.ByteLaws.{ones_split}
use Rattle.borders.proofs.BorderLaws.{zeros-ones, ends-lt}
use Rattle.minifilter.proofs.MarkLaws.{marks-lt, mark_set}
use Rattle.minifilter.proofs.PassLaws.{tag_in, bits-room, length-slot_minis, slot_minis-run, slot_minis-used, length-slot_members, slot_members-at}

-- ---- a bit of a number

-- where x and what y lacks have no bit in common, y has every bit that x has
pub covered : (k x y i : ℕ) → x < 2 ^ k → y < 2 ^ k → bit_and x (2 ^ k - 1 - y) ≡ 0 → x / 2 ^ i % 2 ≡ 1 → y / 2 ^ i % 2 ≡ 1
covered zero x y i h l e b = let z : x ≡ 0 = omega arith in absurd (omega (arith, rw z at b, zero-div (2 ^ i)))
covered (suc k) x y zero h l e b =
    let n : ℕ = 2 ^ suc k - 1 - y in
    omega (arith, e, and_step x n, pow-succ' 2 k, div-one x, div-one y)
covered (suc k) x y (suc i) h l e b =
    let n : ℕ = 2 ^ suc k - 1 - y in
    let half : n / 2 ≡ 2 ^ k - 1 - y / 2 = omega (arith, pow-succ' 2 k) in
    let none : bit_and (x / 2) (n / 2) ≡ 0 = omega (arith, e, and_step x n) in
    rw (shr-suc i y)
    (covered k (x / 2) (y / 2) i (omega (arith, pow-succ' 2 k)) (omega (arith, pow-succ' 2 k)) (rw half at none) (rw (shr-suc i x) at b))

-- a higher power of two changes no bit below it
pub bit_below : (x k i : ℕ) → i < k → (2 ^ k + x) / 2 ^ i % 2 ≡ x / 2 ^ i % 2
bit_below x zero i h = absurd (omega arith)
bit_below x (suc k) zero h = omega (arith, div-one x, div-one (2 ^ suc k + x), pow-succ' 2 k)
bit_below x (suc k) (suc i) h =
    let half : (2 ^ suc k + x) / 2 ≡ 2 ^ k + x / 2 = omega (arith, pow-succ' 2 k) in
    rw (shr-suc i (2 ^ suc k + x), shr-suc i x, half) (bit_below (x / 2) k i (omega arith))

-- ---- a zero right below a one stands over an earlier mini-bucket than the next zero

ends-none : (d : ℕ) → ends_in d 0 ≡ 0
unfolding ends_in
ends-none zero = refl
ends-none (suc d) = omega (arith, ends-none d)

-- what stands behind a one is of a later mini-bucket
next-later : {n m : ℕ} {ms : List ℕ} {w : ℕ} → Coded (suc n) m ms w → (p : ℕ) → w % 2 ≡ 1 → 0 < length ms + p
    → m < get_or (ms ++ replicate p (m + suc n)) 0 0
next-later (member c) p o h = absurd (omega arith)
next-later (end {n = n} {m = m} {ms = []} c) zero o h = absurd (omega arith)
next-later (end {n = n} {m = m} {ms = []} c) (suc p) o h = omega arith
next-later (end {n = n} {m = m} {ms = x ∷ xs} c) p o h = omega (arith, (coded-run c).0)

ends-rise : {n m : ℕ} {ms : List ℕ} {w : ℕ} → Coded n m ms w → (p d i : ℕ) → ends_in d w / 2 ^ i % 2 ≡ 1 → suc i < length ms + p
    → get_or (ms ++ replicate p (m + n)) i 0 < get_or (ms ++ replicate p (m + n)) (suc i) 0
unfolding ends_in
ends-rise done p d i b h = absurd (omega (arith, rw (ends-none d) at b, zero-div (2 ^ i)))
ends-rise (member c) p zero i b h = absurd (omega (arith, zero-div (2 ^ i)))
ends-rise (member {n = n} {m = m} {ms = ms} {w = w} c) p (suc d) zero b h =
    let even : 2 * w % 2 ≡ 0 = omega arith in
    let half : 2 * w / 2 ≡ w = omega arith in
    next-later c p (omega (arith, rw (even, half) at b, div-one (w % 2 + 2 * ends_in d w))) (omega arith)
ends-rise (member {n = n} {m = m} {ms = ms} {w = w} c) p (suc d) (suc i) b h =
    let even : 2 * w % 2 ≡ 0 = omega arith in
    let half : 2 * w / 2 ≡ w = omega arith in
    let rest : (w % 2 + 2 * ends_in d w) / 2 ≡ ends_in d w = omega arith in
    ends-rise c p d i (rw (shr-suc i (w % 2 + 2 * ends_in d w), rest) at (rw (even, half) at b)) (omega arith)
ends-rise (end c) p zero i b h = absurd (omega (arith, zero-div (2 ^ i)))
ends-rise (end {n = n} {m = m} {ms = ms} {w = w} c) p (suc d) i b h =
    let odd : (1 + 2 * w) % 2 ≡ 1 = omega arith in
    let half : (1 + 2 * w) / 2 ≡ w = omega arith in
    let e : m + suc n ≡ suc m + n = omega arith in
    rw e (ends-rise c p d i (rw (odd, half) at b) h)

run-rise : (lo hi i : ℕ) (ms : List ℕ) → Run lo hi ms → suc i < length ms → get_or ms i 0 ≤ get_or ms (suc i) 0
run-rise lo hi i [] r h = absurd (omega arith)
run-rise lo hi zero (m ∷ []) r h = absurd (omega arith)
run-rise lo hi zero (m ∷ x ∷ ms) r h = r.2.0
run-rise lo hi (suc i) (m ∷ ms) r h = run-rise m hi i ms r.2 (omega arith)

module _ (L : Layout) (crumbs : Bool) (w : ℕ) (small : w < 2 ^ bits_of L crumbs) (full : ones w ≡ L.minis) where
  pub slots-rise : (d i : ℕ) → ends_in d w / 2 ^ i % 2 ≡ 1 → suc i < zeros_of L crumbs
      → get_or (slot_minis L crumbs w) i 0 < get_or (slot_minis L crumbs w) (suc i) 0
  unfolding slot_minis
  slots-rise d i b h =
      let c = coded-minis_in (bits_of L crumbs) L.minis w small full in
      let p : ℕ = zeros_of L crumbs - length (minis_of L crumbs w) in
      rw (zero-add L.minis) at (ends-rise c.0 p d i b (omega (arith, c.1)))

  inside : (i : ℕ) → i < slots_of L crumbs → i < length (slot_minis L crumbs w)
  inside i h = rw (length-slot_minis L crumbs w small full) (omega (arith, bits-room L crumbs))

  -- no slot is over an earlier mini-bucket than the one before it, and none is over one past the end
  pub mini-flat : (i : ℕ) → suc i < slots_of L crumbs → get_or (slot_minis L crumbs w) i 0 ≤ get_or (slot_minis L crumbs w) (suc i) 0
  mini-flat i h = run-rise 0 (suc L.minis) i (slot_minis L crumbs w) (slot_minis-run L crumbs w small full) (inside (suc i) h)

  pub mini-last : (i : ℕ) → i < slots_of L crumbs → get_or (slot_minis L crumbs w) i 0 ≤ L.minis
  mini-last i h =
      let r = run_at 0 (suc L.minis) i (slot_minis L crumbs w) (slot_minis-run L crumbs w small full) (inside i h) in
      omega (arith, r.1)

  -- a slot in use is over a mini-bucket
  pub mini-used : (i : ℕ) → i < length (minis_of L crumbs w) → get_or (slot_minis L crumbs w) i 0 < L.minis
  mini-used i h =
      rw (slot_minis-used L crumbs w small full i h)
      (run_at 0 L.minis i (minis_of L crumbs w) (minis_in-run (bits_of L crumbs) L.minis w small full) h).1

-- ---- in order, slot by slot

ascending-pairs : (ks : List ℕ) (e : ℕ) → ((i : ℕ) → suc i < length ks → get_or ks i 0 ≤ get_or ks (suc i) 0)
    → ((i : ℕ) → suc i ≡ length ks → get_or ks i 0 ≤ e) → ascending (ks ++ (e ∷ [])) ≡ true
unfolding ascending at_least
ascending-pairs [] e p l = refl
ascending-pairs (x ∷ []) e p l = rw (le-leb x e (l 0 refl))
ascending-pairs (x ∷ y ∷ ks) e p l =
    rw (le-leb x y (p 0 (omega arith)))
    (ascending-pairs (y ∷ ks) e (λ i h. p (suc i) (omega arith)) (λ i h. l (suc i) (omega arith)))

module _ (L : Layout) (fits : Fits64 L) (b : List ℕ) (long : length b ≡ 64) (crumbs : Bool) (w : ℕ) (small : w < 2 ^ bits_of L crumbs)
    (full : ones w ≡ L.minis) where
  abbrev mini : ℕ → ℕ
  mini i = get_or (slot_minis L crumbs w) i 0

  abbrev tag : ℕ → ℕ
  tag i = tag_at L crumbs b i

  abbrev whole : ℕ → ℕ
  whole i = member_of crumbs (mini i * tags L + tag i) (get_or (slot_crumbs L crumbs b) i 0)

  pub members-order : ((i : ℕ) → suc i < slots_of L crumbs → whole i ≤ whole (suc i))
      → ((i : ℕ) → suc i ≡ slots_of L crumbs → whole i ≤ end_of L crumbs) → in_order L crumbs w b ≡ true
  unfolding in_order
  members-order pairs last =
      let many = length-slot_members L fits b long crumbs w small full in
      let at : (i : ℕ) → i < slots_of L crumbs → get_or (slot_members L crumbs w b) i 0 ≡ whole i = slot_members-at L fits b long crumbs w small full in
      ascending-pairs (slot_members L crumbs w b) (end_of L crumbs)
      (λ i h. let k : suc i < slots_of L crumbs = rw many at h in rw (at i (omega arith), at (suc i) k) (pairs i k))
      (λ i h. let k : suc i ≡ slots_of L crumbs = h ∙ many in rw (at i (omega arith)) (last i k))

  module _ (range : (i : ℕ) → i < slots_of L crumbs → tag_at L crumbs b i < tags L) where
    pub key-flat : (i : ℕ) → suc i < slots_of L crumbs → (tag (suc i) < tag i → mini i < mini (suc i))
        → mini i * tags L + tag i ≤ mini (suc i) * tags L + tag (suc i)
    key-flat i h rise = by_contra (mini i * tags L + tag i) (mini (suc i) * tags L + tag (suc i)) (λ o.
        let up : mini i < mini (suc i) = rise (omega (arith, mul-le-mul_right (tags L) (mini-flat L crumbs w small full i h))) in
        omega (arith, mul-le-mul_right (tags L) up, range i (omega arith)))

    pub key-rises : (i : ℕ) → suc i < slots_of L crumbs → (tag (suc i) ≤ tag i → mini i < mini (suc i))
        → mini i * tags L + tag i < mini (suc i) * tags L + tag (suc i)
    key-rises i h rise = by_contra (suc (mini i * tags L + tag i)) (mini (suc i) * tags L + tag (suc i)) (λ o.
        let up : mini i < mini (suc i) = rise (omega (arith, mul-le-mul_right (tags L) (mini-flat L crumbs w small full i h))) in
        omega (arith, mul-le-mul_right (tags L) up, range i (omega arith)))

module _ (L : Layout) (fits : Fits64 L) (b : List ℕ) (long : length b ≡ 64) (w : ℕ) (small : w < 2 ^ bits_of L false) (full : ones w ≡ L.minis)
    (range : (i : ℕ) → i < L.front_slots → tag_at L false b i < tags L) where
  -- tags that fall do so at the end of a mini-bucket alone, and the last slot is not above the end
  pub quick-order : ((i : ℕ) → suc i < L.front_slots → tag_at L false b (suc i) < tag_at L false b i
      → get_or (slot_minis L false w) i 0 < get_or (slot_minis L false w) (suc i) 0)
      → ((i : ℕ) → suc i ≡ L.front_slots → get_or (slot_minis L false w) i 0 * tags L + tag_at L false b i ≤ end_of L false) → in_order L false w b ≡ true
  quick-order rise last = members-order L fits b long false w small full (λ i h. key-flat L fits b long false w small full range i h (rise i h)) last

-- ---- where tags fall

module _ (L : Layout) (b : List ℕ) (i : ℕ) where
  pub falls-here : tag_at L false b (suc i) < tag_at L false b i → fall_at L b i ≡ 1
  unfolding fall_at
  falls-here h = rw (lt-ltb (tag_at L false b (suc i)) (tag_at L false b i) h)

  pub falls-not : tag_at L false b i ≤ tag_at L false b (suc i) → fall_at L b i ≡ 1 → ⊥
  unfolding fall_at
  falls-not h e = omega (arith, rw (le-ltb (tag_at L false b (suc i)) (tag_at L false b i) h) at e)

-- ---- layout 1: what the code tests

-- a number whose leading one is its bit k
leading-one : (z k e : ℕ) → e < 2 ^ z → (2 ^ z + e) / 2 ^ k ≡ 1 → z ≡ k
leading-one zero zero e l h = refl
leading-one (suc z) zero e l h = absurd (omega (arith, div-one (2 ^ suc z + e), pow-succ' 2 z, pow_pos z))
leading-one zero (suc k) e l h =
    let one : (1 + e) / 2 ≡ 0 = omega arith in
    absurd (omega (arith, rw (shr-suc k (1 + e), one) at h, zero-div (2 ^ k)))
leading-one (suc z) (suc k) e l h =
    let half : (2 ^ suc z + e) / 2 ≡ 2 ^ z + e / 2 = omega (arith, pow-succ' 2 z) in
    ap suc (leading-one z k (e / 2) (omega (arith, pow-succ' 2 z)) (rw (shr-suc k (2 ^ suc z + e), half) at h))

pub double-bit : (x i : ℕ) → 2 * x / 2 ^ suc i ≡ x / 2 ^ i
double-bit x i = let half : 2 * x / 2 ≡ x = omega arith in shr-suc i (2 * x) ∙ rw half

ones-one : (x : ℕ) → ones_in 1 x ≡ x % 2
unfolding ones_in
ones-one x = omega arith

-- 28 zeros, the last place's among them, leave 36 ones
ones-all : (w : ℕ) → w < 2 ^ 64 → zeros_in 63 w ≡ 27 + w / 2 ^ 63 → ones w ≡ layout1.minis
ones-all w small e =
    let all : ones w ≡ ones_in 64 w = let e : w % 2 ^ 64 ≡ w = omega arith in rw e at (ones_low 64 w) in
    all ∙ ones_split 63 1 w ∙ rw (ones-one (w / 2 ^ 63)) (omega (arith, zeros-ones 63 w))

module _ (w bits : ℕ) (small : w < 2 ^ 64) (borders : bits ≡ borders_in 63 w) (leads : bits / 2 ^ (27 + w / 2 ^ 63) ≡ 1) where
  zeros-are : zeros_in 63 w ≡ 27 + w / 2 ^ 63
  zeros-are = leading-one (zeros_in 63 w) (27 + w / 2 ^ 63) (ends_in 63 w) (ends-lt 63 w) (rw borders at leads)

  pub full-word : ones w ≡ layout1.minis
  full-word = ones-all w small zeros-are

  pub bits-lt : bits < 2 ^ 29
  bits-lt = omega (arith, borders, ends-lt 63 w, pow_mono {i = zeros_in 63 w} {j = 28} (omega (arith, zeros-are)))

  -- a bit of a slot says that the zero stands right below a one
  pub border-ends : (i : ℕ) → i < 27 → bits / 2 ^ i % 2 ≡ 1 → ends_in 63 w / 2 ^ i % 2 ≡ 1
  border-ends i h there = sym (bit_below (ends_in 63 w) (zeros_in 63 w) i (omega (arith, zeros-are))) ∙ rw borders at there

module _ (b : List ℕ) (long : length b ≡ 64) (bytes : Below 256 b) where
  pub range1 : (i : ℕ) → i < layout1.front_slots → tag_at layout1 false b i < tags layout1
  range1 i h =
      rw (tag_in layout1 false b i h) at
      (below_at (tags layout1) i (tags_of layout1 false b) (below-tags_in layout1 layout1.front_slots b bytes (omega (arith, long)))
      (rw (length-tags_in layout1 layout1.front_slots b) h))

module _ (b : List ℕ) (long : length b ≡ 64) (bytes : Below 256 b) (w bits : ℕ) (small : w < 2 ^ 64)
    (borders : bits ≡ borders_in 63 w) (leads : bits / 2 ^ (27 + w / 2 ^ 63) ≡ 1) where
  full : ones w ≡ layout1.minis
  full = full-word w bits small borders leads

  rises : (marks : ℕ) → marks ≡ 2 * marks_of (fall_at layout1 b) 1 0 27 → bit_and marks (2 ^ 32 - 1 - 2 * bits) ≡ 0
      → (i : ℕ) → suc i < layout1.front_slots → tag_at layout1 false b (suc i) < tag_at layout1 false b i
      → get_or (slot_minis layout1 false w) i 0 < get_or (slot_minis layout1 false w) (suc i) 0
  rises marks e none i h falls =
      let f = fall_at layout1 b in
      let set : marks / 2 ^ suc i % 2 ≡ 1 = rw (e, double-bit (marks_of f 1 0 27) i) (mark_set f 1 0 27 i (omega arith) (rw (zero-add i) (falls-here layout1 b i falls))) in
      let there : bits / 2 ^ i % 2 ≡ 1 =
      rw (double-bit bits i) at (covered 32 marks (2 * bits) (suc i) (omega (arith, marks-lt f 1 0 27))
      (omega (arith, bits-lt w bits small borders leads)) none set) in
      slots-rise layout1 false w small full 63 i (border-ends w bits small borders leads i (omega arith) there) (omega arith)

  -- the last slot is past the members and 0, or all slots are in use
  last-used : w / 2 ^ 63 ≡ 1 → (i : ℕ) → i < layout1.front_slots → get_or (slot_minis layout1 false w) i 0 < layout1.minis
  last-used t i h =
      let c = coded-minis_in 64 layout1.minis w small full in
      let n : ℕ = length (minis_of layout1 false w) in
      let many : 28 ≤ n = by_contra 28 n (λ l. omega (arith, coded-lt c.0, pow_mono {i = 36 + n} {j = 63} (omega arith))) in
      mini-used layout1 false w small full i (omega arith)

  -- what the quick test finds
  pub passed : (marks : ℕ) → marks ≡ 2 * marks_of (fall_at layout1 b) 1 0 27 → bit_and marks (2 ^ 32 - 1 - 2 * bits) ≡ 0
      → (w / 2 ^ 63 ≡ 1) ⊎ (tag_at layout1 false b 27 ≡ 0) → Ordered layout1 false w b
  passed marks e none last = record {
    full = full;
    order = quick-order layout1 fits1 b long w small full (range1 b long bytes) (rises marks e none) (λ i h.
        let k : i ≡ 27 = omega arith in
        ⊎_elim
        (λ t. omega (arith, mul-le-mul_right (tags layout1) (last-used t i (omega arith)), range1 b long bytes i (omega arith)))
        (λ z. omega (arith, mul-le-mul_right (tags layout1) (mini-last layout1 false w small full i (omega arith)), ap (tag_at layout1 false b) k, z))
        last);
  }
