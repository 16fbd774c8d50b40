-- Why the quick test of a backyard bucket suffices, at any layout: where tags rise but at the end of a mini-bucket, and what is past the members is 0,
-- the slots are in order whatever the members' crumbs. Main results: `rising-order`, `crumbs-zero`. The last section is of layout 1.
use mathlib.Core.Path.{◌≡◌, refl, sym, ◌∙◌}
use Prim.Native.Nat.{ℕ, zero, suc, ◌+◌, ◌*◌, ◌-◌, ◌/◌, ◌%◌, ◌^◌, ◌≤◌, ◌<◌, max}
use mathlib.Core.Bool.{true}
use mathlib.Core.Logic.{◌⊎◌, inl, inr, ⊎_elim}
use mathlib.Core.List.{List, [], ◌∷◌}
use native.Mathlib.Nat.{le_refl, zero-add, pow-succ', mul-le-mul_right, div-div-eq-div-mul, div-one, div-eq_of_lt}
use native.Mathlib.Decide.{dec_le}
use native.Mathlib.Omega.{arith, by_contra}
use lib.ListN.{length, take, drop, get_or, length-drop}
use lib.Seq.{take_all, drop-nil, drop-drop}
use lib.Pow.{pow-add, pow_mono, field, mod-mod-pow}
use lib.Count.{ones}
use lib.Bits.{bit_or, or_step, or_shr}
use lib.Dec.{eqb}
use borrow.Author.Tests.{eqb-true, lt-ltb, le-ltb}
use Rattle.multiset.specs.Multisets.{all_zero, Below}
use Rattle.multiset.specs.Digits.{digits, value, spread}
use Rattle.crumbmap.specs.Layouts.{Layout, layout1, tags}
use Rattle.buckets.specs.Buckets.{Fits64, crumbs_in}
use Rattle.minifilter.specs.Steps.Slots.{bits_of, tag_at, crumb_at, minis_of, slot_minis, in_order, BackOrdered}
use Rattle.minifilter.specs.Steps.Marks.{marks_of, rise_at, Rising}
use Rattle.borders.specs.Steps.Borders.{borders_in}
use Rattle.multiset.proofs.MultisetLaws.{below-take, below-drop}
use Rattle.crumbmap.proofs.TestLaws.{both_true}
use Rattle.crumbmap.proofs.MarkLaws.{ones_in}
use Rattle.buckets.proofs.BitLaws.{shr-suc}
use Rattle.buckets.proofs.PieceLaws.{all_zero-split, spread-take, spread-drop}
use Rattle.buckets.proofs.BucketLaws.{fits1}
use Rattle.minifilter.proofs.HeldLaws.{crumb-lt}
use Rattle.minifilter.proofs.MarkLaws.{mark_set, mark-told}
use Rattle.minifilter.proofs.QuickLaws.{double-bit, mini-flat, mini-last, mini-used, members-order, key-rises, slots-rise, full-word, border-ends, range1}

-- ---- bits of a number

-- a bit of the lowest k bits, and a bit of what either has
mod-bit : (x k i : ℕ) → i < k → x % 2 ^ k / 2 ^ i % 2 ≡ x / 2 ^ i % 2
mod-bit x k i h =
    let j : ℕ = k - suc i in
    let e : k ≡ j + 1 + i = omega arith in
    rw (e, field x (j + 1) i) (mod-mod-pow (x / 2 ^ i) j 1)

or-bit : (x y i : ℕ) → bit_or x y / 2 ^ i % 2 ≡ max (x / 2 ^ i % 2) (y / 2 ^ i % 2)
or-bit x y i = rw (or_shr x y i) (omega (arith, or_step (x / 2 ^ i) (y / 2 ^ i)))

-- 2 ^ (k + 1) − 2 has the bits from 1 to k alone
bits_up : (k x i : ℕ) → x + 2 ≡ 2 ^ suc k → i < k → x / 2 ^ suc i % 2 ≡ 1
bits_up k x i e h = let z : x / 2 ≡ 2 ^ k - 1 = omega (arith, e, pow-succ' 2 k) in rw (shr-suc i x, z) (ones_in k i h)

bits-past : (k x i : ℕ) → x + 2 ≡ 2 ^ suc k → k ≤ i → x / 2 ^ suc i ≡ 0
bits-past k x i e h = div-eq_of_lt (omega (arith, e, pow_mono {i = suc k} {j = suc i} (omega arith)))

-- ---- zeros of a list

-- past n all are 0
zero-at : (n i : ℕ) (cs : List ℕ) → all_zero (drop n cs) ≡ true → n ≤ i → get_or cs i 0 ≡ 0
unfolding all_zero
zero-at n i [] e l = refl
zero-at zero zero (c ∷ cs) e l = eqb-true c 0 (both_true (eqb c 0) (all_zero cs) e).0
zero-at zero (suc i) (c ∷ cs) e l = zero-at zero i cs (both_true (eqb c 0) (all_zero cs) e).1 (omega arith)
zero-at (suc n) zero (c ∷ cs) e l = absurd (omega arith)
zero-at (suc n) (suc i) (c ∷ cs) e l = zero-at n i cs e (omega arith)

-- bytes as a number that ends n halves up: the halves from n on are 0
pub crumbs-zero : (n : ℕ) (bs : List ℕ) → Below 256 bs → value 256 bs / 2 ^ (4 * n) ≡ 0 → all_zero (drop n (spread 16 2 bs)) ≡ true
unfolding value all_zero spread digits
crumbs-zero n [] s e = rw (drop-nil {A = ℕ} n)
crumbs-zero zero (v ∷ bs) s e =
    let w : ℕ = value 256 bs in
    let z : v + 256 * w ≡ 0 = omega (arith, e, div-one (v + 256 * w)) in
    let none : v ≡ 0 = omega arith in
    let rest : w / 2 ^ (4 * 0) ≡ 0 = omega (arith, div-one w) in
    rw none (crumbs-zero zero bs s.1 rest)
crumbs-zero (suc zero) (v ∷ bs) s e =
    let w : ℕ = value 256 bs in
    let none : v / 16 % 16 ≡ 0 = omega arith in
    let rest : w / 2 ^ (4 * 0) ≡ 0 = omega (arith, div-one w) in
    rw none (crumbs-zero zero bs s.1 rest)
crumbs-zero (suc (suc n)) (v ∷ bs) s e =
    let w : ℕ = value 256 bs in
    let up : 4 * suc (suc n) ≡ 8 + 4 * n = omega arith in
    let low : (v + 256 * w) / 2 ^ 8 ≡ w = omega (arith, s.0) in
    let rest : w / 2 ^ (4 * n) ≡ 0 = rw (up, pow-add 2 8 (4 * n), ← div-div-eq-div-mul (v + 256 * w) (2 ^ 8) (2 ^ (4 * n)), low) at e in
    crumbs-zero n bs s.1 rest

-- ---- in order

below_or : (i n : ℕ) → (i < n) ⊎ (n ≤ i)
below_or i n = elim (dec_le (suc i) n) [ yes h ↦ inl h | no h ↦ inr (omega arith) ]

module _ (L : Layout) (fits : Fits64 L) (b : List ℕ) (long : length b ≡ 64) (w : ℕ) (small : w < 2 ^ bits_of L true) (full : ones w ≡ L.minis)
    (range : (i : ℕ) → i < L.back_slots → tag_at L true b i < tags L) where
  abbrev mini : ℕ → ℕ
  mini i = get_or (slot_minis L true w) i 0

  abbrev tag : ℕ → ℕ
  tag i = tag_at L true b i

  abbrev crumb : ℕ → ℕ
  crumb i = crumb_at L b i

  -- the members' tags rise but at the end of a mini-bucket, and what is past them is 0
  pub rising-order : ((i : ℕ) → suc i < L.back_slots → i < length (minis_of L true w) → tag (suc i) ≤ tag i → mini i < mini (suc i))
      → ((i : ℕ) → length (minis_of L true w) ≤ i → i < L.back_slots → (tag i ≡ 0) × (crumb i ≡ 0)) → in_order L true w b ≡ true
  rising-order rise rest =
      let n : ℕ = length (minis_of L true w) in
      members-order L fits b long true w small full
      (λ i h. ⊎_elim
      (λ l. omega (arith, key-rises L fits b long true w small full range i h (rise i h l), crumb-lt L b i))
      (λ l. omega (arith, rest i l (omega arith), mul-le-mul_right (tags L) (mini-flat L true w small full i h)))
      (below_or i n))
      (λ i h. ⊎_elim
      (λ l. omega (arith, mul-le-mul_right (tags L) (mini-used L true w small full i l), range i (omega arith), crumb-lt L b i))
      (λ l. omega (arith, rest i l (omega arith), mul-le-mul_right (tags L) (mini-last L true w small full i (omega arith))))
      (below_or i n))

-- ---- where tags rise

module _ (L : Layout) (b : List ℕ) (i : ℕ) where
  pub rises-here : tag_at L true b i < tag_at L true b (suc i) → rise_at L b i ≡ 1
  unfolding rise_at
  rises-here h = rw (lt-ltb (tag_at L true b i) (tag_at L true b (suc i)) h)

  pub rises-not : tag_at L true b (suc i) ≤ tag_at L true b i → rise_at L b i ≡ 1 → ⊥
  unfolding rise_at
  rises-not h e = omega (arith, rw (le-ltb (tag_at L true b i) (tag_at L true b (suc i)) h) at e)

-- what does not rise from 0 on stays 0
stays : (tag : ℕ → ℕ) (n e : ℕ) → tag n ≡ 0 → ((i : ℕ) → n ≤ i → suc i < e → tag (suc i) ≤ tag i) → (d i : ℕ) → i ≡ n + d → i < e → tag i ≡ 0
stays tag n e z f zero i q h = let k : i ≡ n = omega arith in rw k z
stays tag n e z f (suc d) i q h =
    let j : ℕ = n + d in
    let k : i ≡ suc j = omega arith in
    rw k (omega (arith, stays tag n e z f d j refl (omega arith), f j (omega arith) (omega arith)))

-- ---- layout 1: what the code tests

-- the first k slots are marked as rising or have their bit, the others have neither
module _ (b : List ℕ) (bits marks k : ℕ) (told : marks ≡ 2 * marks_of (rise_at layout1 b) 1 0 21)
    (seen : bit_or marks (2 * bits) % 2 ^ 22 + 2 ≡ 2 ^ suc k) where
  abbrev x : ℕ
  x = bit_or marks (2 * bits) % 2 ^ 22

  bit-here : (i : ℕ) → suc i < 22 → x / 2 ^ suc i % 2 ≡ max (marks / 2 ^ suc i % 2) (bits / 2 ^ i % 2)
  bit-here i h = mod-bit (bit_or marks (2 * bits)) 22 (suc i) h ∙ or-bit marks (2 * bits) (suc i) ∙ rw (double-bit bits i)

  -- the mark of a slot
  mark-here : (i : ℕ) → marks / 2 ^ suc i % 2 ≡ marks_of (rise_at layout1 b) 1 0 21 / 2 ^ i % 2
  mark-here i = rw (told, double-bit (marks_of (rise_at layout1 b) 1 0 21) i)

  rise-told : (i : ℕ) → suc i < 22 → i < k → tag_at layout1 true b (suc i) ≤ tag_at layout1 true b i → bits / 2 ^ i % 2 ≡ 1
  rise-told i h l s =
      let no : marks / 2 ^ suc i % 2 ≡ 1 → ⊥ = λ m.
      rises-not layout1 b i s (rw (zero-add i) at (mark-told (rise_at layout1 b) 1 0 21 i (omega arith) (sym (mark-here i) ∙ m))) in
      omega (arith, bits_up k x i seen l, bit-here i h, no)

  rest-told : (i : ℕ) → k ≤ i → suc i < 22 → tag_at layout1 true b (suc i) ≤ tag_at layout1 true b i
  rest-told i l h = by_contra (tag_at layout1 true b (suc i)) (tag_at layout1 true b i) (λ o.
      let set : marks / 2 ^ suc i % 2 ≡ 1 =
      mark-here i ∙ mark_set (rise_at layout1 b) 1 0 21 i (omega arith) (rw (zero-add i) (rises-here layout1 b i o)) in
      omega (arith, bits-past k x i seen l, bit-here i h, set))

  -- all slots are in use
  pub rising-full : k ≡ 21 → Rising layout1 bits 22 b
  rising-full all = record {
    rise = λ i h l s. rise-told i h (omega arith) s;
    rest = λ i l h. absurd (omega arith);
  }

  -- some are not, the first of them is 0
  pub rising-some : k < 22 → tag_at layout1 true b k ≡ 0 → Rising layout1 bits k b
  rising-some some z = record {
    rise = λ i h l s. rise-told i h l s;
    rest = λ i l h. stays (tag_at layout1 true b) k 22 z rest-told (i - k) i (omega arith) h;
  }

-- the crumbs past n, by the words at bytes 56 and 52
module _ (b : List ℕ) (long : length b ≡ 64) (bytes : Below 256 b) where
  abbrev cs : List ℕ
  cs = crumbs_in layout1 b

  part-all : (from : ℕ) → take (length b - from) (drop from b) ≡ drop from b
  part-all from = take_all (length b - from) (drop from b) (rw (length-drop from b) (le_refl (length b - from)))

  pub high_zero : (k word : ℕ) → word ≡ value 256 (take 8 (take (length b - 56) (drop 56 b))) → word / 2 ^ (4 * k) ≡ 0 → all_zero (drop (8 + k) cs) ≡ true
  high_zero k word e z =
      let all : take 8 (drop 56 b) ≡ drop 56 b = take_all 8 (drop 56 b) (rw (length-drop 56 b) (omega arith)) in
      let none : value 256 (drop 56 b) / 2 ^ (4 * k) ≡ 0 = rw (e, part-all 56, all) at z in
      let zeros : all_zero (drop k (spread 16 2 (drop 56 b))) ≡ true = crumbs-zero k (drop 56 b) (below-drop 256 56 b bytes) none in
      let here : spread 16 2 (drop 56 b) ≡ drop 8 cs = rw (drop-drop 4 52 b) at (spread-drop 16 2 4 (drop 52 b)) in
      rw (here, drop-drop k 8 cs) at zeros

  pub low-zero : (n word : ℕ) → n ≤ 16 → all_zero (drop 16 cs) ≡ true → word ≡ value 256 (take 8 (take (length b - 52) (drop 52 b)))
      → word / 2 ^ (4 * n) ≡ 0 → all_zero (drop n cs) ≡ true
  low-zero n word h up e z =
      let none : value 256 (take 8 (drop 52 b)) / 2 ^ (4 * n) ≡ 0 = rw (e, part-all 52) at z in
      let zeros : all_zero (drop n (spread 16 2 (take 8 (drop 52 b)))) ≡ true =
      crumbs-zero n (take 8 (drop 52 b)) (below-take 256 8 (drop 52 b) (below-drop 256 52 b bytes)) none in
      let here : all_zero (drop n (take 16 cs)) ≡ true = rw (spread-take 16 2 8 (drop 52 b)) at zeros in
      all_zero-split n 16 cs h ∙ rw (here, up)

  module _ (w bits : ℕ) (small : w < 2 ^ 64) (borders : bits ≡ borders_in 63 w) (leads : bits / 2 ^ (27 + w / 2 ^ 63) ≡ 1) where
    -- what the quick test finds
    pub passed-back : (n : ℕ) → n ≡ length (minis_of layout1 true w) → n ≤ 22 → all_zero (drop n cs) ≡ true → Rising layout1 bits n b
        → BackOrdered layout1 w b
    passed-back n e room zeros r =
        let full = full-word w bits small borders leads in
        let rise : (i : ℕ) → suc i < 22 → i < length (minis_of layout1 true w) → tag_at layout1 true b (suc i) ≤ tag_at layout1 true b i
        → get_or (slot_minis layout1 true w) i 0 < get_or (slot_minis layout1 true w) (suc i) 0 = λ i h l s.
        slots-rise layout1 true w small full 63 i (border-ends w bits small borders leads i (omega arith) (r.rise i h (omega arith) s)) (omega arith) in
        let split = both_true (all_zero (drop n (take 22 cs))) (all_zero (drop 22 cs)) (sym (all_zero-split n 22 cs room) ∙ zeros) in
        record {
          slots = record {
            full = full;
            order = rising-order layout1 fits1 b long w small full (λ i h. range1 b long bytes i (omega arith)) rise
                (λ i l h. (r.rest i (omega arith) h, zero-at n i cs zeros (omega arith)));
          };
          room = rw e at room;
          unused = split.1;
        }
