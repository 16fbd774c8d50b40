-- Select over a word by its bytes (`select-hit`, `select-pass`, `select-low`, `ones_low`), and what it finds in a bucket's word:
-- the end of a mini-bucket (`select-coded`), and by the zeros from a slot's place what is left of its mini-bucket (`trailing-coded`).
-- The rule of the select table is `listed-entry`.
use mathlib.Core.Path.{◌≡◌, refl, sym, ap, ◌∙◌}
use Prim.Native.Nat.{ℕ, zero, suc, ◌+◌, ◌-◌, ◌*◌, ◌/◌, ◌%◌, ◌^◌, ◌≤◌, ◌<◌}
use mathlib.Core.List.{List}
use native.Mathlib.Nat.{zero-add, add-zero, add-suc, suc-add, sub-zero}
use native.Mathlib.Numerals.{add-one}
use native.Mathlib.Omega.{arith}
use lib.ListN.{length, get_or}
use lib.Pow.{field, mod-mod-pow}
use lib.Count.{ones, ones_in, count_trailing_zeros, ones_step, ones-le}
use Rattle.multiset.specs.Multisets.{below}
use Rattle.buckets.specs.Words.{minis_in}
use Rattle.words.specs.Select.{above, select_in, listed, select_byte, select_table}
use Rattle.multiset.proofs.RankLaws.{below-smaller, below-le-length}
use Rattle.buckets.proofs.WordLaws.{Coded, done, member, end, coded-run, below-run, coded-minis_in, minis_in-run}
use Rattle.buckets.proofs.BitLaws.{shr-suc, slot-up, slot-first, past_end}

-- ---- a rank among the k lowest bits, and one above them

above_hit : (b r n : ℕ) (f g : ℕ → ℕ) → b < 2 → r < b + n → ((s : ℕ) → s < n → f s ≡ g s) → above b r f ≡ above b r g
above_hit zero r n f g l h e = ap suc (e r (omega arith))
above_hit (suc b) zero n f g l h e = refl
above_hit (suc b) (suc r) n f g l h e = ap suc (e r (omega arith))

above-le : (b r d : ℕ) (f : ℕ → ℕ) → ((s : ℕ) → f s ≤ d) → above b r f ≤ suc d
above-le zero r d f h = omega (arith, h r)
above-le (suc b) zero d f h = omega arith
above-le (suc b) (suc r) d f h = omega (arith, h r)

above-pass : (b r k n : ℕ) (f g : ℕ → ℕ) → b < 2 → b + n ≤ r → ((s : ℕ) → n ≤ s → f s ≡ k + g (s - n))
    → above b r f ≡ suc k + g (r - (b + n))
above-pass zero r k n f g l h e = rw (zero-add n, suc-add k) (ap suc (e r (omega arith)))
above-pass (suc b) zero k n f g l h e = absurd (omega arith)
above-pass (suc b) (suc r) k n f g l h e =
    let d : suc r - (suc b + n) ≡ r - n = omega arith in
    rw (d, suc-add k) (ap suc (e r (omega arith)))

pub select-hit : (k d w r : ℕ) → r < ones_in k w → select_in (k + d) w r ≡ select_in k w r
unfolding select_in ones_in
select-hit zero d w r h = absurd (omega arith)
select-hit (suc k) d w r h =
    rw (suc-add k d) (above_hit (w % 2) r (ones_in k (w / 2)) _ _ (omega arith) h (λ s. select-hit k d (w / 2) s))

pub select-pass : (k d w r : ℕ) → ones_in k w ≤ r → select_in (k + d) w r ≡ k + select_in d (w / 2 ^ k) (r - ones_in k w)
unfolding select_in ones_in
select-pass zero d w r h = let e : w / 1 ≡ w = omega arith in simp (zero-add, sub-zero, e)
select-pass (suc k) d w r h =
    rw (suc-add k d, shr-suc k w)
    (above-pass (w % 2) r k (ones_in k (w / 2)) (select_in (k + d) (w / 2)) (select_in d (w / 2 / 2 ^ k)) (omega arith) h
    (λ s. select-pass k d (w / 2) s))

pub half-low : (k w : ℕ) → w % 2 ^ suc k / 2 ≡ w / 2 % 2 ^ k
half-low k w = rw (← add-one k) (field w k 1)

pub odd_low : (k w : ℕ) → w % 2 ^ suc k % 2 ≡ w % 2
odd_low k w = rw (← add-one k) (mod-mod-pow w k 1)

-- the k lowest bits are those of w % 2 ^ k
pub select-low : (k w r : ℕ) → select_in k (w % 2 ^ k) r ≡ select_in k w r
unfolding select_in
select-low zero w r = refl
select-low (suc k) w r =
    rw (half-low k w, odd_low k w) (above_hit (w % 2) r (suc r) _ _ (omega arith) (omega arith) (λ s l. select-low k (w / 2) s))

-- k bits have at most k ones
pub ones-few : (k w : ℕ) → ones_in k w ≤ k
unfolding ones_in
ones-few zero w = omega arith
ones-few (suc k) w = omega (arith, ones-few k (w / 2))

pub ones_low : (k w : ℕ) → ones (w % 2 ^ k) ≡ ones_in k w
unfolding ones ones_in
ones_low zero w = let e : w % 1 ≡ 0 = omega arith in rw e
ones_low (suc k) w = ones_step (w % 2 ^ suc k) ∙ rw (half-low k w, odd_low k w, ones_low k (w / 2))

-- a byte has at most 8 ones
pub ones-byte : (w : ℕ) → ones (w % 256) ≤ 8
ones-byte w = ones-le 8 (w % 256) (omega arith)

-- the byte at a place that is a multiple of 8: the rank stands in it
pub select-byte-hit : (place w r : ℕ) → place < 64 → place % 8 ≡ 0 → r < ones (w % 256) → select_in (64 - place) w r ≡ select_in 8 (w % 256) r
select-byte-hit place w r l z h =
    let d : 64 - place ≡ 8 + (56 - place) = omega arith in
    rw d (select-hit 8 (56 - place) w r (rw (ones_low 8 w) at h) ∙ sym (select-low 8 w r))

pub select-le : (d w r : ℕ) → select_in d w r ≤ d
unfolding select_in
select-le zero w r = omega arith
select-le (suc d) w r = above-le (w % 2) r d (select_in d (w / 2)) (λ s. select-le d (w / 2) s)

-- ---- a table as a list that is computed

pub listed_at : (f : ℕ → ℕ) (from n k : ℕ) → k < n → get_or (listed f from n) k 0 ≡ f (from + k)
listed_at f from zero k h = absurd (omega arith)
listed_at f from (suc n) zero h = rw (add-zero from)
listed_at f from (suc n) (suc k) h = rw (add-suc from k) (rw (suc-add from k) at (listed_at f (suc from) n k (omega arith)))

length-listed : (f : ℕ → ℕ) (from n : ℕ) → length (listed f from n) ≡ n
length-listed f from zero = refl
length-listed f from (suc n) = ap suc (length-listed f (suc from) n)

pub length-table : length select_table ≡ 2048
unfolding select_table
length-table = length-listed (λ (i : ℕ). select_byte (i / 8) (i % 8)) 0 2048

-- the entry of a byte value and a rank
pub listed-entry : (byte rank : ℕ) → byte < 256 → rank < 8 → get_or select_table (8 * byte + rank) 0 ≡ select_byte byte rank
unfolding select_table
listed-entry byte rank h l =
    let i = 8 * byte + rank in
    let b : i / 8 ≡ byte = omega arith in
    let r : i % 8 ≡ rank = omega arith in
    listed_at (λ (k : ℕ). select_byte (k / 8) (k % 8)) 0 2048 i (omega arith) ∙ rw (zero-add i, b, r)

-- ---- in a bucket's word

-- the one bit of rank r ends mini-bucket x, the r-th from the one at hand: it stands behind all members up to x, and r ends
pub select-coded : {n m : ℕ} {ms : List ℕ} {w : ℕ} (bits x r : ℕ) → Coded n m ms w → r < n → r + m ≡ x → n + length ms ≤ bits
    → select_in bits w r ≡ r + below (suc x) ms
unfolding select_in
select-coded bits x r done h e f = absurd (omega arith)
select-coded zero x r (member c) h e f = absurd (omega arith)
select-coded zero x r (end c) h e f = absurd (omega arith)
select-coded (suc bits) x r (member {m = m} {ms = ms} {w = w} c) h e f =
    let a : 2 * w % 2 ≡ 0 = omega arith in
    let b : 2 * w / 2 ≡ w = omega arith in
    rw (a, b, below-smaller (suc x) m ms (omega arith)) (omega (arith, select-coded bits x r c h e (omega arith)))
select-coded (suc bits) x zero (end {n = n} {m = m} {ms = ms} {w = w} c) h e f =
    let a : (1 + 2 * w) % 2 ≡ 1 = omega arith in
    rw a (omega (arith, below-run (suc x) (suc m) (suc m + n) ms (omega arith) (coded-run c)))
select-coded (suc bits) x (suc r) (end {w = w} c) h e f =
    let a : (1 + 2 * w) % 2 ≡ 1 = omega arith in
    let b : (1 + 2 * w) / 2 ≡ w = omega arith in
    rw (a, b) (omega (arith, select-coded bits x r c (omega arith) (omega arith) (omega arith)))

-- a zero behind j ones is a slot of the j-th mini-bucket from the one at hand
pub slot-coded : {n m : ℕ} {ms : List ℕ} {w : ℕ} (j s : ℕ) → Coded n m ms w → j < n → ones_in (j + s) w ≡ j → w / 2 ^ (j + s) % 2 ≡ 0
    → (s < length ms) × (get_or ms s 0 ≡ m + j)
unfolding ones_in
slot-coded j s done h e z = absurd (omega arith)
slot-coded zero zero (member c) h e z = (omega arith, omega arith)
slot-coded (suc j) zero (member {w = w} c) h e z =
    let b : 2 * w / 2 ≡ w = omega arith in
    absurd (omega (arith, rw (add-zero (suc j), b) at e, ones-few j w))
slot-coded j (suc s) (member {w = w} c) h e z =
    let a : 2 * w % 2 ≡ 0 = omega arith in
    let b : 2 * w / 2 ≡ w = omega arith in
    let p = slot-coded j s c h (omega (arith, rw (add-suc j s, a, b) at e)) (rw (add-suc j s, shr-suc, b) at z) in
    (omega (arith, p.0), p.1)
slot-coded zero zero (end {w = w} c) h e z = absurd (omega arith)
slot-coded zero (suc s) (end {w = w} c) h e z = let a : (1 + 2 * w) % 2 ≡ 1 = omega arith in absurd (omega (arith, rw (zero-add (suc s), a) at e))
slot-coded (suc j) s (end {m = m} {w = w} c) h e z =
    let a : (1 + 2 * w) % 2 ≡ 1 = omega arith in
    let b : (1 + 2 * w) / 2 ≡ w = omega arith in
    let p = slot-coded j s c (omega arith) (omega (arith, rw (suc-add j s, a, b) at e)) (rw (suc-add j s, shr-suc, b) at z) in
    (p.0, omega (arith, p.1))

-- from bit x + p, slot p of mini-bucket x or the end behind its slots, a zero for each member from there on
pub trailing-coded : {n m : ℕ} {ms : List ℕ} {w : ℕ} (bits x p pos : ℕ) → Coded n m ms w → m ≤ x → x < m + n → pos + m ≡ x + p
    → below x ms ≤ p → p ≤ below (suc x) ms → n + length ms ≤ bits → p + count_trailing_zeros bits (w / 2 ^ pos) ≡ below (suc x) ms
unfolding count_trailing_zeros
trailing-coded bits x p pos done g h e l u f = absurd (omega arith)
trailing-coded zero x p zero (member c) g h e l u f = absurd (omega arith)
trailing-coded (suc bits) x p zero (member {n = n} {m = m} {ms = ms} {w = w} c) g h e l u f =
    let z = below-run x m (m + suc n) ms (omega arith) (coded-run c) in
    let a : 2 * w / 1 % 2 ≡ 0 = omega arith in
    let b : 2 * w / 1 / 2 ≡ w / 1 = omega arith in
    let s = below-smaller (suc x) m ms (omega arith) in
    rw (a, b) (omega (arith, trailing-coded bits x p 0 c g h e (omega arith) (omega arith) (omega arith)))
trailing-coded bits x zero (suc pos) (member {m = m} {ms = ms} c) g h e l u f = absurd (omega (arith, slot-first m x ms g l))
trailing-coded bits x (suc p) (suc pos) (member {n = n} {m = m} {ms = ms} {w = w} c) g h e l u f =
    let b : 2 * w / 2 ≡ w = omega arith in
    let s = below-smaller (suc x) m ms (omega arith) in
    let t = slot-up m x p (m + suc n) ms (coded-run c) g l in
    rw (shr-suc pos (2 * w), b) (omega (arith, trailing-coded bits x p pos c g h (omega arith) t (omega arith) (omega arith)))
trailing-coded zero x p zero (end c) g h e l u f = absurd (omega arith)
trailing-coded (suc bits) x p zero (end {n = n} {m = m} {ms = ms} {w = w} c) g h e l u f =
    let a : (1 + 2 * w) / 1 % 2 ≡ 1 = omega arith in
    rw a (omega (arith, below-run (suc x) (suc m) (suc m + n) ms (omega arith) (coded-run c)))
trailing-coded bits x p (suc pos) (end {n = n} {m = m} {ms = ms} {w = w} c) g h e l u f =
    let k : suc m ≤ x = past_end n m x p pos ms (coded-run c) g e u in
    let b : (1 + 2 * w) / 2 ≡ w = omega arith in
    rw (shr-suc pos (1 + 2 * w), b) (trailing-coded bits x p pos c k (omega arith) (omega arith) l u (omega arith))

-- mini-bucket m's end in a whole word
pub select-ends : {n : ℕ} {ms : List ℕ} {w : ℕ} (bits m : ℕ) → Coded n 0 ms w → m < n → n + length ms ≤ bits
    → select_in bits w m ≡ m + below (suc m) ms
select-ends bits m c h f = select-coded bits m m c h (omega arith) f

-- ---- the slots of mini-bucket m

module _ (bits minis w m : ℕ) (l : w < 2 ^ bits) (h : ones w ≡ minis) (k : m < minis) where
  pub first-minis_in : m ≡ 0 → 0 ≡ m + below m (minis_in bits minis w)
  first-minis_in z = omega (arith, below-run m 0 minis (minis_in bits minis w) (omega arith) (minis_in-run bits minis w l h))

  pub start-minis_in : 0 < m → select_in bits w (m - 1) + 1 ≡ m + below m (minis_in bits minis w)
  start-minis_in p =
      let c = coded-minis_in bits minis w l h in
      let e : suc (m - 1) ≡ m = omega arith in
      omega (arith, rw e at (select-ends bits (m - 1) c.0 (omega arith) c.1))

  -- a slot's place is one of the bits
  pub place-minis_in : (slot : ℕ) → slot ≤ below (suc m) (minis_in bits minis w) → m + slot < bits
  place-minis_in slot u = let c = coded-minis_in bits minis w l h in omega (arith, below-le-length (suc m) (minis_in bits minis w))

  -- the zeros from a slot's place are those of the mini-bucket's slots from there on
  pub rest-minis_in : (slot : ℕ) → below m (minis_in bits minis w) ≤ slot → slot ≤ below (suc m) (minis_in bits minis w)
      → slot + count_trailing_zeros bits (w / 2 ^ (m + slot)) ≡ below (suc m) (minis_in bits minis w)
  rest-minis_in slot g u =
      let c = coded-minis_in bits minis w l h in
      trailing-coded bits m slot (m + slot) c.0 (omega arith) (omega arith) (omega arith) g u c.1

pub slot-minis_in : (bits minis w mini slot : ℕ) → w < 2 ^ bits → ones w ≡ minis → mini < minis → ones_in (mini + slot) w ≡ mini
    → w / 2 ^ (mini + slot) % 2 ≡ 0 → (slot < length (minis_in bits minis w)) × (get_or (minis_in bits minis w) slot 0 ≡ mini)
slot-minis_in bits minis w mini slot small full l e z =
    let p = slot-coded mini slot (coded-minis_in bits minis w small full).0 l e z in
    (p.0, p.1 ∙ zero-add mini)
