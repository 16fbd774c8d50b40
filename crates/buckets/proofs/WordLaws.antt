-- The word of an ascending list of mini-buckets, for any number of mini-buckets and members: the word and its way back, its ones and
-- its length. Main results: `coded-word`, `minis-coded`, `coded-minis`, `ones-coded`, and of a bucket's word `minis-word`, `leading-minis_in`.
-- The proofs go by induction on `Coded`, which mirrors the bits.
use mathlib.Core.Path.{◌≡◌, refl, sym, ap, ◌∙◌, subst}
use mathlib.Core.Logic.{◌⊎◌, inl, inr, ⊎_elim}
use Prim.Native.Nat.{ℕ, zero, suc, ◌+◌, ◌-◌, ◌*◌, ◌/◌, ◌%◌, ◌^◌, ◌≤◌, ◌<◌}
use mathlib.Core.List.{List, [], ◌∷◌}
use mathlib.Core.Option.{Option, none, some, map}
use native.Mathlib.Nat.{zero-add, lt_of_lt_of_le, pow-le-pow_right, pow-suc, eq-zero-or-pos, eq-or-lt_of_le}
use native.Mathlib.Omega.{arith}
use lib.ListN.{length, get_or, take}
use lib.Count.{ones, count_leading_zeros, ones_step, leading_unique}
use borrow.Author.Tests.{le-ltb, eq-eqb, ne_eqb}
use Rattle.multiset.specs.Multisets.{below, copies, Below}
use Rattle.buckets.specs.Words.{word_from, minis_from, list_of, minis_in}
use Rattle.multiset.proofs.RankLaws.{below-smaller}

-- ascending from lo, each below hi
abbrev pub Run : ℕ → ℕ → List ℕ → Type 0
Run lo hi [] = Unit {0}
Run lo hi (x ∷ xs) = (lo ≤ x) × (x < hi) × Run x hi xs

-- mini-buckets left, the one at hand, the members' mini-buckets, the word
pub data Coded : ℕ → ℕ → List ℕ → ℕ → Type 0 where
  done : {m : ℕ} → Coded 0 m [] 0
  member : {n m : ℕ} {ms : List ℕ} {w : ℕ} → Coded (suc n) m ms w → Coded (suc n) m (m ∷ ms) (2 * w)
  end : {n m : ℕ} {ms : List ℕ} {w : ℕ} → Coded n (suc m) ms w → Coded (suc n) m ms (1 + 2 * w)

-- ---- runs, and what is counted in them

pub run-widen : (k lo hi top : ℕ) (xs : List ℕ) → k ≤ lo → hi ≤ top → Run lo hi xs → Run k top xs
run-widen k lo hi top [] h l r = r
run-widen k lo hi top (x ∷ xs) h l r = (omega arith, omega arith, run-widen x x hi top xs (omega arith) l r.2)

copies-run : (k lo hi : ℕ) (xs : List ℕ) → k < lo → Run lo hi xs → copies k xs ≡ 0
unfolding copies
copies-run k lo hi [] h r = refl
copies-run k lo hi (x ∷ xs) h r = rw (ne_eqb k x (omega arith)) (copies-run k x hi xs (omega arith) r.2)

pub run-below : (lo hi : ℕ) (xs : List ℕ) → Run lo hi xs → Below hi xs
run-below lo hi [] r = tt
run-below lo hi (x ∷ xs) r = (r.1, run-below x hi xs r.2)

pub run_take : (lo hi n : ℕ) (ms : List ℕ) → Run lo hi ms → Run lo hi (take n ms)
run_take lo hi zero ms r = tt
run_take lo hi (suc n) [] r = tt
run_take lo hi (suc n) (m ∷ ms) r = (r.0, r.1, run_take m hi n ms r.2)

pub run_at : (lo hi i : ℕ) (ms : List ℕ) → Run lo hi ms → i < length ms → (lo ≤ get_or ms i 0) × (get_or ms i 0 < hi)
run_at lo hi i [] r h = absurd (omega arith)
run_at lo hi zero (m ∷ ms) r h = (r.0, r.1)
run_at lo hi (suc i) (m ∷ ms) r h = let s = run_at m hi i ms r.2 (omega arith) in (omega arith, s.1)

-- none in front of a member is larger
pub run-rank : (lo hi i : ℕ) (ms : List ℕ) → Run lo hi ms → i < length ms → below (suc (get_or ms i 0)) (take i ms) ≡ i
unfolding below
run-rank lo hi i [] r h = absurd (omega arith)
run-rank lo hi zero (m ∷ ms) r h = refl
run-rank lo hi (suc i) (m ∷ ms) r h =
    let s = run_at m hi i ms r.2 (omega arith) in
    below-smaller (suc (get_or ms i 0)) m (take i ms) (omega arith) ∙ ap suc (run-rank m hi i ms r.2 (omega arith))

pub below-run : (k lo hi : ℕ) (xs : List ℕ) → k ≤ lo → Run lo hi xs → below k xs ≡ 0
unfolding below
below-run k lo hi [] h r = refl
below-run k lo hi (x ∷ xs) h r = rw (le-ltb x k (omega arith)) (below-run k x hi xs (omega arith) r.2)

-- ---- the word of a run

word-member : (n m : ℕ) (ms : List ℕ) → 2 * word_from (suc n) m ms ≡ 2 ^ suc (copies m ms) * (1 + 2 * word_from n (suc m) ms)
unfolding word_from
word-member n m ms = rw (pow-suc 2 (copies m ms)) (omega arith)

-- a smaller member gives no bit
word-skip : (n m x : ℕ) (ms : List ℕ) → x < m → word_from n m (x ∷ ms) ≡ word_from n m ms
unfolding word_from copies
word-skip zero m x ms h = refl
word-skip (suc n) m x ms h = rw (ne_eqb m x (omega arith), word-skip n (suc m) x ms (omega arith))

word-here : (n m : ℕ) (ms : List ℕ) → word_from (suc n) m (m ∷ ms) ≡ 2 * word_from (suc n) m ms
unfolding word_from copies
word-here n m ms = rw (eq-eqb m m refl, word-skip n (suc m) m ms (omega arith)) (sym (word-member n m ms))

word-past : (n m : ℕ) (ms : List ℕ) → copies m ms ≡ 0 → word_from (suc n) m ms ≡ 1 + 2 * word_from n (suc m) ms
unfolding word_from
word-past n m ms h = rw h (omega arith)

run_none : (m : ℕ) (ms : List ℕ) → Run m (m + 0) ms → ms ≡ []
run_none m [] r = refl
run_none m (x ∷ xs) r = absurd (omega arith)

-- one mini-bucket's members, and then its end
coded-more : (n m : ℕ) → ((ms : List ℕ) → Run (suc m) (suc m + n) ms → Coded n (suc m) ms (word_from n (suc m) ms))
    → (ms : List ℕ) → Run m (m + suc n) ms → Coded (suc n) m ms (word_from (suc n) m ms)
unfolding copies
coded-more n m rest [] r = rw (word-past n m [] refl) (end (rest [] _))
coded-more n m rest (x ∷ xs) r =
    ⊎_elim
    (λ (e : m ≡ x). subst (λ (y : ℕ). Coded (suc n) m (y ∷ xs) (word_from (suc n) m (y ∷ xs))) e
    (rw (word-here n m xs) (member (coded-more n m rest xs (run-widen m x (m + suc n) (m + suc n) xs r.0 (omega arith) r.2)))))
    (λ (l : m < x). rw (word-past n m (x ∷ xs) (copies-run m x (m + suc n) (x ∷ xs) l (omega arith, r.1, r.2)))
    (end (rest (x ∷ xs) (l, omega arith, run-widen x x (m + suc n) (suc m + n) xs (omega arith) (omega arith) r.2))))
    (eq-or-lt_of_le r.0)

pub coded-word : (n m : ℕ) (ms : List ℕ) → Run m (m + n) ms → Coded n m ms (word_from n m ms)
unfolding word_from
coded-word zero m ms r = rw (run_none m ms r) done
coded-word (suc n) m ms r = coded-more n m (coded-word n (suc m)) ms r

pub coded-run : {n m : ℕ} {ms : List ℕ} {w : ℕ} → Coded n m ms w → Run m (m + n) ms
coded-run done = _
coded-run (member c) = (omega arith, omega arith, coded-run c)
coded-run (end {n = n} {m = m} {ms = ms} c) = run-widen m (suc m) (suc m + n) (m + suc n) ms (omega arith) (omega arith) (coded-run c)

pub coded-unique : {n m : ℕ} {ms : List ℕ} {w : ℕ} → Coded n m ms w → w ≡ word_from n m ms
unfolding word_from
coded-unique done = refl
coded-unique (member {n = n} {m = m} {ms = ms} c) = ap (λ (v : ℕ). 2 * v) (coded-unique c) ∙ sym (word-here n m ms)
coded-unique (end {n = n} {m = m} {ms = ms} c) =
    ap (λ (v : ℕ). 1 + 2 * v) (coded-unique c) ∙ sym (word-past n m ms (copies-run m (suc m) (suc m + n) ms (omega arith) (coded-run c)))

-- ---- the members of a word

minis-member : (bits n m w : ℕ) → w % 2 ≡ 0
    → minis_from (suc bits) (suc n) m w ≡ map (λ (ms : List ℕ). m ∷ ms) (minis_from bits (suc n) m (w / 2))
unfolding minis_from
minis-member bits n m w h = rw (eq-eqb (w % 2) 0 h)

minis-end : (bits n m w : ℕ) → w % 2 ≡ 1 → minis_from (suc bits) (suc n) m w ≡ minis_from bits n (suc m) (w / 2)
unfolding minis_from
minis-end bits n m w h = rw (ne_eqb (w % 2) 0 (omega arith))

pub minis-coded : {n m : ℕ} {ms : List ℕ} {w : ℕ} (bits : ℕ) → Coded n m ms w → n + length ms ≤ bits → minis_from bits n m w ≡ some ms
unfolding minis_from
minis-coded bits done h = refl
minis-coded zero (member c) h = absurd (omega arith)
minis-coded zero (end c) h = absurd (omega arith)
minis-coded (suc bits) (member {n = n} {m = m} {ms = ms} {w = w} c) h =
    let k : 2 * w / 2 ≡ w = omega arith in
    minis-member bits n m (2 * w) (omega arith) ∙ rw (k, minis-coded bits c (omega arith))
minis-coded (suc bits) (end {n = n} {m = m} {ms = ms} {w = w} c) h =
    let k : (1 + 2 * w) / 2 ≡ w = omega arith in
    minis-end bits n m (1 + 2 * w) (omega arith) ∙ rw (k, minis-coded bits c (omega arith))

-- a word by its lowest bit: a member's or an end's
pub coded-even : (n m w : ℕ) (ms : List ℕ) → w % 2 ≡ 0 → Coded (suc n) m ms (w / 2) → Coded (suc n) m (m ∷ ms) w
coded-even n m w ms h c = let e : 2 * (w / 2) ≡ w = omega arith in rw e at (member c)

pub coded-odd : (n m w : ℕ) (ms : List ℕ) → w % 2 ≡ 1 → Coded n (suc m) ms (w / 2) → Coded (suc n) m ms w
coded-odd n m w ms h c = let e : 1 + 2 * (w / 2) ≡ w = omega arith in rw e at (end c)

pub even-or-odd : (w : ℕ) → (w % 2 ≡ 0) ⊎ (w % 2 ≡ 1)
even-or-odd w = ⊎_elim (λ (e : w % 2 ≡ 0). inl e) (λ (l : 0 < w % 2). inr (omega arith)) (eq-zero-or-pos (w % 2))

coded-zero : (bits m w : ℕ) (ms : List ℕ) → minis_from bits 0 m w ≡ some ms → Coded 0 m ms w × (length ms ≤ bits)
unfolding minis_from
coded-zero bits m zero ms e = let k : ms ≡ [] = cc in rw k (done, omega arith)
coded-zero bits m (suc w) ms e = let z : ◌≡◌ {A = ℕ} 0 1 = cc (ne_eqb (suc w) 0 (omega arith)) in absurd (omega arith)

-- what holds of the members of w / 2 holds of those of w
coded-up : (bits n m w : ℕ) (ms : List ℕ) (o : Option (List ℕ)) → w % 2 ≡ 0
    → ((ns : List ℕ) → o ≡ some ns → Coded (suc n) m ns (w / 2) × (suc n + length ns ≤ bits))
    → map (λ (ns : List ℕ). m ∷ ns) o ≡ some ms → Coded (suc n) m ms w × (suc n + length ms ≤ suc bits)
coded-up bits n m w ms none h f e = let z : ◌≡◌ {A = ℕ} 0 1 = cc in absurd (omega arith)
coded-up bits n m w ms (some ns) h f e =
    let k : ms ≡ m ∷ ns = cc in
    let g = f ns refl in
    rw k (coded-even n m w ns h g.0, omega arith)

pub coded-minis : (bits n m w : ℕ) (ms : List ℕ) → minis_from bits n m w ≡ some ms → Coded n m ms w × (n + length ms ≤ bits)
unfolding minis_from
coded-minis bits zero m w ms e = let c = coded-zero bits m w ms e in (c.0, omega arith)
coded-minis zero (suc n) m w ms e = let z : ◌≡◌ {A = ℕ} 0 1 = cc in absurd (omega arith)
coded-minis (suc bits) (suc n) m w ms e =
    ⊎_elim
    (λ (h : w % 2 ≡ 0). coded-up bits n m w ms (minis_from bits (suc n) m (w / 2)) h
    (λ ns. coded-minis bits (suc n) m (w / 2) ns) (sym (minis-member bits n m w h) ∙ e))
    (λ (h : w % 2 ≡ 1). let c = coded-minis bits n (suc m) (w / 2) ms (sym (minis-end bits n m w h) ∙ e) in
    (coded-odd n m w ms h c.0, omega arith))
    (even-or-odd w)

-- ---- ones

pub ones-even : (w : ℕ) → w % 2 ≡ 0 → ones w ≡ ones (w / 2)
ones-even w h = omega (arith, ones_step w)

pub ones_odd : (w : ℕ) → w % 2 ≡ 1 → ones w ≡ suc (ones (w / 2))
ones_odd w h = omega (arith, ones_step w)

ones_pos : (k w : ℕ) → w < 2 ^ k → ones w ≡ 0 → w ≡ 0
ones_pos zero w l h = omega arith
ones_pos (suc k) w l h =
    let s = ones_step w in
    let z : w / 2 ≡ 0 = ones_pos k (w / 2) (omega arith) (omega arith) in
    omega arith

-- a word has as many ones as mini-buckets, and a number with so many ones is a word
pub ones-coded : {n m : ℕ} {ms : List ℕ} {w : ℕ} → Coded n m ms w → ones w ≡ n
unfolding ones
ones-coded done = refl
ones-coded (member {w = w} c) =
    let k : 2 * w / 2 ≡ w = omega arith in
    ones-even (2 * w) (omega arith) ∙ rw k (ones-coded c)
ones-coded (end {w = w} c) =
    let k : (1 + 2 * w) / 2 ≡ w = omega arith in
    ones_odd (1 + 2 * w) (omega arith) ∙ rw k (ap suc (ones-coded c))

pub minis-ones : (bits n m w : ℕ) → w < 2 ^ bits → ones w ≡ n → (ms : List ℕ) × (minis_from bits n m w ≡ some ms)
unfolding minis_from ones
minis-ones bits zero m w l h = ([], rw (ones_pos bits w l h))
minis-ones zero (suc n) m w l h =
    let k : w ≡ 0 = omega arith in
    let z : ones w ≡ 0 = ap ones k in
    absurd (omega arith)
minis-ones (suc bits) (suc n) m w l h =
    ⊎_elim
    (λ (e : w % 2 ≡ 0). let s = minis-ones bits (suc n) m (w / 2) (omega arith) (omega (arith, ones-even w e)) in
    (m ∷ s.0, minis-member bits n m w e ∙ rw s.1))
    (λ (e : w % 2 ≡ 1). let s = minis-ones bits n (suc m) (w / 2) (omega arith) (omega (arith, ones_odd w e)) in
    (s.0, minis-end bits n m w e ∙ s.1))
    (even-or-odd w)

pub minis-none : (bits n m w : ℕ) → (ones w ≡ n → ⊥) → minis_from bits n m w ≡ none
minis-none bits n m w h = go (minis_from bits n m w) refl
  where
    go : (o : Option (List ℕ)) → minis_from bits n m w ≡ o → o ≡ none
    go none e = refl
    go (some ms) e = absurd (h (ones-coded (coded-minis bits n m w ms e).0))

-- ---- length

pub coded-lt : {n m : ℕ} {ms : List ℕ} {w : ℕ} → Coded n m ms w → w < 2 ^ (n + length ms)
coded-lt done = omega arith
coded-lt (member {n = n} {ms = ms} c) =
    let k : suc n + suc (length ms) ≡ suc (suc n + length ms) = omega arith in
    rw k (omega (arith, coded-lt c))
coded-lt (end {n = n} {ms = ms} c) =
    let k : suc n + length ms ≡ suc (n + length ms) = omega arith in
    rw k (omega (arith, coded-lt c))

pub word_lt : (bits minis : ℕ) (ms : List ℕ) → Run 0 minis ms → minis + length ms ≤ bits → word_from minis 0 ms < 2 ^ bits
word_lt bits minis ms r h =
    lt_of_lt_of_le (coded-lt (coded-word minis 0 ms (rw (zero-add minis) r))) (pow-le-pow_right {n = 2} (omega arith) h)

-- the highest bit of a word is the last mini-bucket's end
coded-ge : {n m : ℕ} {ms : List ℕ} {w : ℕ} → Coded n m ms w → 2 ^ (n + length ms) ≤ 2 * w + 1
coded-ge done = omega arith
coded-ge (member {n = n} {ms = ms} c) =
    let k : suc n + length ms ≡ suc (n + length ms) = omega arith in
    let l : suc n + suc (length ms) ≡ suc (suc (n + length ms)) = omega arith in
    rw l (omega (arith, rw k at (coded-ge c)))
coded-ge (end {n = n} {ms = ms} c) =
    let k : suc n + length ms ≡ suc (n + length ms) = omega arith in
    rw k (omega (arith, coded-ge c))

-- "members = word length less leading zeros less minis"
pub leading-coded : {n m : ℕ} {ms : List ℕ} {w : ℕ} (bits : ℕ) → 0 < n → Coded n m ms w → n + length ms ≤ bits → count_leading_zeros bits w + (n + length ms) ≡ bits
leading-coded {n} {m} {ms} {w} bits p c h =
    omega (arith, leading_unique bits w (bits - (n + length ms)) (n + length ms) (omega arith) (coded-lt c) (coded-ge c))

-- ---- the word of a bucket

pub minis_in-coded : {n : ℕ} {ms : List ℕ} {w : ℕ} (bits : ℕ) → Coded n 0 ms w → n + length ms ≤ bits → minis_in bits n w ≡ ms
unfolding minis_in
minis_in-coded bits c h = ap list_of (minis-coded bits c h)

module _ (bits minis w : ℕ) (small : w < 2 ^ bits) (full : ones w ≡ minis) where
  pub minis-word : minis_from bits minis 0 w ≡ some (minis_in bits minis w)
  unfolding minis_in
  minis-word = let t = minis-ones bits minis 0 w small full in rw t.1

  pub coded-minis_in : Coded minis 0 (minis_in bits minis w) w × (minis + length (minis_in bits minis w) ≤ bits)
  coded-minis_in = coded-minis bits minis 0 w (minis_in bits minis w) minis-word

  pub minis_in-run : Run 0 minis (minis_in bits minis w)
  minis_in-run = rw (zero-add minis) at (coded-run coded-minis_in.0)

  -- "the members in a sound bucket are 28 minus the word's leading zeros"
  pub leading-minis_in : 0 < minis → count_leading_zeros bits w + (minis + length (minis_in bits minis w)) ≡ bits
  leading-minis_in h = leading-coded bits h coded-minis_in.0 coded-minis_in.1
