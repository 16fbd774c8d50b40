-- A bucket's word with a bit put in or taken out at a slot, for any number of mini-buckets and members: it is the word of the members with
-- one more, or one less. Main results: `word-opened`, `word-closed`; and as code computes them, `opened-moved`, `closed-moved`.
use mathlib.Core.Path.{◌≡◌, sym, ◌∙◌}
use mathlib.Core.Logic.{◌⊎◌, ⊎_elim}
use Prim.Native.Nat.{ℕ, zero, suc, ◌+◌, ◌-◌, ◌*◌, ◌/◌, ◌%◌, ◌^◌, ◌≤◌, ◌<◌}
use mathlib.Core.List.{List, ◌∷◌, ◌++◌}
use native.Mathlib.Nat.{zero-add, mul-le-mul_right, div-le_self, eq-or-lt_of_le}
use native.Mathlib.Numerals.{add-one}
use native.Mathlib.Omega.{arith}
use lib.ListN.{take, drop}
use lib.Pow.{pow-add, shr-shr, split, mod-pow-add}
use Rattle.multiset.specs.Multisets.{below}
use Rattle.buckets.specs.Words.{word_from, opened_at, closed_at}
use Rattle.multiset.proofs.RankLaws.{below-smaller}
use Rattle.buckets.proofs.WordLaws.{Run, Coded, done, member, end, below-run, coded-word, coded-run, coded-unique}

opened-none : (w : ℕ) → opened_at 0 w ≡ 2 * w
unfolding opened_at
opened-none w = omega arith

closed_none : (w : ℕ) → closed_at 0 w ≡ w / 2
unfolding closed_at
closed_none w = omega arith

-- above the lowest bit
pub shr-suc : (k v : ℕ) → v / 2 ^ suc k ≡ v / 2 / 2 ^ k
shr-suc k v = let c : suc k ≡ 1 + k = omega arith in rw c (sym (shr-shr v 1 k))

high-up : (k b w : ℕ) → b < 2 → (b + 2 * w) / 2 ^ (k + 1) ≡ w / 2 ^ k
high-up k b w h = let e : (b + 2 * w) / 2 ≡ w = omega arith in rw (add-one k, shr-suc k (b + 2 * w), e)

low_up : (k b w : ℕ) → b < 2 → (b + 2 * w) % 2 ^ (k + 1) ≡ b + 2 * (w % 2 ^ k)
low_up k b w h =
    let e : (b + 2 * w) / 2 ≡ w = omega arith in
    mod-pow-add (b + 2 * w) k 1 ∙ rw e (omega arith)

opened_up : (pos b w : ℕ) → b < 2 → opened_at (suc pos) (b + 2 * w) ≡ b + 2 * opened_at pos w
unfolding opened_at
opened_up pos b w h = rw (← add-one pos, high-up pos b w h, low_up pos b w h, pow-add 2 (pos + 1) 1) (omega arith)

closed-up : (pos b w : ℕ) → b < 2 → closed_at (suc pos) (b + 2 * w) ≡ b + 2 * closed_at pos w
unfolding closed_at
closed-up pos b w h = rw (← add-one pos, high-up (pos + 1) b w h, low_up pos b w h, pow-add 2 pos 1) (omega arith)

opened-even : (pos w : ℕ) → opened_at (suc pos) (2 * w) ≡ 2 * opened_at pos w
opened-even pos w = simp zero-add at (opened_up pos 0 w (omega arith))

closed-even : (pos w : ℕ) → closed_at (suc pos) (2 * w) ≡ 2 * closed_at pos w
closed-even pos w = simp zero-add at (closed-up pos 0 w (omega arith))

-- slot p of mini-bucket x, behind one more member of m
pub slot-up : (m x p hi : ℕ) (ms : List ℕ) → Run m hi ms → m ≤ x → below x (m ∷ ms) ≤ suc p → below x ms ≤ p
slot-up m x p hi ms r g h =
    ⊎_elim
    (λ (e : m ≡ x). omega (arith, below-run x m hi ms (omega arith) r))
    (λ (l : m < x). omega (arith, below-smaller x m ms l))
    (eq-or-lt_of_le g)

pub slot-first : (m x : ℕ) (ms : List ℕ) → m ≤ x → below x (m ∷ ms) ≤ 0 → x ≡ m
slot-first m x ms g h =
    ⊎_elim
    (λ (e : m ≡ x). sym e)
    (λ (l : m < x). absurd (omega (arith, below-smaller x m ms l)))
    (eq-or-lt_of_le g)

-- a place above that of mini-bucket m's end is one of a later mini-bucket
pub past_end : (n m x p pos : ℕ) (ms : List ℕ) → Run (suc m) (suc m + n) ms → m ≤ x → suc pos + m ≡ x + p → p ≤ below (suc x) ms → suc m ≤ x
past_end n m x p pos ms r g e u =
    ⊎_elim
    (λ (k : m ≡ x). absurd (omega (arith, below-run (suc x) (suc m) (suc m + n) ms (omega arith) r)))
    (λ (k : m < x). k)
    (eq-or-lt_of_le g)

pub coded-opened : {n m : ℕ} {ms : List ℕ} {w : ℕ} (x p pos : ℕ) → Coded n m ms w → m ≤ x → x < m + n → pos + m ≡ x + p
    → below x ms ≤ p → p ≤ below (suc x) ms → Coded n m (take p ms ++ (x ∷ drop p ms)) (opened_at pos w)
coded-opened x p pos done g h e l u = absurd (omega arith)
coded-opened x zero pos (member {m = m} {ms = ms} {w = w} c) g h e l u =
    let k : x ≡ m = slot-first m x ms g l in
    let z : pos ≡ 0 = omega arith in
    rw (k, z, opened-none (2 * w)) (member (member c))
coded-opened x (suc p) zero (member c) g h e l u = absurd (omega arith)
coded-opened x (suc p) (suc pos) (member {n = n} {m = m} {ms = ms} {w = w} c) g h e l u =
    rw (opened-even pos w) (member (coded-opened x p pos c g h (omega arith) (slot-up m x p (m + suc n) ms (coded-run c) g l)
    (omega (arith, below-smaller (suc x) m ms (omega arith)))))
coded-opened x p zero (end {m = m} {ms = ms} {w = w} c) g h e l u =
    let k : x ≡ m = omega arith in
    let z : p ≡ 0 = omega arith in
    rw (k, z, opened-none (1 + 2 * w)) (member (end c))
coded-opened x p (suc pos) (end {n = n} {m = m} {ms = ms} {w = w} c) g h e l u =
    let b : suc m ≤ x = past_end n m x p pos ms (coded-run c) g e u in
    rw (opened_up pos 1 w (omega arith)) (end (coded-opened x p pos c b (omega arith) (omega arith) l u))

pub coded-closed : {n m : ℕ} {ms : List ℕ} {w : ℕ} (x p pos : ℕ) → Coded n m ms w → m ≤ x → x < m + n → pos + m ≡ x + p
    → below x ms ≤ p → p < below (suc x) ms → Coded n m (take p ms ++ drop (suc p) ms) (closed_at pos w)
coded-closed x p pos done g h e l u = absurd (omega arith)
coded-closed x zero pos (member {m = m} {ms = ms} {w = w} c) g h e l u =
    let k : x ≡ m = slot-first m x ms g l in
    let z : pos ≡ 0 = omega arith in
    let d : 2 * w / 2 ≡ w = omega arith in
    rw (z, closed_none (2 * w), d) c
coded-closed x (suc p) zero (member c) g h e l u = absurd (omega arith)
coded-closed x (suc p) (suc pos) (member {n = n} {m = m} {ms = ms} {w = w} c) g h e l u =
    rw (closed-even pos w) (member (coded-closed x p pos c g h (omega arith) (slot-up m x p (m + suc n) ms (coded-run c) g l)
    (omega (arith, below-smaller (suc x) m ms (omega arith)))))
coded-closed x p zero (end {n = n} {m = m} {ms = ms} {w = w} c) g h e l u =
    absurd (omega (arith, below-run (suc x) (suc m) (suc m + n) ms (omega arith) (coded-run c)))
coded-closed x p (suc pos) (end {n = n} {m = m} {ms = ms} {w = w} c) g h e l u =
    let b : suc m ≤ x = past_end n m x p pos ms (coded-run c) g e (omega arith) in
    rw (closed-up pos 1 w (omega arith)) (end (coded-closed x p pos c b (omega arith) (omega arith) l u))

pub word-opened : (n x p : ℕ) (ms : List ℕ) → Run 0 n ms → x < n → below x ms ≤ p → p ≤ below (suc x) ms
    → word_from n 0 (take p ms ++ (x ∷ drop p ms)) ≡ opened_at (x + p) (word_from n 0 ms)
word-opened n x p ms r h l u =
    sym (coded-unique (coded-opened x p (x + p) (coded-word n 0 ms (rw (← zero-add n) at r)) (omega arith) (omega arith) (omega arith) l u))

pub word-closed : (n x p : ℕ) (ms : List ℕ) → Run 0 n ms → x < n → below x ms ≤ p → p < below (suc x) ms
    → word_from n 0 (take p ms ++ drop (suc p) ms) ≡ closed_at (x + p) (word_from n 0 ms)
word-closed n x p ms r h l u =
    sym (coded-unique (coded-closed x p (x + p) (coded-word n 0 ms (rw (← zero-add n) at r)) (omega arith) (omega arith) (omega arith) l u))

-- ---- as code computes

pub opened-moved : (pos w : ℕ) → opened_at pos w ≡ w % 2 ^ pos + w / 2 ^ pos * 2 ^ pos * 2
unfolding opened_at
opened-moved pos w = rw (pow-add 2 pos 1) (omega arith)

pub closed-moved : (pos w : ℕ) → closed_at pos w ≡ w % 2 ^ pos + w / 2 ^ pos / 2 * 2 ^ pos
unfolding closed_at
closed-moved pos w = rw (← shr-shr w pos 1)

pub closed-high : (pos w : ℕ) → w % 2 ^ pos + w / 2 ^ pos / 2 * 2 ^ pos ≤ w
closed-high pos w = omega (arith, split w pos, mul-le-mul_right (2 ^ pos) (div-le_self (w / 2 ^ pos) 2))
