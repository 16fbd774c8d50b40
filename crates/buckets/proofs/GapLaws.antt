-- The zeros of a word: that of slot s over mini-bucket m stands at bit m + s, and the zeros past the members read as one more mini-bucket.
-- Main results: `gaps-word` (a word's complement), and of the zeros from slot s on `gap-place` (the lowest), `gap-next` (all but it).
use mathlib.Core.Path.{◌≡◌, sym, ◌∙◌, ap}
use Prim.Native.Nat.{ℕ, zero, suc, ◌+◌, ◌*◌, ◌-◌, ◌/◌, ◌%◌, ◌^◌, ◌≤◌, ◌<◌}
use mathlib.Core.List.{List, [], ◌∷◌, ◌++◌}
use native.Mathlib.Nat.{add-suc, suc-add, add-zero, zero-add, mul-one, zero-mul, one-mul, mul_assoc, mul_comm, mul-add, add-mul, pow-suc, mod_self}
use native.Mathlib.Omega.{arith}
use lib.ListN.{length, drop, get_or, replicate}
use lib.Seq.{drop-cons}
use lib.Pow.{pow_pos, pow-add, pow-lt}
use lib.Count.{count_trailing_zeros}
use lib.Bits.{bit_and, and_block, and_self, and_mask, block_half, block_odd, shifted_half, shifted_even}
use Rattle.buckets.proofs.WordLaws.{Run, Coded}

-- the zeros of the slots from s on, whose mini-buckets are ms
unfoldable pub gaps : ℕ → List ℕ → ℕ
gaps s [] = 0
gaps s (m ∷ ms) = 2 ^ (m + s) + gaps (suc s) ms

-- ---- a word and its zeros make all ones

double : (k w : ℕ) → 2 ^ suc k * (1 + w) ≡ 2 ^ k + 2 ^ k * (1 + 2 * w)
double k w =
    let e : 2 * (1 + w) ≡ 1 + (1 + 2 * w) = omega arith in
    rw (pow-suc 2 k, mul_assoc (2 ^ k) 2 (1 + w), e, mul-add (2 ^ k) 1 (1 + 2 * w), mul-one (2 ^ k))

gaps-rest : (p m s : ℕ) → gaps s (replicate p m) + 2 ^ (m + s) ≡ 2 ^ (m + s + p)
unfolding gaps
gaps-rest zero m s = rw (zero-add (2 ^ (m + s)), add-zero (m + s))
gaps-rest (suc p) m s =
    let e : m + s + suc p ≡ m + suc s + p = omega arith in
    let t = rw (add-suc m s, pow-suc 2 (m + s)) at (gaps-rest p m (suc s)) in
    rw (e, add-suc m s) (omega (arith, t))

gaps-coded : {n m : ℕ} {ms : List ℕ} {w : ℕ} (s p : ℕ) → Coded n m ms w
    → gaps s (ms ++ replicate p (m + n)) + 2 ^ (m + s) * (1 + w) ≡ 2 ^ (m + s + (n + length ms + p))
unfolding gaps
gaps-coded s p (Coded.done {m}) = rw (add-zero m, mul-one (2 ^ (m + s)), zero-add p) (gaps-rest p m s)
gaps-coded s p (Coded.member {n} {m} {ms} {w} c) =
    let e : m + s + (suc n + suc (length ms) + p) ≡ suc (m + s) + (suc n + length ms + p) = omega arith in
    rw e (omega (arith, rw (add-suc m s, double (m + s) w) at (gaps-coded (suc s) p c)))
gaps-coded s p (Coded.end {n} {m} {ms} {w} c) =
    let e : m + s + (suc n + length ms + p) ≡ suc m + s + (n + length ms + p) = omega arith in
    let d : 2 ^ (m + s) * (1 + (1 + 2 * w)) ≡ 2 ^ (suc m + s) * (1 + w)
    = rw (mul-add (2 ^ (m + s)) 1 (1 + 2 * w), mul-one (2 ^ (m + s)), suc-add m s) (sym (double (m + s) w)) in
    rw (e, d, add-suc m n) (rw (suc-add m n) at (gaps-coded s p c))

-- the complement of a word of n mini-buckets
pub gaps-word : {n : ℕ} {ms : List ℕ} {w : ℕ} (p bits : ℕ) → Coded n 0 ms w → n + length ms + p ≡ bits
    → gaps 0 (ms ++ replicate p n) + (1 + w) ≡ 2 ^ bits
gaps-word {n} {ms} {w} p bits c e = rw (zero-add n, one-mul (1 + w), zero-add (n + length ms + p), e) at (gaps-coded 0 p c)

-- ---- the lowest zero

-- zeros of slots from s on, no mini-bucket below m, stand at bit m + s or above
gaps-high : (m hi s : ℕ) (ms : List ℕ) → Run m hi ms → (a : ℕ) × (gaps s ms ≡ a * 2 ^ (m + s))
unfolding gaps
gaps-high m hi s [] r = (0, rw (zero-mul (2 ^ (m + s))))
gaps-high m hi s (x ∷ xs) r =
    let t = gaps-high x hi (suc s) xs r.2 in
    let e : x + s ≡ x - m + (m + s) = omega arith in
    let d : 2 ^ (x + s) ≡ 2 ^ (x - m) * 2 ^ (m + s) = rw (e, pow-add 2 (x - m) (m + s)) in (
      (1 + t.0 * 2) * 2 ^ (x - m),
      rw (
        t.1,
        add-suc x s,
        pow-suc 2 (x + s),
        mul_assoc (1 + t.0 * 2) (2 ^ (x - m)) (2 ^ (m + s)),
        ← d,
        add-mul 1 (t.0 * 2) (2 ^ (x + s)),
        one-mul (2 ^ (x + s)),
        mul_assoc t.0 2 (2 ^ (x + s)),
        mul_comm 2 (2 ^ (x + s)),
      ),
    )

trailing-place : (bits k a : ℕ) → k < bits → count_trailing_zeros bits (a * 2 ^ suc k + 2 ^ k) ≡ k
unfolding count_trailing_zeros
trailing-place zero k a h = absurd (omega arith)
trailing-place (suc bits) zero a h = rw (block_odd a 0 1)
trailing-place (suc bits) (suc k) a h =
    let o : 2 ^ suc k % 2 ≡ 0 = rw (one-mul (2 ^ suc k)) at (shifted_even 1 k) in
    let f : 2 ^ suc k / 2 ≡ 2 ^ k = rw (one-mul (2 ^ suc k), one-mul (2 ^ k)) at (shifted_half 1 k) in
    rw (block_odd a (suc k) (2 ^ suc k), o, block_half a (suc k) (2 ^ suc k), f, trailing-place bits k a (omega arith))

clear-place : (k a : ℕ) → bit_and (a * 2 ^ suc k + 2 ^ k) (a * 2 ^ suc k + 2 ^ k - 1) ≡ a * 2 ^ suc k
clear-place k a =
    let p : 0 < 2 ^ k = pow_pos k in
    let e : a * 2 ^ suc k + 2 ^ k - 1 ≡ a * 2 ^ suc k + (2 ^ k - 1) = omega arith in
    let l : 2 ^ k < 2 ^ suc k = pow-lt (omega arith) in
    ap (λ (x : ℕ). bit_and (a * 2 ^ suc k + 2 ^ k) x) e ∙ and_block (suc k) a a (2 ^ k) (2 ^ k - 1) l (omega arith)
    ∙ ap (λ (x : ℕ). x * 2 ^ suc k + bit_and (2 ^ k) (2 ^ k - 1)) (and_self a)
    ∙ ap (λ (x : ℕ). a * 2 ^ suc k + x) (and_mask (2 ^ k) k ∙ mod_self (2 ^ k)) ∙ add-zero (a * 2 ^ suc k)

-- ---- the zeros from slot s on

run_drop : (lo hi : ℕ) (ms : List ℕ) (s : ℕ) → Run lo hi ms → s < length ms → (get_or ms s 0 < hi) × Run (get_or ms s 0) hi (drop (suc s) ms)
run_drop lo hi [] s r h = absurd (omega arith)
run_drop lo hi (x ∷ xs) zero r h = (r.1, r.2)
run_drop lo hi (x ∷ xs) (suc s) r h = run_drop x hi xs s r.2 (omega arith)

module _ (hi bits : ℕ) (ms : List ℕ) (run : Run 0 hi ms) (fits : hi + length ms ≤ suc bits) (s : ℕ) (h : s < length ms) where
  -- the lowest zero and those above it
  split : (a : ℕ) × (gaps (suc s) (drop (suc s) ms) ≡ a * 2 ^ suc (get_or ms s 0 + s))
      × (gaps s (drop s ms) ≡ a * 2 ^ suc (get_or ms s 0 + s) + 2 ^ (get_or ms s 0 + s))
  unfolding gaps
  split =
      let t = gaps-high (get_or ms s 0) hi (suc s) (drop (suc s) ms) (run_drop 0 hi ms s run h).1 in
      let u = rw (add-suc (get_or ms s 0) s) at t.1 in
      (t.0, u, rw (drop-cons ms s 0 h, u) (omega arith))

  pub gap-place : count_trailing_zeros bits (gaps s (drop s ms)) ≡ get_or ms s 0 + s
  gap-place = rw split.2 (trailing-place bits (get_or ms s 0 + s) split.0 (omega (arith, (run_drop 0 hi ms s run h).0)))

  pub gap-next : bit_and (gaps s (drop s ms)) (gaps s (drop s ms) - 1) ≡ gaps (suc s) (drop (suc s) ms)
  gap-next = ap (λ (x : ℕ). bit_and x (x - 1)) split.2 ∙ clear-place (get_or ms s 0 + s) split.0 ∙ sym split.1

  pub gap_below : get_or ms s 0 < hi
  gap_below = (run_drop 0 hi ms s run h).0

  pub gap-some : 0 < gaps s (drop s ms)
  gap-some = omega (arith, split.2, pow_pos (get_or ms s 0 + s))
