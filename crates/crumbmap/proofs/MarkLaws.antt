-- Bits that mark which digits have a home: the lowest n, all but one, and the marks of both choices side by side.
-- Main results: `ones_in`, `lowest-in`, `all_but`, `marks-tested`, `marks-home`.
use mathlib.Core.Path.{◌≡◌, refl, sym, ◌∙◌, ap}
use Prim.Native.Nat.{ℕ, zero, suc, ◌+◌, ◌*◌, ◌-◌, ◌/◌, ◌%◌, ◌^◌, ◌≤◌, ◌<◌}
use native.Mathlib.Nat.{div-eq_of_lt, pow-suc, one-mul, add-mul, lt_of_lt_of_le}
use native.Mathlib.Omega.{arith}
use mathlib.Core.Bool.{Bool, true, false, cond, not}
use mathlib.Core.Option.{Option, none, some}
use lib.Dec.{ltb, eqb, lit<}
use lib.Pow.{pow_pos, pow_mono, pow-add, ones_lt, ones_split, high, low, field, mod-mod-pow, shr-shr, shl_exact}
use borrow.Author.Tests.{ltb-true, ltb-false, eq-eqb, ne_eqb}
use Rattle.crumbmap.specs.CrumbMap.{home, first_home, second_home}
use Rattle.crumbmap.specs.Steps.Marks.{Marks, bit_of}
use Rattle.crumbmap.proofs.SplitLaws.{split, home_by, home-split}

odd-ones : (j : ℕ) → (2 ^ suc j - 1) % 2 ≡ 1
odd-ones j = rw (pow-suc 2 j) (omega (arith, pow_pos j))

-- 2 ^ k - 1 has the bits 0 to k - 1, and no other
pub ones_in : (k d : ℕ) → d < k → (2 ^ k - 1) / 2 ^ d % 2 ≡ 1
ones_in k d h =
    let j = k - suc d in
    let e : k ≡ suc j + d = omega arith in
    rw (e, ones_split (suc j) d, high (2 ^ suc j - 1) d (ones_lt d)) (odd-ones j)

ones-out : (k d : ℕ) → k ≤ d → (2 ^ k - 1) / 2 ^ d % 2 ≡ 0
ones-out k d h = rw (div-eq_of_lt (lt_of_lt_of_le (ones_lt k) (pow_mono h)))

-- a bit at a place, in any width
pub one_shl : (bits k : ℕ) → k < bits → (1 * 2 ^ k) % 2 ^ bits ≡ 2 ^ k
one_shl bits k h = shl_exact 1 k bits (lit< tt) (omega arith) ∙ one-mul (2 ^ k)

-- the digits that pass a test are valid, and bits that say the same mark them
pub marks-tested : (p : ℕ → Bool) (at : ℕ → ℕ) {homes : ℕ → Option ℕ} {r : ℕ} → ((d : ℕ) → d < 8 → homes d ≡ cond (p d) (some (at d)) none)
    → r < 2 ^ 8 → ((d : ℕ) → d < 8 → r / 2 ^ d % 2 ≡ cond (p d) 1 0) → Marks 8 homes r
marks-tested p at tested small bits = record { small = small; bits = λ d l. bits d l ∙ rw (tested d l) (same (p d) (at d)) }
  where
    same : (b : Bool) (f : ℕ) → cond b 1 0 ≡ bit_of (cond b (some f) none)
    same true f = refl
    same false f = refl

-- the lowest n of eight
pub lowest-in : (n d : ℕ) → (2 ^ n - 1) / 2 ^ d % 2 ≡ cond (ltb d n) 1 0
lowest-in n d = go (ltb d n) refl
  where
    go : (b : Bool) → ltb d n ≡ b → (2 ^ n - 1) / 2 ^ d % 2 ≡ cond b 1 0
    go true e = ones_in n d (ltb-true d n e)
    go false e = ones-out n d (ltb-false d n e)

-- a bit of two numbers, side by side, is a bit of the one or the other
module _ (hi lo k d : ℕ) (small : lo < 2 ^ k) where
  bit-low : d < k → (hi * 2 ^ k + lo) / 2 ^ d % 2 ≡ lo / 2 ^ d % 2
  bit-low h =
      let n = hi * 2 ^ k + lo in
      let e : k - (1 + d) + (1 + d) ≡ k = omega arith in
      let s = rw (e, low hi k small) at (mod-mod-pow n (k - (1 + d)) (1 + d)) in
      sym (field n 1 d) ∙ ap (λ (x : ℕ). x / 2 ^ d) (sym s) ∙ field lo 1 d

  bit_high : (hi * 2 ^ k + lo) / 2 ^ (k + d) % 2 ≡ hi / 2 ^ d % 2
  bit_high = ap (λ (x : ℕ). x % 2) (sym (rw (high hi k small) at (shr-shr (hi * 2 ^ k + lo) k d)))

-- the lowest n but one, e
pub all_but : (n e d : ℕ) → e < n → d < n → (2 ^ n - 1 - 2 ^ e) / 2 ^ d % 2 ≡ cond (not (eqb d e)) 1 0
all_but n e d h l = rw parts (go (ltb d e) (ltb e d) refl refl)
  where
    j : ℕ
    j = n - suc e

    m : ℕ
    m = 2 ^ j - 1

    parts : 2 ^ n - 1 - 2 ^ e ≡ (m * 2 ^ 1 + 0) * 2 ^ e + (2 ^ e - 1)
    parts =
        let s : n ≡ suc j + e = omega arith in
        let t : 2 ^ suc j ≡ m * 2 ^ 1 + 0 + 2 = pow-suc 2 j ∙ omega (arith, pow_pos j) in
        let w = ap (λ (k : ℕ). 2 ^ k) s ∙ pow-add 2 (suc j) e ∙ ap (λ (k : ℕ). k * 2 ^ e) t ∙ add-mul (m * 2 ^ 1 + 0) 2 (2 ^ e) in
        omega (arith, w, pow_pos e)

    go : (a b : Bool) → ltb d e ≡ a → ltb e d ≡ b → ((m * 2 ^ 1 + 0) * 2 ^ e + (2 ^ e - 1)) / 2 ^ d % 2 ≡ cond (not (eqb d e)) 1 0
    go true b p q =
        let k : d < e = ltb-true d e p in
        rw (ne_eqb d e (λ s. omega arith)) (bit-low (m * 2 ^ 1 + 0) (2 ^ e - 1) e d (ones_lt e) k ∙ ones_in e d k)
    go false true p q =
        let k : e < d = ltb-true e d q in
        let c : d ≡ e + (1 + (d - suc e)) = omega arith in
        rw (ne_eqb d e (λ s. omega arith), c)
        (bit_high (m * 2 ^ 1 + 0) (2 ^ e - 1) e (1 + (d - suc e)) (ones_lt e) ∙ bit_high m 0 1 (d - suc e) (omega arith) ∙ ones_in j (d - suc e) (omega arith))
    go false false p q =
        let s : d ≡ e + 0 = omega (arith, ltb-false d e p, ltb-false e d q) in
        let r : d ≡ e = omega arith in
        rw (eq-eqb d e r, s) (bit_high (m * 2 ^ 1 + 0) (2 ^ e - 1) e 0 (ones_lt e) ∙ omega arith)

-- the marks of choice 0 below those of choice 1: each crumb's bit is that of its digit
pub marks-home : (B j lo hi : ℕ) → Marks 8 (first_home B j) lo → Marks 8 (second_home B j) hi → Marks 16 (home B j) (lo + 256 * hi)
marks-home B j lo hi m n =
    record { small = omega (arith, m.small, n.small); bits = λ c l. rw (e, home-split (split c l) B j) (go c l (c / 8) refl) }
  where
    e : lo + 256 * hi ≡ hi * 2 ^ 8 + lo
    e = omega arith

    go : (c : ℕ) → c < 16 → (k : ℕ) → c / 8 ≡ k → (hi * 2 ^ 8 + lo) / 2 ^ c % 2 ≡ bit_of (home_by k B j (c % 8))
    go c l zero z =
        let d : c ≡ c % 8 = omega arith in
        ap (λ (x : ℕ). (hi * 2 ^ 8 + lo) / 2 ^ x % 2) d ∙ bit-low hi lo 8 (c % 8) m.small (omega arith) ∙ m.bits (c % 8) (omega arith)
    go c l (suc k) z =
        let d : c ≡ 8 + c % 8 = omega arith in
        ap (λ (x : ℕ). (hi * 2 ^ 8 + lo) / 2 ^ x % 2) d ∙ bit_high hi lo 8 (c % 8) m.small ∙ n.bits (c % 8) (omega arith)
