-- The highest zero of a word is that of its last slot: in a bucket whose slots are all in use, the ones above it are the mini-buckets from its own on.
-- Main result: `last-leading`.
use mathlib.Core.Path.{◌≡◌, refl, ap, ◌∙◌}
use Prim.Native.Nat.{ℕ, zero, suc, ◌+◌, ◌*◌, ◌/◌, ◌-◌, ◌^◌, ◌≤◌, ◌<◌}
use mathlib.Core.List.{List, [], ◌∷◌}
use native.Mathlib.Nat.{pow-succ', add-suc, suc-add, zero-add}
use native.Mathlib.Decide.{ℕ_discrete}
use native.Mathlib.Omega.{arith}
use lib.ListN.{length, get_or}
use lib.Count.{count_leading_zeros, leading_unique}
use Rattle.buckets.proofs.WordLaws.{Coded, coded-run, run_at}

-- a word with no member is all ones
full-coded : {n m : ℕ} {ms : List ℕ} {w : ℕ} → Coded n m ms w → length ms ≡ 0 → w + 1 ≡ 2 ^ n
full-coded (Coded.done) e = refl
full-coded (Coded.member c) e = absurd (omega arith)
full-coded (Coded.end {n} {m} {ms} {w} c) e = omega (arith, full-coded c e, pow-succ' 2 n)

-- the last of a list, d where it has none
abbrev last_of : ℕ → List ℕ → ℕ
last_of d [] = d
last_of d (x ∷ xs) = last_of x xs

last_of_none : (d : ℕ) (xs : List ℕ) → length xs ≡ 0 → last_of d xs ≡ d
last_of_none d [] e = refl
last_of_none d (x ∷ xs) e = absurd (omega arith)

last_of_at : (d : ℕ) (xs : List ℕ) (i : ℕ) → length xs ≡ suc i → last_of d xs ≡ get_or xs i 0
last_of_at d [] i e = absurd (omega arith)
last_of_at d (x ∷ xs) zero e = last_of_none x xs (omega arith)
last_of_at d (x ∷ xs) (suc i) e = last_of_at x xs i (omega arith)

last-from : {n m : ℕ} {ms : List ℕ} {w : ℕ} (d : ℕ) → Coded n m ms w → 0 < length ms → m ≤ last_of d ms
last-from d (Coded.done) h = absurd (omega arith)
last-from d (Coded.member {n} {m} {ms} {w} c) h = elim (ℕ_discrete (length ms) 0) [
  | yes e ↦ omega (arith, last_of_none m ms e)
  | no f ↦ last-from m c (omega arith)
]
last-from d (Coded.end {n} {m} {ms} {w} c) h = omega (arith, last-from d c h)

pow-half : (u : ℕ) → 0 < u → 2 ^ u ≡ 2 * 2 ^ (u - 1)
pow-half u h = let e : u ≡ suc (u - 1) = omega arith in ap (λ (k : ℕ). 2 ^ k) e ∙ pow-succ' 2 (u - 1)

-- twice a number, and one more, between powers
top_up : (u z : ℕ) → 0 < u → 2 ^ (u - 1) ≤ z / 2 → z / 2 < 2 ^ suc (u - 1) → (2 ^ u ≤ z) × (z < 2 ^ suc u)
top_up u z h l g =
    let p : 2 ^ u ≡ 2 * 2 ^ (u - 1) = pow-half u h in
    let q : 2 ^ suc (u - 1) ≡ 2 * 2 ^ (u - 1) = pow-succ' 2 (u - 1) in
    let r : 2 ^ suc u ≡ 2 * 2 ^ u = pow-succ' 2 u in
    (omega arith, omega arith)

-- the highest one of the complement is the zero of the last slot
zeros-top : {n m : ℕ} {ms : List ℕ} {w : ℕ} (d u z : ℕ) → Coded n m ms w → 0 < length ms → w + z + 1 ≡ 2 ^ (n + length ms)
    → u + m + 1 ≡ last_of d ms + length ms → (2 ^ u ≤ z) × (z < 2 ^ suc u)
zeros-top d u z (Coded.done) h e f = absurd (omega arith)
zeros-top d u z (Coded.member {n} {m} {ms} {w} c) h e f =
    let p : 2 ^ (suc n + suc (length ms)) ≡ 2 * 2 ^ (suc n + length ms) = rw (add-suc (suc n) (length ms)) (pow-succ' 2 (suc n + length ms)) in
    elim (ℕ_discrete (length ms) 0) [
      | yes q ↦
          let full : w + 1 ≡ 2 ^ (suc n + length ms) = full-coded c q ∙ ap (λ (k : ℕ). 2 ^ k) (omega arith) in
          let none : u ≡ 0 = omega (arith, last_of_none m ms q) in
          rw none (omega arith, omega arith)
      | no q ↦
          let pos : 0 < u = omega (arith, last-from m c (omega arith)) in
          let ih = zeros-top m (u - 1) (z / 2) c (omega arith) (omega arith) (omega arith) in
          top_up u z pos ih.0 ih.1
    ]
zeros-top d u z (Coded.end {n} {m} {ms} {w} c) h e f =
    let p : 2 ^ (suc n + length ms) ≡ 2 * 2 ^ (n + length ms) = rw (suc-add n (length ms)) (pow-succ' 2 (n + length ms)) in
    let pos : 0 < u = omega (arith, last-from d c h) in
    let ih = zeros-top d (u - 1) (z / 2) c h (omega arith) (omega arith) in
    top_up u z pos ih.0 ih.1

-- "mini-bucket 36 − leading ones of the word", where i + 1 members fill it; z is the word's complement
pub last-leading : (bits minis i z : ℕ) {w : ℕ} {ms : List ℕ} → Coded minis 0 ms w → length ms ≡ suc i → minis + suc i ≡ bits
    → w + z + 1 ≡ 2 ^ bits → count_leading_zeros bits z + get_or ms i 0 ≡ minis
last-leading bits minis i z {w} {ms} c l full e =
    let m : ℕ = get_or ms i 0 in
    let small : m < minis = rw (zero-add minis) at (run_at 0 (0 + minis) i ms (coded-run c) (omega arith)).1 in
    let top = zeros-top 0 (m + i) z c (omega arith) (rw (l, full) e) (omega (arith, last_of_at 0 ms i l)) in
    let p : 2 ^ suc (m + i) ≡ 2 * 2 ^ (m + i) = pow-succ' 2 (m + i) in
    omega (arith, leading_unique bits z (minis - m) (suc (m + i)) (omega arith) top.1 (omega (arith, top.0)))
