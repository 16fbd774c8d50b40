-- Marks: one number that says of each of n numbers whether f takes t there. One more is looked at (`marks-hit`, `marks-miss`); the first that is marked
-- (`marks-none`, `first-mark`); those in a row from there (`run-one`, `run_more`); and any by its place (`mark_set`, `mark-told`).
use mathlib.Core.Path.{◌≡◌, sym, ap, ◌∙◌}
use Prim.Native.Nat.{ℕ, zero, suc, ◌+◌, ◌*◌, ◌-◌, ◌/◌, ◌%◌, ◌^◌, ◌≤◌, ◌<◌}
use mathlib.Core.Bool.{cond}
use native.Mathlib.Nat.{add-zero, zero-add, sub-zero, mul_left_comm, pow-succ', div-one, div-div-eq-div-mul}
use native.Mathlib.Numerals.{add-one}
use native.Mathlib.Decide.{ℕ_discrete}
use native.Mathlib.Omega.{arith}
use lib.Dec.{eqb}
use borrow.Author.Tests.{eq-eqb, ne_eqb}
use lib.Bits.{bit_or, or_shifted_r}
use lib.Pow.{pow_mono}
use lib.Count.{count_trailing_zeros}
use Rattle.minifilter.specs.Steps.Marks.{marks_of}

-- 2, n places up
pub two-shifted : (n : ℕ) → n < 31 → 2 * 2 ^ n % 2 ^ 32 ≡ 2 ^ suc n
two-shifted n h = omega (arith, pow-succ' 2 n, pow_mono {i = n} {j = 30} (omega arith))

module _ (f : ℕ → ℕ) (t : ℕ) where
  -- one mark
  abbrev mark : ℕ → ℕ
  mark i = cond (eqb (f i) t) 1 0

  mark-yes : (i : ℕ) → f i ≡ t → mark i ≡ 1
  mark-yes i e = rw (eq-eqb (f i) t e)

  mark-no : (i : ℕ) → (f i ≡ t → ⊥) → mark i ≡ 0
  mark-no i e = rw (ne_eqb (f i) t e)

  pub marks-lt : (i n : ℕ) → marks_of f t i n < 2 ^ n
  unfolding marks_of
  marks-lt i zero = omega arith
  marks-lt i (suc n) = elim (ℕ_discrete (f i) t) [
    | yes e ↦ omega (arith, mark-yes i e, marks-lt (suc i) n, pow-succ' 2 n)
    | no e ↦ omega (arith, mark-no i e, marks-lt (suc i) n, pow-succ' 2 n)
  ]

  marks-more : (i n k : ℕ) → k ≡ i + n → marks_of f t i (suc n) ≡ marks_of f t i n + mark k * 2 ^ n
  unfolding marks_of
  marks-more i zero k e = let z : k ≡ i = omega arith in rw z (omega arith)
  marks-more i (suc n) k e =
      omega (arith, marks-more (suc i) n k (omega arith), mul_left_comm (mark k) 2 (2 ^ n), ap (λ (p : ℕ). mark k * p) (pow-succ' 2 n))

  -- the lowest mark stands where f takes t first, and the marks from there on are those of what is left
  pub record FirstMark (i n r : ℕ) : Type 0 where
    pub inside : r < n
    pub here : f (i + r) ≡ t
    pub before : (j : ℕ) → i ≤ j → j < i + r → f j ≡ t → ⊥
    pub rest : marks_of f t i n / 2 ^ r ≡ marks_of f t (i + r) (n - r)

  mark-first : (bits i n : ℕ) → n ≤ bits → 0 < marks_of f t i n → FirstMark i n (count_trailing_zeros bits (marks_of f t i n))
  unfolding marks_of count_trailing_zeros
  mark-first bits i zero l p = absurd (omega arith)
  mark-first zero i (suc n) l p = absurd (omega arith)
  mark-first (suc bits) i (suc n) l p = elim (ℕ_discrete (f i) t) [
    | yes e ↦
        let m : ℕ = marks_of f t (suc i) n in
        let h : mark i ≡ 1 = mark-yes i e in
        let odd : (1 + 2 * m) % 2 ≡ 1 = omega arith in
        let q : FirstMark i (suc n) 0 = record {
          inside = omega arith;
          here = rw (add-zero i) e;
          before = λ j a b. absurd (omega arith);
          rest = rw (add-zero i, sub-zero (suc n)) (div-one (marks_of f t i (suc n)));
        } in
        rw (h, odd) q
    | no e ↦
        let m : ℕ = marks_of f t (suc i) n in
        let h : mark i ≡ 0 = mark-no i e in
        let even : (0 + 2 * m) % 2 ≡ 0 = omega arith in
        let half : (0 + 2 * m) / 2 ≡ m = omega arith in
        let r : ℕ = count_trailing_zeros bits m in
        let p : FirstMark (suc i) n r = mark-first bits (suc i) n (omega arith) (omega (arith, h)) in
        let s : i + suc r ≡ suc i + r = omega arith in
        let d : suc n - suc r ≡ n - r = omega arith in
        let q : FirstMark i (suc n) (suc r) = record {
          inside = omega (arith, p.inside);
          here = rw s p.here;
          before = λ j a b. elim (ℕ_discrete j i) [ yes z ↦ rw z e | no z ↦ p.before j (omega arith) (omega arith) ];
          rest = rw (h, s, d, pow-succ' 2 r) (sym (div-div-eq-div-mul (0 + 2 * m) 2 (2 ^ r)) ∙ rw half p.rest);
        } in
        rw (h, even, half) q
  ]

  -- a mark by its place
  pub mark_set : (i n j : ℕ) → j < n → f (i + j) ≡ t → marks_of f t i n / 2 ^ j % 2 ≡ 1
  unfolding marks_of
  mark_set i zero j h e = absurd (omega arith)
  mark_set i (suc n) zero h e = omega (arith, mark-yes i (rw (add-zero i) at e), div-one (mark i + 2 * marks_of f t (suc i) n))
  mark_set i (suc n) (suc j) h e =
      let m : ℕ = marks_of f t (suc i) n in
      let half : (mark i + 2 * m) / 2 ≡ m = elim (ℕ_discrete (f i) t) [ yes y ↦ omega (arith, mark-yes i y) | no y ↦ omega (arith, mark-no i y) ] in
      let next : suc i + j ≡ i + suc j = omega arith in
      rw (pow-succ' 2 j, ← div-div-eq-div-mul (mark i + 2 * m) 2 (2 ^ j), half) (mark_set (suc i) n j (omega arith) (rw next e))

  pub mark-told : (i n j : ℕ) → j < n → marks_of f t i n / 2 ^ j % 2 ≡ 1 → f (i + j) ≡ t
  unfolding marks_of
  mark-told i zero j h e = absurd (omega arith)
  mark-told i (suc n) zero h e = elim (ℕ_discrete (f i) t) [
    | yes y ↦ rw (add-zero i) y
    | no y ↦ absurd (omega (arith, e, mark-no i y, div-one (mark i + 2 * marks_of f t (suc i) n)))
  ]
  mark-told i (suc n) (suc j) h e =
      let m : ℕ = marks_of f t (suc i) n in
      let half : (mark i + 2 * m) / 2 ≡ m = elim (ℕ_discrete (f i) t) [ yes y ↦ omega (arith, mark-yes i y) | no y ↦ omega (arith, mark-no i y) ] in
      let next : suc i + j ≡ i + suc j = omega arith in
      rw next at (mark-told (suc i) n j (omega arith) (rw (pow-succ' 2 j, ← div-div-eq-div-mul (mark i + 2 * m) 2 (2 ^ j), half) at e))

  -- no mark
  pub marks-none : (i n : ℕ) → marks_of f t i n ≡ 0 → (j : ℕ) → i ≤ j → j < i + n → f j ≡ t → ⊥
  unfolding marks_of
  marks-none i zero z j a b = absurd (omega arith)
  marks-none i (suc n) z j a b = elim (ℕ_discrete j i) [
    | yes e ↦ rw e (λ h. omega (arith, mark-yes i h))
    | no e ↦ marks-none (suc i) n (omega arith) j (omega arith) (omega arith)
  ]

  -- the first r of n numbers from i on are marked, and the next is not
  pub record Run (i n r : ℕ) : Type 0 where
    pub stop : r ≤ n
    pub within : (j : ℕ) → i ≤ j → j < i + r → f j ≡ t
    pub behind : r < n → f (i + r) ≡ t → ⊥

  pub run_more : (bits i n : ℕ) → n < bits → Run i n (count_trailing_zeros bits (marks_of f t i n + 1))
  unfolding marks_of count_trailing_zeros
  run_more zero i n l = absurd (omega arith)
  run_more (suc bits) i zero l = record { stop = omega arith; within = λ j a b. absurd (omega arith); behind = λ b. absurd (omega arith) }
  run_more (suc bits) i (suc n) l = elim (ℕ_discrete (f i) t) [
    | yes e ↦
        let m : ℕ = marks_of f t (suc i) n in
        let h : mark i ≡ 1 = mark-yes i e in
        let even : (1 + 2 * m + 1) % 2 ≡ 0 = omega arith in
        let half : (1 + 2 * m + 1) / 2 ≡ m + 1 = omega arith in
        let q : Run (suc i) n (count_trailing_zeros bits (m + 1)) = run_more bits (suc i) n (omega arith) in
        let s : i + suc (count_trailing_zeros bits (m + 1)) ≡ suc i + count_trailing_zeros bits (m + 1) = omega arith in
        rw (h, even, half) record {
          stop = omega (arith, q.stop);
          within = λ j a b. elim (ℕ_discrete j i) [ yes z ↦ rw z e | no z ↦ q.within j (omega arith) (omega arith) ];
          behind = λ b. rw s (q.behind (omega arith));
        }
    | no e ↦
        let m : ℕ = marks_of f t (suc i) n in
        let h : mark i ≡ 0 = mark-no i e in
        let odd : (0 + 2 * m + 1) % 2 ≡ 1 = omega arith in
        rw (h, odd) record { stop = omega arith; within = λ j a b. absurd (omega arith); behind = λ b. rw (add-zero i) e }
  ]

  pub run-some : (i n r : ℕ) → Run i n r → 0 < n → f i ≡ t → 0 < r
  run-some i n zero q l h = absurd (q.behind l (rw (add-zero i) h))
  run-some i n (suc r) q l h = omega arith

  -- one alone, by the mark behind it
  pub run-one : (i n : ℕ) → f i ≡ t → marks_of f t i n / 2 % 2 ≡ 0 → 0 < n → Run i n 1
  unfolding marks_of
  run-one i zero e z l = absurd (omega arith)
  run-one i (suc n) e z l = record { stop = omega arith; within = λ j a b. let q : j ≡ i = omega arith in rw q e; behind = λ b q. next n (omega arith) q z }
    where
      next : (n : ℕ) → 0 < n → f (i + 1) ≡ t → (mark i + 2 * marks_of f t (suc i) n) / 2 % 2 ≡ 0 → ⊥
      next zero p q z = omega arith
      next (suc n) p q z = omega (arith, mark-yes i e, mark-yes (suc i) (rw (add-one i) at q))

  -- all marks, from 2 on, with one more number looked at
  pub marks-hit : (n : ℕ) {marks : ℕ} → n < 31 → marks ≡ 2 * marks_of f t 0 n → f n ≡ t → bit_or marks (2 * 2 ^ n % 2 ^ 32) ≡ 2 * marks_of f t 0 (n + 1)
  marks-hit n {marks} room e h =
      let small : marks < 2 ^ suc n = omega (arith, marks-lt 0 n, pow-succ' 2 n) in
      ap (bit_or marks) (two-shifted n room ∙ omega arith) ∙ or_shifted_r 1 (suc n) marks small
      ∙ rw (add-one n) (omega (arith, rw (mark-yes n h) at (marks-more 0 n n (omega arith)), pow-succ' 2 n))

  pub marks-miss : (n : ℕ) {marks : ℕ} → marks ≡ 2 * marks_of f t 0 n → (f n ≡ t → ⊥) → marks ≡ 2 * marks_of f t 0 (n + 1)
  marks-miss n e h = rw (add-one n) (omega (arith, rw (mark-no n h) at (marks-more 0 n n (omega arith))))

trailing-double : (bits m : ℕ) → count_trailing_zeros (suc bits) (2 * m) ≡ suc (count_trailing_zeros bits m)
unfolding count_trailing_zeros
trailing-double bits m =
    let even : 2 * m % 2 ≡ 0 = omega arith in
    let half : 2 * m / 2 ≡ m = omega arith in
    rw (even, half)

double-div : (m k : ℕ) → 2 * m / (2 * k) ≡ m / k
double-div m k = let half : 2 * m / 2 ≡ m = omega arith in sym (div-div-eq-div-mul (2 * m) 2 k) ∙ ap (λ (h : ℕ). h / k) half

-- the first number that is marked, and the marks from there on; `marks` are those of n numbers, from 2 on
pub first-mark : (f : ℕ → ℕ) (t n marks bits : ℕ) → marks ≡ 2 * marks_of f t 0 n → n < bits → 0 < marks
    → let place = count_trailing_zeros bits marks in
    (0 < place) × (place - 1 < n) × (f (place - 1) ≡ t) × ((i : ℕ) → i < place - 1 → f i ≡ t → ⊥)
    × (marks / 2 ^ place ≡ marks_of f t (place - 1) (n - (place - 1)))
first-mark f t n marks zero e room l = absurd (omega arith)
first-mark f t n marks (suc bits) e room l =
    let all : ℕ = marks_of f t 0 n in
    let r : ℕ = count_trailing_zeros bits all in
    let p : FirstMark f t 0 n r = mark-first f t bits 0 n (omega arith) (omega arith) in
    let place : count_trailing_zeros (suc bits) marks ≡ suc r = rw e (trailing-double bits all) in
    let from : suc r - 1 ≡ r = omega arith in
    let rest : marks / 2 ^ suc r ≡ marks_of f t r (n - r) = rw (e, pow-succ' 2 r) (double-div all (2 ^ r)) ∙ rw (zero-add r) at p.rest in
    rw (place, from) (omega arith, p.inside, rw (zero-add r) at p.here, λ i k. p.before i (omega arith) (omega arith), rest)
