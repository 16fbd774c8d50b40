-- Sums of N from + N (from + 1) + ..: alike where the terms are alike, sums of sums, sums of nought, a shift of the start, the last term,
-- terms that are at most v; sums over a grid, by rows and in either order; and over the places that two maps reach.
-- Main results: `sum_alike`, `sum-plus`, `sum-nought`, `sum_shifted`, `sum-last`, `sum-most`, `sum-add`, `sum-grid`, `sum-swap`, `sum-places`.
use mathlib.Core.Path.{◌≡◌, refl, sym, ap, ◌∙◌}
use Prim.Native.Nat.{ℕ, zero, suc, ◌+◌, ◌*◌, ◌≤◌, ◌<◌}
use mathlib.Core.Bool.{Bool, true, false, cond}
use native.Mathlib.Omega.{arith}
use native.Mathlib.Nat.{zero-add, add-zero, add-suc, suc-add, add_comm, zero-mul, suc-mul}
use native.Mathlib.Decide.{ℕ_discrete}
use lib.Dec.{eqb}
use borrow.Author.Tests.{eq-eqb, ne_eqb}
use Rattle.multiset.specs.Multisets.{sum}

pub sum_alike : (M N : ℕ → ℕ) (from n : ℕ) → ((i : ℕ) → from ≤ i → i < from + n → M i ≡ N i) → sum M from n ≡ sum N from n
sum_alike M N from zero h = refl
sum_alike M N from (suc n) h =
    omega (arith, h from (omega arith) (omega arith), sum_alike M N (suc from) n (λ i a b. h i (omega arith) (omega arith)))

pub sum-plus : (M N : ℕ → ℕ) (from n : ℕ) → sum (λ (i : ℕ). M i + N i) from n ≡ sum M from n + sum N from n
sum-plus M N from zero = refl
sum-plus M N from (suc n) = omega (arith, sum-plus M N (suc from) n)

pub sum-nought : (N : ℕ → ℕ) (from n : ℕ) → ((i : ℕ) → from ≤ i → i < from + n → N i ≡ 0) → sum N from n ≡ 0
sum-nought N from zero h = refl
sum-nought N from (suc n) h =
    omega (arith, h from (omega arith) (omega arith), sum-nought N (suc from) n (λ i a b. h i (omega arith) (omega arith)))

pub sum_shifted : (N : ℕ → ℕ) (d from n : ℕ) → sum N (d + from) n ≡ sum (λ (i : ℕ). N (d + i)) from n
sum_shifted N d from zero = refl
sum_shifted N d from (suc n) = omega (arith, rw (add-suc d from) at (sum_shifted N d (suc from) n))

pub sum-last : (N : ℕ → ℕ) (from n : ℕ) → sum N from (suc n) ≡ sum N from n + N (from + n)
sum-last N from zero = rw (add-zero from) (omega arith)
sum-last N from (suc n) = omega (arith, sum-last N (suc from) n, ap N (suc-add from n ∙ sym (add-suc from n)))

pub sum-most : (N : ℕ → ℕ) (from n v : ℕ) → ((i : ℕ) → from ≤ i → i < from + n → N i ≤ v) → sum N from n ≤ n * v
sum-most N from zero v h = omega arith
sum-most N from (suc n) v h =
    omega (arith, suc-mul n v, h from (omega arith) (omega arith), sum-most N (suc from) n v (λ i a b. h i (omega arith) (omega arith)))

pub sum-add : (N : ℕ → ℕ) (from a b : ℕ) → sum N from (a + b) ≡ sum N from a + sum N (from + a) b
sum-add N from zero b = rw (zero-add b, add-zero from) (omega arith)
sum-add N from (suc a) b =
    let e : suc a + b ≡ suc (a + b) = omega arith in
    let d : from + suc a ≡ suc from + a = omega arith in
    rw (e, d) (omega (arith, sum-add N (suc from) a b))

-- ---- a grid

-- n rows of k each
pub sum-grid : (N : ℕ → ℕ) (k i n : ℕ) → sum N (i * k) (n * k) ≡ sum (λ (e : ℕ). sum (λ (x : ℕ). N (e * k + x)) 0 k) i n
sum-grid N k i zero = rw (zero-mul k) refl
sum-grid N k i (suc n) =
    let e : suc n * k ≡ k + n * k = suc-mul n k ∙ add_comm (n * k) k in
    let d : suc i * k ≡ i * k + k = suc-mul i k in
    let row = sum_shifted N (i * k) 0 k in
    rw e (omega (arith, sum-add N (i * k) k (n * k), rw d at (sum-grid N k (suc i) n), rw (add-zero (i * k)) at row))

pub sum-swap : (G : ℕ → ℕ → ℕ) (a n b m : ℕ) → sum (λ (i : ℕ). sum (λ (j : ℕ). G i j) b m) a n ≡ sum (λ (j : ℕ). sum (λ (i : ℕ). G i j) a n) b m
sum-swap G a zero b m = sym (sum-nought (λ (j : ℕ). 0) b m (λ i p q. refl))
sum-swap G a (suc n) b m =
    omega (arith, sum-swap G (suc a) n b m, sum-plus (λ (j : ℕ). G a j) (λ (j : ℕ). sum (λ (i : ℕ). G i j) (suc a) n) b m)

-- ---- the places that count

-- N with nought at p
without : ℕ → (ℕ → ℕ) → ℕ → ℕ
without p N q = cond (eqb q p) 0 (N q)

without-here : (p : ℕ) (N : ℕ → ℕ) → without p N p ≡ 0
unfolding without
without-here p N = rw (eq-eqb p p refl) refl

without_other : (p : ℕ) (N : ℕ → ℕ) (q : ℕ) → (q ≡ p → ⊥) → without p N q ≡ N q
unfolding without
without_other p N q d = rw (ne_eqb q p d) refl

sum-without : (N : ℕ → ℕ) (p from n : ℕ) → from ≤ p → p < from + n → sum N from n ≡ N p + sum (without p N) from n
sum-without N p from zero l h = absurd (omega arith)
sum-without N p from (suc n) l h = elim (ℕ_discrete from p) [
  | yes e ↦
      let here : without p N from ≡ 0 = rw e (without-here p N) in
      omega (
        arith,
        ap N e,
        here,
        sum_alike N (without p N) (suc from) n (λ i a b. sym (without_other p N i (λ q. omega arith))),
      )
  | no d ↦ omega (arith, without_other p N from d, sum-without N p (suc from) n (omega arith) (omega arith))
]

without_more : (p : ℕ) (N : ℕ → ℕ) (q : ℕ) → 0 < without p N q → (q ≡ p → ⊥) × (0 < N q)
without_more p N q h = elim (ℕ_discrete q p) [
  | yes e ↦ absurd (omega (arith, without-here p N, rw e at h))
  | no d ↦ (d, omega (arith, without_other p N q d))
]

-- where two maps from numbers below n to places below m are one-to-one and apart, and reach every place that counts, the places sum up by the maps
pub sum-places : (m : ℕ) (at : Bool → ℕ → ℕ) (n : ℕ) (G : ℕ → ℕ) → ((t : Bool) (f : ℕ) → f < n → at t f < m)
    → ((t u : Bool) (e f : ℕ) → e < n → f < n → at t e ≡ at u f → (t ≡ u) × (e ≡ f))
    → ((p : ℕ) → p < m → 0 < G p → (t : Bool) × (f : ℕ) × (f < n) × (at t f ≡ p))
    → sum G 0 m ≡ sum (λ (f : ℕ). G (at true f) + G (at false f)) 0 n
sum-places m at zero G inside apart reached = sum-nought G 0 m (λ p a b. elim (ℕ_discrete (G p) 0) [
  | yes e ↦ e
  | no d ↦ absurd (omega (arith, (reached p (omega arith) (omega arith)).2))
])
sum-places m at (suc n) G inside apart reached =
    omega (
      arith,
      sum-without G (at true n) 0 m (omega arith) (omega (arith, inside true n (omega arith))),
      sum-without (without (at true n) G) (at false n) 0 m (omega arith) (omega (arith, inside false n (omega arith))),
      without_other (at true n) G (at false n) differ,
      sum-places m at n less (λ t f h. inside t f (omega arith)) (λ t u e f h k. apart t u e f (omega arith) (omega arith)) reaches,
      sum_alike (λ (f : ℕ). less (at true f) + less (at false f)) (λ (f : ℕ). G (at true f) + G (at false f)) 0 n
          (λ f a b. omega (arith, kept true f (omega arith), kept false f (omega arith))),
      rw (zero-add n) at (sum-last (λ (f : ℕ). G (at true f) + G (at false f)) 0 n),
    )
  where
    less : ℕ → ℕ
    less = without (at false n) (without (at true n) G)

    differ : at false n ≡ at true n → ⊥
    differ e =
        let b : ◌≡◌ {A = Bool} false true = (apart false true n n (omega arith) (omega arith) e).0 in
        let z : ◌≡◌ {A = ℕ} 0 1 = cc in
        omega arith

    earlier : (t u : Bool) (f : ℕ) → f < n → at t f ≡ at u n → ⊥
    earlier t u f h e = omega (arith, (apart t u f n (omega arith) (omega arith) e).1)

    kept : (t : Bool) (f : ℕ) → f < n → less (at t f) ≡ G (at t f)
    kept t f h =
        without_other (at false n) (without (at true n) G) (at t f) (earlier t false f h) ∙ without_other (at true n) G (at t f) (earlier t true f h)

    before : (t : Bool) (f p : ℕ) → f < suc n → at t f ≡ p → (p ≡ at true n → ⊥) → (p ≡ at false n → ⊥) → f < n
    before true f p h e c d = elim (ℕ_discrete f n) [ yes q ↦ absurd (c (sym e ∙ rw q refl)) | no q ↦ omega arith ]
    before false f p h e c d = elim (ℕ_discrete f n) [ yes q ↦ absurd (d (sym e ∙ rw q refl)) | no q ↦ omega arith ]

    reaches : (p : ℕ) → p < m → 0 < less p → (t : Bool) × (f : ℕ) × (f < n) × (at t f ≡ p)
    reaches p h c =
        let a = without_more (at false n) (without (at true n) G) p c in
        let b = without_more (at true n) G p a.1 in
        let r = reached p h b.1 in
        (r.0, r.1, before r.0 r.1 p r.2 r.3 b.0 a.0, r.3)
