-- For which sizes B and front buckets f the two backyard buckets coincide. Main results: `coincide-where`, by the bucket b0 that f's digit leads to;
-- `coincide-met`, `coincide-missed`, from a backyard bucket back; `small-sizes`, a table.
use mathlib.Core.Path.{◌≡◌, refl, sym, ap, ◌∙◌}
use mathlib.Core.Logic.{◌↔◌, ◌⊎◌, inl, inr, ⊎_elim}
use Prim.Native.Nat.{ℕ, zero, suc, ◌+◌, ◌*◌, ◌/◌, ◌%◌, ◌<◌}
use mathlib.Core.Bool.{true, false, cond}
use mathlib.Core.List.{List, [], ◌∷◌, map}
use native.Mathlib.Nat.{mod-add-div'}
use native.Mathlib.Omega.{arith}
use native.Mathlib.Decide.{ℕ_discrete}
use borrow.Author.Tests.{eq-eqb, ne_eqb, eqb-true}
use Rattle.crumbmap.specs.Layouts.{fronts}
use Rattle.crumbmap.specs.CrumbMap.{stride, first_bucket, first_crumb, second_bucket, coincide}
use Rattle.crumbmap.proofs.StrideLaws.{second-quotient, second-remainder}

-- with n = d0 × K, which b1 is floor(b0 / 8) more than: b0 is n + floor(n / 7), or one less where 7 divides n, above nought
abbrev pub Coincides : ℕ → ℕ → Type 0
Coincides n b = (b ≡ n + n / 7) ⊎ ((0 < n) × (n % 7 ≡ 0) × (b + 1 ≡ n + n / 7))

pub coincide-where : (B f : ℕ) → (coincide B f ≡ true) ↔ Coincides (first_crumb f * stride B) (first_bucket f)
unfolding coincide second_bucket
coincide-where B f = (λ e. there (eqb-true b (b / 8 + n) e), λ c. eq-eqb b (b / 8 + n) (back c))
  where
    b : ℕ
    b = first_bucket f

    n : ℕ
    n = first_crumb f * stride B

    there : b ≡ b / 8 + n → Coincides n b
    there e = elim (ℕ_discrete b (n + n / 7)) [ yes p ↦ inl p | no m ↦ inr (omega arith, omega arith, omega arith) ]

    back : Coincides n b → b ≡ b / 8 + n
    back c = ⊎_elim (λ p. omega arith) (λ p. omega (arith, p.0, p.1, p.2)) c

-- in backyard bucket j there is one such front bucket at most, by the whole strides and the rest of j
module _ (B j d : ℕ) (h : j < B) where
  buckets : d < 8 → (first_bucket (8 * j + d) ≡ j) × (second_bucket B (8 * j + d) ≡ j / 8 + d * stride B)
  unfolding first_bucket first_crumb second_bucket
  buckets l =
      let b : (8 * j + d) / 8 ≡ j = omega arith in
      let r : (8 * j + d) % 8 ≡ d = omega arith in
      (b, rw (b, r))

  pub coincide-met : d < 8 → j % stride B ≡ j / 8 → d ≡ j / stride B → coincide B (8 * j + d) ≡ true
  unfolding coincide
  coincide-met l r w =
      let p = buckets l in
      let whole : j / 8 + d * stride B ≡ j = rw (← r, w) (mod-add-div' j (stride B)) in
      rw (p.0, p.1, whole) (eq-eqb j j refl)

  pub coincide-missed : d < 8 → (j % stride B ≡ j / 8 → d ≡ j / stride B → ⊥) → coincide B (8 * j + d) ≡ false
  unfolding coincide stride
  coincide-missed l n =
      let p = buckets l in
      rw (p.0, p.1) (ne_eqb j (j / 8 + d * stride B) λ e. n (rest e) (whole e))
    where
      short : j / 8 < stride B
      short = omega arith

      rest : j ≡ j / 8 + d * stride B → j % stride B ≡ j / 8
      rest e = ap (λ (n : ℕ). n % stride B) e ∙ second-remainder (stride B) (j / 8) d short

      whole : j ≡ j / 8 + d * stride B → d ≡ j / stride B
      whole e = sym (ap (λ (n : ℕ). n / stride B) e ∙ second-quotient (stride B) (j / 8) d short)

-- ---- small sizes

-- of n front buckets from f on, those whose two backyard buckets coincide
pub found : ℕ → ℕ → ℕ → List ℕ
found B zero f = []
found B (suc n) f = let rest : List ℕ = found B n (suc f) in cond (coincide B f) (f ∷ rest) rest

-- sizes, each with its front buckets; where 7 divides K, most digits have two
pub table : List (ℕ × List ℕ)
table =
    (1, 0 ∷ [])
    ∷ (2, 0 ∷ 9 ∷ [])
    ∷ (3, 0 ∷ 9 ∷ 18 ∷ [])
    ∷ (4, 0 ∷ 9 ∷ 18 ∷ 27 ∷ [])
    ∷ (7, 0 ∷ 9 ∷ 18 ∷ 27 ∷ 36 ∷ 45 ∷ 54 ∷ [])
    ∷ (8, 0 ∷ 17 ∷ 34 ∷ 51 ∷ [])
    ∷ (9, 0 ∷ 17 ∷ 34 ∷ 51 ∷ [])
    ∷ (10, 0 ∷ 17 ∷ 34 ∷ 51 ∷ 76 ∷ [])
    ∷ (20, 0 ∷ 25 ∷ 50 ∷ 83 ∷ 108 ∷ 141 ∷ [])
    ∷ (48, 0 ∷ 57 ∷ 65 ∷ 122 ∷ 130 ∷ 187 ∷ 195 ∷ 252 ∷ 260 ∷ 317 ∷ 325 ∷ 382 ∷ [])
    ∷ []

pub small-sizes : map (λ (row : ℕ × List ℕ). found row.0 (fronts row.0) 0) table ≡ map (λ (row : ℕ × List ℕ). row.1) table
unfolding table found coincide fronts stride first_bucket first_crumb second_bucket
small-sizes = refl
