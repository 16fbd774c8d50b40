-- The valid crumbs of backyard bucket j as bits, by choice. Main results: of choice 0 `first-none`, `first-all`, `first-but`; of choice 1 `second-lowest`.
use mathlib.Core.Path.{◌≡◌, sym, ◌∙◌}
use Prim.Native.Nat.{ℕ, ◌+◌, ◌*◌, ◌-◌, ◌/◌, ◌%◌, ◌^◌, ◌≤◌, ◌<◌}
use mathlib.Core.Bool.{true, false, not, ◌&&◌}
use native.Mathlib.Nat.{lt_of_lt_of_le}
use native.Mathlib.Omega.{arith}
use native.Mathlib.Decide.{ℕ_discrete}
use lib.Dec.{ltb, eqb}
use lib.Pow.{pow_mono, ones_lt}
use borrow.Author.Tests.{lt-ltb, le-ltb, eq-eqb, ne_eqb}
use Rattle.crumbmap.specs.CrumbMap.{stride, coincide, first_home, second_home}
use Rattle.crumbmap.specs.Steps.Marks.{Marks}
use Rattle.crumbmap.proofs.StrideLaws.{few-strides}
use Rattle.crumbmap.proofs.CoincideLaws.{coincide-met, coincide-missed}
use Rattle.crumbmap.proofs.MarkLaws.{marks-tested, lowest-in, all_but}

module _ (B j : ℕ) where
  abbrev front : ℕ → ℕ
  front d = 8 * j + d

  -- past the last b0
  pub first-none : B ≤ j → Marks 8 (first_home B j) 0
  unfolding first_home
  first-none h = marks-tested (λ (d : ℕ). false) front (λ d l. rw (le-ltb j B h)) (omega arith) (λ d l. lowest-in 0 d ∙ rw (le-ltb d 0 (omega arith)))

  -- where no front bucket has b0 = b1 = j
  pub first-all : j < B → (j % stride B ≡ j / 8 → ⊥) → Marks 8 (first_home B j) 255
  unfolding first_home
  first-all h n =
      marks-tested (λ (d : ℕ). true) front (λ d l. rw (lt-ltb j B h, coincide-missed B j d h l (λ r w. n r))) (omega arith)
      (λ d l. lowest-in 8 d ∙ rw (lt-ltb d 8 l))

  -- and where one has
  pub first-but : j < B → j % stride B ≡ j / 8 → Marks 8 (first_home B j) (255 - 2 ^ (j / stride B))
  unfolding first_home
  first-but h r =
      marks-tested (λ (d : ℕ). not (eqb d (j / stride B))) front (λ d l. rw (lt-ltb j B h, sym (which d l))) (omega arith)
      (λ d l. all_but 8 (j / stride B) d (few-strides B j h) l)
    where
      which : (d : ℕ) → d < 8 → eqb d (j / stride B) ≡ coincide B (front d)
      which d l = elim (ℕ_discrete d (j / stride B)) [
        | yes p ↦ eq-eqb d (j / stride B) p ∙ sym (coincide-met B j d h l r p)
        | no n ↦ ne_eqb d (j / stride B) n ∙ sym (coincide-missed B j d h l (λ _ w. n w))
      ]

  pub second-lowest : (n : ℕ) → n ≤ 8 → ((d : ℕ) → d < 8 → ltb (j / stride B) 8 && ltb (8 * (j % stride B) + d) B ≡ ltb d n)
      → Marks 8 (second_home B j) (2 ^ n - 1)
  unfolding second_home
  second-lowest n few same =
      marks-tested (λ (d : ℕ). ltb d n) (λ (d : ℕ). 64 * (j % stride B) + 8 * d + j / stride B) (λ d l. rw (same d l))
      (lt_of_lt_of_le (ones_lt n) (pow_mono few)) (λ d l. lowest-in n d)
