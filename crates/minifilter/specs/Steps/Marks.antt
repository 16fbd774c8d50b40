-- Marks: one number that says of each slot whether something holds there, and the slots whose tag is above the next one's, or below it.
use Rattle.std.specs.Prelude.{◌≡◌, ℕ, zero, suc, ◌+◌, ◌*◌, ◌/◌, ◌%◌, ◌^◌, ◌≤◌, ◌<◌, Bool, true, false, cond, List, eqb, ltb}
use Rattle.crumbmap.specs.Layouts.{Layout}
use Rattle.minifilter.specs.Steps.Slots.{tag_at}

-- the marks of the n numbers from i on, the lowest first: 1 where f takes t
unfoldable pub marks_of : (ℕ → ℕ) → ℕ → ℕ → ℕ → ℕ
marks_of f t i zero = 0
marks_of f t i (suc n) = cond (eqb (f i) t) 1 0 + 2 * marks_of f t (suc i) n

-- R says of each of the first n numbers whether f takes t there
abbrev pub Tells : (ℕ → Bool → Type 0) → (ℕ → ℕ) → ℕ → ℕ → Type 0
Tells R f t n = (i : ℕ) (r : Bool) → i < n → R i r → r ≡ eqb (f i) t

-- 1 at a slot of a front bucket whose tag is above that of the next
unfoldable pub fall_at : Layout → List ℕ → ℕ → ℕ
fall_at L b i = cond (ltb (tag_at L false b (suc i)) (tag_at L false b i)) 1 0

-- 1 at a slot of a backyard bucket whose tag is below that of the next
unfoldable pub rise_at : Layout → List ℕ → ℕ → ℕ
rise_at L b i = cond (ltb (tag_at L true b i) (tag_at L true b (suc i))) 1 0

-- the tags of a backyard bucket's first n slots rise but where `bits` has a one, and the others are 0
pub record Rising (L : Layout) (bits n : ℕ) (b : List ℕ) : Type 0 where
  pub rise : (i : ℕ) → suc i < L.back_slots → i < n → tag_at L true b (suc i) ≤ tag_at L true b i → bits / 2 ^ i % 2 ≡ 1
  pub rest : (i : ℕ) → n ≤ i → i < L.back_slots → tag_at L true b i ≡ 0
