-- Select's way to a byte: the ones of each byte, those below it, and a step past bytes.
use Rattle.std.specs.Prelude.{◌≡◌, ◌⊎◌, ℕ, zero, suc, ◌+◌, ◌*◌, ◌/◌, ◌%◌, ◌^◌, ◌≤◌, ◌<◌}
use Rattle.std.specs.Int.Count.{ones_in}

-- f of each of the n lowest bytes of w, in that byte
abbrev pub bytewise : (ℕ → ℕ) → ℕ → ℕ → ℕ
bytewise f zero w = 0
bytewise f (suc n) w = f (w % 256) + 256 * bytewise f n (w / 256)

-- byte j of s is the number of ones of w below its byte j
abbrev pub Sums : ℕ → ℕ → Type 0
Sums w s = (j : ℕ) → j < 8 → s / 2 ^ (8 * j) % 256 ≡ ones_in (8 * j) w

-- a step of `width` bits is taken where the rank is at least `sum`
abbrev pub Stepped : ℕ → ℕ → ℕ → ℕ → ℕ → Type 0
Stepped sum rank place width r = ((sum ≤ rank) × (r ≡ place + width)) ⊎ ((rank < sum) × (r ≡ place))

-- the rank stands in the `span` bits from `place` on, or behind the last
pub record Near (w rank place span : ℕ) : Type 0 where
  pub whole : place % 8 ≡ 0
  pub room : place + span ≤ 64
  pub passed : ones_in place w ≤ rank
  pub ahead : place + span < 64 → rank < ones_in (place + span) w
