-- A word's zeros, and which of them stand right below a one.
use Rattle.std.specs.Prelude.{ℕ, zero, suc, ◌+◌, ◌-◌, ◌*◌, ◌/◌, ◌%◌, ◌^◌}

-- the zeros among the d lowest bits of w
unfoldable pub zeros_in : ℕ → ℕ → ℕ
zeros_in zero w = 0
zeros_in (suc d) w = (1 - w % 2) + zeros_in d (w / 2)

-- one bit further up, where the bit at hand is b and the one above it `next`: a zero gives a bit below the rest, a one gives none
abbrev pub ends_by : ℕ → ℕ → ℕ → ℕ
ends_by zero next rest = next + 2 * rest
ends_by (suc b) next rest = rest

-- a bit for each of the zeros among the d lowest bits of w, the lowest first: 1 where the bit above it is one
unfoldable pub ends_in : ℕ → ℕ → ℕ
ends_in zero w = 0
ends_in (suc d) w = ends_by (w % 2) (w / 2 % 2) (ends_in d (w / 2))

-- these bits below a leading one
abbrev pub borders_in : ℕ → ℕ → ℕ
borders_in d w = 2 ^ zeros_in d w + ends_in d w
