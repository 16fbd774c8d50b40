-- The valid crumbs of a backyard bucket as bits: bit c is 1 where crumb c leads back to a front bucket.
use Rattle.std.specs.Prelude.{◌≡◌, ℕ, ◌/◌, ◌%◌, ◌^◌, ◌<◌}
use Rattle.std.proofs.Math.Option.{Option, none, some}

abbrev pub bit_of : Option ℕ → ℕ
bit_of none = 0
bit_of (some f) = 1

-- the n lowest bits of a number of n bits say which of the digits 0 .. n - 1 have a home
pub record Marks (n : ℕ) (homes : ℕ → Option ℕ) (r : ℕ) : Type 0 where
  pub small : r < 2 ^ n
  pub bits : (d : ℕ) → d < n → r / 2 ^ d % 2 ≡ bit_of (homes d)
