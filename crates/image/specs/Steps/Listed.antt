-- A list written into a lent slice.
use Rattle.std.specs.Prelude.{◌≡◌, ℕ, List, ◌++◌, length, drop}

-- a list written into the start of `old`: how many, and what stands after it
pub record Listed (xs old : List ℕ) (n : ℕ) (new : List ℕ) : Type 0 where
  pub many : n ≡ length xs
  pub stands : new ≡ xs ++ drop n old
