-- The bags First(f) and Second(f), `carrying` of f's crumb in its two backyard buckets, taken together.
use Rattle.std.specs.Prelude.{ℕ, Bool, not, ◌&&◌, ◌||◌, List, [], ◌∷◌, ltb}
use Rattle.multiset.specs.Multisets.{added, copies}

-- all of two bags together
unfoldable pub added_all : List ℕ → List ℕ → List ℕ
added_all [] ys = ys
added_all (x ∷ xs) ys = added x (added_all xs ys)

unfoldable pub has : ℕ → List ℕ → Bool
has x xs = ltb 0 (copies x xs)

-- "a value standing in both First and Second is taken from First if n0 > n1, else from Second"
unfoldable pub from_first : ℕ → List ℕ → List ℕ → ℕ → ℕ → Bool
from_first v first second n0 n1 = has v first && (not (has v second) || ltb n1 n0)
