-- Merge: "the target becomes fresh, then for f = 0 up inserts the first's members of f ascending, then the second's".
use Rattle.std.specs.Prelude.{ℕ, zero, suc, List, [], ◌∷◌}
use Rattle.crumbmap.specs.Layouts.{Layout, fronts}
use Rattle.machine.specs.Results.{Result, accepted, and_then}
use Rattle.machine.specs.Images.{empty_image}
use Rattle.machine.specs.Machine.{insert_at, members_at}
use Rattle.machine.specs.Checks.{check_sized}

module _ (L : Layout) where
  -- inserts keys of front bucket f one after the other, up to the first refusal
  unfoldable pub insert_all : ℕ → ℕ → List ℕ → List ℕ → Result (List ℕ)
  insert_all B f [] img = accepted img
  insert_all B f (x ∷ xs) img = and_then (insert_at L B f x img) (λ c. insert_all B f xs c.image)

  -- front buckets f, f + 1, .., n of them: the members of a, then those of b
  unfoldable pub merge_from : ℕ → ℕ → ℕ → List ℕ → List ℕ → List ℕ → Result (List ℕ)
  merge_from B zero f a b img = accepted img
  merge_from B (suc n) f a b img =
      and_then (members_at L B f a) λ xs.
      and_then (members_at L B f b) λ ys.
      and_then (insert_all B f xs img) λ i.
      and_then (insert_all B f ys i) λ j.
      merge_from B n (suc f) a b j

  -- "merge checks the first source whole, then the second, before it writes"
  unfoldable pub merge_sized : ℕ → List ℕ → List ℕ → Result (List ℕ)
  merge_sized B a b =
      and_then (check_sized L B a) λ _.
      and_then (check_sized L B b) λ _.
      merge_from B (fronts B) 0 a b (empty_image L B)
