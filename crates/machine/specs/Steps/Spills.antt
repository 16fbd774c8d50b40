-- What a front bucket keeps, and what leaves it for the backyard, when keys are put in one after the other.
use Rattle.std.specs.Prelude.{ℕ, cond, List, [], ◌∷◌, length, ltb}
use Rattle.multiset.specs.Multisets.{added, removed, largest}
use Rattle.crumbmap.specs.Layouts.{Layout}
use Rattle.machine.specs.Results.{Result, accepted, and_then}
use Rattle.machine.specs.Machine.{Change, backyard, take_in}

-- the front list ws of n slots after keys were put in, one after the other
unfoldable pub stays : ℕ → List ℕ → List ℕ → List ℕ
stays n [] ws = ws
stays n (x ∷ xs) ws = cond (ltb (length ws) n) (stays n xs (added x ws)) (stays n xs (removed (largest (added x ws)) (added x ws)))

-- those that left it, in that order
unfoldable pub goes : ℕ → List ℕ → List ℕ → List ℕ
goes n [] ws = []
goes n (x ∷ xs) ws =
    cond (ltb (length ws) n) (goes n xs (added x ws)) (largest (added x ws) ∷ goes n xs (removed (largest (added x ws)) (added x ws)))

module _ (L : Layout) (B f : ℕ) where
  -- x goes behind front bucket f
  unfoldable pub push_at : ℕ → List ℕ → Result Change
  push_at x img = and_then (backyard L B f img) λ b. take_in L B f x b img

  -- keys go behind it one after the other, up to the first refusal
  unfoldable pub push_all : List ℕ → List ℕ → Result (List ℕ)
  push_all [] img = accepted img
  push_all (x ∷ xs) img = and_then (push_at x img) (λ c. push_all xs c.image)
