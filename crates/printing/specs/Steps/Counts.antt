-- How many members each front bucket has, and the front buckets of a page that were read.
use Rattle.std.specs.Prelude.{ℕ, ◌+◌, ◌≤◌, ◌<◌, List, length}
use Rattle.crumbmap.specs.Layouts.{Layout, fronts}
use Rattle.listing.specs.Steps.Listings.{members_in, MembersRead}

module _ (L : Layout) (B : ℕ) (img : List ℕ) where
  -- the members of front bucket f, those behind it too
  unfoldable pub many_in : ℕ → ℕ
  many_in f = length (members_in L B f img)

  -- n front buckets from s on were read, as far as there are
  abbrev pub LinesRead : ℕ → ℕ → Type 0
  LinesRead n s = (f : ℕ) → s ≤ f → f < s + n → f < fronts B → MembersRead L B f img
