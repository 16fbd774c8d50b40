-- What the passes of a merge ask and say: images that check accepts, a front bucket that is to be merged, and what its merge comes to.
use Rattle.std.specs.Prelude.{◌≡◌, ℕ, ◌<◌, List, [], length}
use Rattle.crumbmap.specs.Layouts.{Layout, fronts, most_members}
use Rattle.machine.specs.Results.{Result, accepted, and_then}
use Rattle.machine.specs.Images.{in_front}
use Rattle.machine.specs.Checks.{check_sized}
use Rattle.machine.specs.Merges.{insert_all}
use Rattle.image.specs.Steps.ImageReads.{Whole}
use Rattle.listing.specs.Steps.Listings.{members_in}
use Rattle.spill.specs.Steps.Settling.{KeyList}

module _ (L : Layout) where
  -- an image that check accepts
  pub record Checked (B : ℕ) (img : List ℕ) : Type 0 where
    pub size : Whole B img
    pub passed : check_sized L B img ≡ accepted tt

  -- two images that check accepts
  pub record Sources (B : ℕ) (a b : List ℕ) : Type 0 where
    pub first : Checked B a
    pub second : Checked B b

  -- front bucket f of a checked target is empty
  pub record Vacant (B f : ℕ) (target : List ℕ) : Type 0 where
    pub checked : Checked B target
    pub front : f < fronts B
    pub empty : in_front L f target ≡ []

  -- it can take the members of front bucket f of two checked images
  pub record Merging (B f : ℕ) (a b target : List ℕ) : Type 0 where
    pub from : Sources B a b
    pub into : Vacant B f target

  -- it can take two lists of keys
  pub record Joining (B f : ℕ) (xs ys target : List ℕ) : Type 0 where
    pub first : KeyList L xs
    pub second : KeyList L ys
    pub into : Vacant B f target

  -- three lists to work in, each with room for a front bucket's members
  pub record Scratch (a b over : List ℕ) : Type 0 where
    pub first : length a ≡ most_members L
    pub second : length b ≡ most_members L
    pub leaving : length over ≡ most_members L

  -- the keys of one list and then those of another put into front bucket f
  unfoldable pub joined : ℕ → ℕ → List ℕ → List ℕ → List ℕ → Result (List ℕ)
  joined B f xs ys img = and_then (insert_all L B f xs img) (insert_all L B f ys)

  -- front bucket f of a merge: the members of a, then those of b
  abbrev pub both_inserted : ℕ → ℕ → List ℕ → List ℕ → List ℕ → Result (List ℕ)
  both_inserted B f a b img = joined B f (members_in L B f a) (members_in L B f b) img
