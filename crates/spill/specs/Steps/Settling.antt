-- Two lists of keys that share a front bucket, as the code's answer gives it; a key that can go behind a front bucket; and a target that took all
-- keys or was full on the way.
use Rattle.std.specs.Prelude.{◌≡◌, ℕ, ◌+◌, ◌≤◌, ◌<◌, Bool, true, false, List, length, take, T}
use Rattle.multiset.specs.Multisets.{ascending, Below}
use Rattle.crumbmap.specs.Layouts.{Layout, keys, most_members}
use Rattle.crumbmap.specs.declared.Overflow.{Overflow}
use Rattle.buckets.specs.Buckets.{FrontList}
use Rattle.machine.specs.Results.{Result, accepted, refused}
use Rattle.machine.specs.Images.{in_back}
use Rattle.machine.specs.Bags.{added_all}
use Rattle.machine.specs.Steps.Spills.{stays, goes}
use Rattle.image.specs.Steps.ImageReads.{BackRead}
use Rattle.spill.specs.declared.Split.{Split}

module _ (L : Layout) where
  -- keys that a front bucket and the backyard buckets behind it can have together
  pub record KeyList (xs : List ℕ) : Type 0 where
    pub order : T (ascending xs)
    pub range : Below (keys L) xs
    pub room : length xs ≤ most_members L

  -- keys b can be put in after a front list a, and `over` has room for all that may leave
  pub record Sharing (a b over : List ℕ) : Type 0 where
    pub front : FrontList L a
    pub after : KeyList b
    pub spare : length over ≡ most_members L

  -- of a front list a and keys b put in after it: the first `kept` of a and the first `taken` of b stay, and the first `gone` of `over` are
  -- those that leave
  pub record Settled (a b : List ℕ) (r : Split) (over : List ℕ) : Type 0 where
    pub kept : r.kept ≤ length a
    pub taken : r.taken ≤ length b
    pub room : r.kept + r.taken ≤ L.front_slots
    pub gone : r.gone ≤ most_members L
    pub front : added_all (take r.kept a) (take r.taken b) ≡ stays L.front_slots b a
    pub leaves : take r.gone over ≡ goes L.front_slots b a

  -- key x can join the backyard bucket that w names, which was read and has a slot left, with the crumb of w
  pub record Joinable (B : ℕ) (w : Overflow) (x : ℕ) (img : List ℕ) : Type 0 where
    pub read : BackRead L B w.bucket.0 img
    pub room : length (in_back L B w.bucket.0 img) < L.back_slots
    pub crumb : w.crumb < 16
    pub key : x < keys L

-- a target that took all, with its bytes, or was full on the way
abbrev pub reached : Bool → List ℕ → Result (List ℕ)
reached true img = accepted img
reached false img = refused 4 0
