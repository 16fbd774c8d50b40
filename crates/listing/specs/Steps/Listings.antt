-- What listing the members of a front bucket asks and says: those in front with those behind it, and lists that are merged.
use Rattle.std.specs.Prelude.{◌≡◌, ℕ, ◌+◌, ◌-◌, ◌≤◌, cond, List, [], ◌++◌, length, take, drop, T, ltb}
use Rattle.std.specs.Prelude as S
use Rattle.multiset.specs.Multisets.{ascending}
use Rattle.crumbmap.specs.Layouts.{Layout}
use Rattle.crumbmap.specs.declared.Overflow.{Overflow}
use Rattle.buckets.specs.Buckets.{carrying}
use Rattle.machine.specs.Results.{refused}
use Rattle.machine.specs.Images.{in_front, in_back}
use Rattle.machine.specs.Bags.{added_all}
use Rattle.machine.specs.Machine.{overflow_in, members_at}
use Rattle.image.specs.Steps.ImageReads.{FrontIn, FrontRead, BothRead}
use Rattle.answers.specs.declared.UnsoundBucket.{UnsoundBucket}

module _ (L : Layout) where
  -- those of First(f) and Second(f) that count, "where Front holds 28"; and all members of f
  unfoldable pub behind_in : ℕ → ℕ → List ℕ → List ℕ
  behind_in B f img = cond (ltb (length (in_front L f img)) L.front_slots) [] (overflow_in L B f img)

  unfoldable pub members_in : ℕ → ℕ → List ℕ → List ℕ
  members_in B f img = added_all (in_front L f img) (behind_in B f img)

  -- the keys that carry a crumb in a backyard bucket, which is where a choice leads to
  abbrev pub bag_at : ℕ → Overflow → List ℕ → List ℕ
  bag_at B w img = carrying w.crumb (in_back L B w.bucket.0 img)

  -- both backyard buckets of front bucket f were read
  pub record BackyardRead (B f : ℕ) (img : List ℕ) : Type 0 where
    pub within : FrontIn B f img
    pub both : BothRead L B f img

  -- front bucket f was read, and b0 and b1 "where Front holds 28"
  pub record MembersRead (B f : ℕ) (img : List ℕ) : Type 0 where
    pub within : FrontIn B f img
    pub front : FrontRead L f img
    pub behind : length (in_front L f img) ≡ L.front_slots → BothRead L B f img

  -- what reading them says: how many members, or the refusal
  abbrev pub CountSays : ℕ → ℕ → List ℕ → S.Result ℕ UnsoundBucket → Type 0
  CountSays B f img (S.Ok n) = MembersRead B f img × (length (members_in B f img) ≡ n)
  CountSays B f img (S.Err i) = members_at L B f img ≡ refused 3 i.0

-- two ascending lists that fit `room` places together; merged into the start of `old`, which is `new` after it
abbrev pub Mergeable : List ℕ → List ℕ → ℕ → Type 0
Mergeable a b room = T (ascending a) × T (ascending b) × (length a + length b ≤ room)

abbrev pub Merged : List ℕ → List ℕ → List ℕ → List ℕ → Type 0
Merged a b old new = new ≡ added_all a b ++ drop (length a + length b) old

-- the keys of a list from one on, copied into `old` from `at` on, which is `new` after it
pub record Copied (keys : List ℕ) (from : ℕ) (old : List ℕ) (at : ℕ) (new : List ℕ) : Type 0 where
  pub stands : new ≡ (take at old ++ drop from keys) ++ drop (at + (length keys - from)) old

-- two ascending parts of a list, one behind the other: up to `from`, and from there to `end`; and the list with both as one
pub record Parts (keys : List ℕ) (from end : ℕ) : Type 0 where
  pub split : from ≤ end
  pub inside : end ≤ length keys
  pub first : T (ascending (take from keys))
  pub second : T (ascending (take (end - from) (drop from keys)))

abbrev pub joined : List ℕ → ℕ → ℕ → List ℕ
joined keys from end = added_all (take from keys) (take (end - from) (drop from keys)) ++ drop end keys
