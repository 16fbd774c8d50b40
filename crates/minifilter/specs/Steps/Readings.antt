-- A bucket as the code's contracts speak of it: what the reader says, and a bucket that it found sound.
use Rattle.std.specs.Prelude.{◌≡◌, ℕ, ◌*◌, ◌≤◌, ◌<◌, Bool, true, false, List, length}
use Rattle.std.specs.Prelude as S
use Rattle.std.proofs.Math.Option.{Option, none, some}
use Rattle.multiset.specs.Multisets.{below}
use Rattle.crumbmap.specs.Layouts.{Layout, keys, backyards}
use Rattle.buckets.specs.Buckets.{front_members, back_members, front_list, back_list}
use Rattle.minifilter.specs.declared.Reading.{Reading}

-- "its member count, or unsound", and how many members are below x
abbrev pub reading_of : ℕ → Option (List ℕ) → S.Option Reading
reading_of x none = S.None
reading_of x (some xs) = S.Some (record { members = length xs; below = below x xs })

module _ (L : Layout) where
  -- 64 bytes that the reader found sound
  pub record SoundFront (b : List ℕ) : Type 0 where
    pub long : length b ≡ 64
    pub sound : front_members L b ≡ some (front_list L b)

  pub record SoundBack (b : List ℕ) : Type 0 where
    pub size : ℕ
    pub bucket : ℕ
    pub long : length b ≡ 64
    pub sound : back_members L size bucket b ≡ some (back_list L b)

  -- 64 bytes to be read as those of backyard bucket `bucket` of an image of size `size`, and a member that is sought in them
  pub record BackAsked (b : List ℕ) (size bucket member : ℕ) : Type 0 where
    pub long : length b ≡ 64
    pub image : size ≤ 65536
    pub inside : bucket < backyards size
    pub range : member < keys L * 16

-- the same of either kind of bucket, `crumbs` true of a backyard bucket, and its members
abbrev pub Sound : Layout → Bool → List ℕ → Type 0
Sound L false b = SoundFront L b
Sound L true b = SoundBack L b

abbrev pub members_of : Layout → Bool → List ℕ → List ℕ
members_of L false b = front_list L b
members_of L true b = back_list L b
