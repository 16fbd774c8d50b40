-- What search finds in a sound bucket, at any layout, and the members that are asked for. `crumbs` is true of a backyard bucket.
use Rattle.std.specs.Prelude.{◌≡◌, ℕ, zero, suc, ◌+◌, ◌*◌, ◌-◌, ◌/◌, ◌%◌, ◌^◌, ◌<◌, ◌≤◌, Bool, true, false, cond, List, [], ◌∷◌, length, take, eqb}
use Rattle.std.specs.Prelude as S
use Rattle.std.proofs.Math.Option.{Option, none, some}
use Rattle.std.specs.Int.Bits.{bit_and}
use Rattle.multiset.specs.Multisets as M
use Rattle.multiset.specs.Multisets.{below, copies}
use Rattle.multiset.specs.Digits.{value}
use Rattle.crumbmap.specs.Layouts.{Layout, layout1, tags}
use Rattle.buckets.specs.Buckets.{carrying, back_list}
use Rattle.words.specs.Select.{select_in}
use Rattle.words.specs.Steps.Wide.{word_bytes1}
use Rattle.minifilter.specs.Steps.Readings.{Sound, members_of}
use Rattle.minifilter.specs.Steps.Slots.{span_of, low_at, crumb_at, tag_at}
use Rattle.minifilter.specs.Steps.Marks.{marks_of}
use Rattle.search.specs.declared.Carried.{Carried}
use Rattle.search.specs.declared.Cursor.{Cursor}
use Rattle.search.specs.declared.Found.{Found}

-- ---- where a member stands

module _ (L : Layout) (crumbs : Bool) where
  -- of a sound bucket's members, `slot` are below the one of mini-bucket m and low part v
  pub record RankOf (b : List ℕ) (slot m v : ℕ) : Type 0 where
    pub sound : Sound L crumbs b
    pub mini : m < L.minis
    pub low : v < span_of L crumbs
    pub rank : slot ≡ below (m * span_of L crumbs + v) (members_of L crumbs b)

  -- a sound bucket, and a member of mini-bucket m and low part v
  pub record Seekable (b : List ℕ) (m v : ℕ) : Type 0 where
    pub sound : Sound L crumbs b
    pub mini : m < L.minis
    pub low : v < span_of L crumbs

  -- r is the first of the slots `from`, .., `past` − 1 that holds `low` or more, `past` where none does
  pub record Scanned (b : List ℕ) (from past low r : ℕ) : Type 0 where
    pub start : from ≤ r
    pub stop : r ≤ past
    pub smaller : (i : ℕ) → from ≤ i → i < r → low_at L crumbs b i < low
    pub here : r < past → low ≤ low_at L crumbs b r

-- the marks of a list of halves, the lowest first: 1 where a half is c, at its lowest bit
unfoldable pub half_marks : ℕ → List ℕ → ℕ
half_marks c [] = 0
half_marks c (h ∷ hs) = cond (eqb h c) 1 0 + 16 * half_marks c hs

-- a key of mini-bucket m and tag t stands in a front bucket, from `slot` on
pub record Standing (L : Layout) (b : List ℕ) (slot m t : ℕ) : Type 0 where
  pub rank : RankOf L false b slot m t
  pub there : 0 < copies (m * tags L + t) (members_of L false b)

-- the same, and the marks of the slots from there on that hold t
pub record Marked (L : Layout) (b : List ℕ) (slot m t marks : ℕ) : Type 0 where
  pub standing : Standing L b slot m t
  pub marks-are : marks ≡ marks_of (tag_at L false b) t slot (L.front_slots - slot)

-- `slot` is the lowest of key x in a front bucket, and `marks` without those up to the slot's own are of the slots from there on that hold its tag
pub record Lowest (L : Layout) (b : List ℕ) (x marks slot : ℕ) : Type 0 where
  pub rank : slot ≡ below x (members_of L false b)
  pub there : 0 < copies x (members_of L false b)
  pub rest : marks / 2 ^ (slot + 1) ≡ marks_of (tag_at L false b) (x % tags L) slot (L.front_slots - slot)

-- what a search gives, and the copies that it found
abbrev pub search_of : Option M.Found → S.Option Found
search_of none = S.None
search_of (some s) = S.Some (record { slot = s.slot; copies = s.copies })

abbrev pub many_in : S.Option Found → ℕ
many_in S.None = 0
many_in (S.Some s) = s.copies

-- the slot that was found, n where none was
abbrev pub slot_else : ℕ → Option M.Found → ℕ
slot_else n none = n
slot_else n (some s) = s.slot

-- layout 1: the place of the one that ends the mini-bucket before m, of mini-bucket 0's own where there is none before it
abbrev pub end_of1 : List ℕ → ℕ → ℕ
end_of1 b m = select_in 64 (value 256 (take word_bytes1 b)) (m - 1)

-- ---- the members asked for: all of a front bucket, in the backyard those that carry a crumb

-- whether a slot is among them
abbrev pub wanted_at : Layout → Bool → ℕ → List ℕ → ℕ → Bool
wanted_at L false crumb b i = true
wanted_at L true crumb b i = eqb (crumb_at L b i) crumb

-- their keys
abbrev pub chosen : Bool → ℕ → List ℕ → List ℕ
chosen false crumb xs = xs
chosen true crumb ys = carrying crumb ys

-- the head of the keys that carry crumb c among members ys, and how many members are below it
abbrev pub first_of : ℕ → List ℕ → List ℕ → S.Option Carried
first_of c ys [] = S.None
first_of c ys (x ∷ xs) = S.Some (record { key = x; slot = below (x * 16 + c) ys })

-- ---- the members one by one

-- z without its n lowest ones
unfoldable pub without : ℕ → ℕ → ℕ
without zero z = z
without (suc n) z = let rest = without n z in bit_and rest (rest - 1)

-- layout 1: a place among the members of a backyard bucket, or behind the last
abbrev pub OnSlot : List ℕ → Cursor → Type 0
OnSlot b c = (c.slot ≤ length (back_list layout1 b)) × (c.zeros ≡ without c.slot (2 ^ 64 - 1 - value 256 (take word_bytes1 b)))
