-- The numbers that a layout fixes, and those that the size B of an image fixes.
use Rattle.std.specs.Prelude.{ℕ, ◌+◌, ◌*◌, ◌/◌, ◌^◌, cond, eqb}
use Rattle.std.proofs.Math.Option.{Option, none, some}

pub record Layout : Type 0 where
  pub minis : ℕ
  pub front_slots : ℕ
  pub back_slots : ℕ
  pub tag_bytes : ℕ

-- "each of the 36 mini-buckets", "Front: 28 slots", "Backyard: 22 slots", "tags, two bytes each"
abbrev pub layout1 : Layout
layout1 = record { minis = 36; front_slots = 28; back_slots = 22; tag_bytes = 2 }

-- layouts by their numbers; a number without one is that of no layout
abbrev pub Numbering : Type 0
Numbering = ℕ → Option Layout

-- the layouts that there are (C-14): "layout 1"; any other number "is unknown"
abbrev pub known : Numbering
known n = cond (eqb n 1) (some layout1) none

-- the most members behind a front bucket, and the most of a front bucket with those behind it
abbrev pub most_behind : Layout → ℕ
most_behind L = 2 * L.back_slots

abbrev pub most_members : Layout → ℕ
most_members L = L.front_slots + most_behind L

-- how many tags there are
abbrev pub tags : Layout → ℕ
tags L = 2 ^ (8 * L.tag_bytes)

-- how many keys m × tags + r there are
abbrev pub keys : Layout → ℕ
keys L = L.minis * tags L

-- the bytes of the word of a bucket of so many slots: a bit for each mini-bucket and slot
abbrev pub word_bytes : Layout → ℕ → ℕ
word_bytes L slots = (L.minis + slots + 7) / 8

-- "F = 8 × B front buckets come first, then B + 7 backyard buckets"
unfoldable pub fronts : ℕ → ℕ
fronts B = 8 * B

unfoldable pub backyards : ℕ → ℕ
backyards B = B + 7
