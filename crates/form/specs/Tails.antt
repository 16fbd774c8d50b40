-- The tail of an image (C-14): 64 bytes behind the body, with the member total, the change count and the number of the layout.
use Rattle.std.specs.Prelude.{ℕ, ◌+◌, ◌*◌, ◌-◌, cond, ◌&&◌, List, [], ◌∷◌, ◌++◌, length, take, drop, get_or, leb, ltb, eqb}
use Rattle.std.proofs.Math.Option.{Option, none, some}
use Rattle.multiset.specs.Multisets.{all_zero, sum}
use Rattle.multiset.specs.Digits.{digits, value, padded}
use Rattle.crumbmap.specs.Layouts.{Layout, Numbering, fronts, backyards}
use Rattle.machine.specs.Results.{Result, accepted, refused, and_then}
use Rattle.machine.specs.Images.{sized, front_at, back_at}
use Rattle.machine.specs.Machine.{occupancy}

-- "the new form is 64 bytes longer": the body, an image of document 01, and the tail
unfoldable pub body : List ℕ → List ℕ
body img = take (length img - 64) img

unfoldable pub rest : List ℕ → List ℕ
rest img = drop (length img - 64) img

-- what a tail tells: "the total" and "a change count"
pub record Tail : Type 0 where
  pub total : ℕ
  pub changes : ℕ

-- "its tail holds the total (bytes 0 to 7) and a change count (8 to 15), both little-endian"
unfoldable pub tail_in : List ℕ → Tail
tail_in b = record { total = value 256 (take 8 b); changes = value 256 (take 8 (drop 8 b)) }

-- ".. and layout 1 (byte 16); the rest is 0": the bytes of a tail, by the layout's number
unfoldable pub tail_bytes : ℕ → Tail → List ℕ
tail_bytes number t = padded 64 (digits 256 8 t.total ++ (digits 256 8 t.changes ++ (number ∷ [])))

-- the layout's number, as an image has it
unfoldable pub mark_of : List ℕ → ℕ
mark_of img = get_or (rest img) 16 0

-- "fresh and merge start the change count at 0"
abbrev pub started : ℕ → Tail
started n = record { total = n; changes = 0 }

-- "the top change count 2^64 − 1"
abbrev pub top : ℕ
top = 18446744073709551615

module _ (L : Layout) where
  -- "the image's slots, front and backyard together"
  unfoldable pub slots : ℕ → ℕ
  slots B = fronts B * L.front_slots + backyards B * L.back_slots

  -- "the members": those of all buckets of a body
  unfoldable pub members : ℕ → List ℕ → ℕ
  members B b = sum (λ (f : ℕ). occupancy (front_at L f b)) 0 (fronts B) + sum (λ (j : ℕ). occupancy (back_at L B j b)) 0 (backyards B)

  -- an insert's tail: "each accepted insert and delete adjusts the total and adds 1 to the change count"; one that "would take the total below 0 or
  -- above the slots gets 12"
  unfoldable pub raised : ℕ → Tail → Result Tail
  raised B t = cond (ltb t.total (slots B)) (accepted (record { total = t.total + 1; changes = t.changes + 1 })) (refused 12 0)

-- a delete's, by the same sentences
unfoldable pub lowered : Tail → Result Tail
lowered t = cond (eqb t.total 0) (refused 12 0) (accepted (record { total = t.total - 1; changes = t.changes + 1 }))

-- what an image tells of itself: its size B, its layout with the number that marks it, and what its tail tells
pub record Header : Type 0 where
  pub size : ℕ
  pub number : ℕ
  pub layout : Layout
  pub tail : Tail

-- "a tail is bad if its layout is unknown, a rest byte is not 0, or its total exceeds the image's slots"; "a bad tail gets 11"
abbrev pub header_by : Option Layout → ℕ → List ℕ → Result Header
header_by none B img = refused 11 0
header_by (some L) B img =
    cond (all_zero (drop 17 (rest img)) && leb (tail_in (rest img)).total (slots L B))
    (accepted (record { size = B; number = mark_of img; layout = L; tail = tail_in (rest img) }))
    (refused 11 0)

module _ (layouts : Numbering) where
  -- an image of size B, by its tail
  unfoldable pub headed : ℕ → List ℕ → Result Header
  headed B img = header_by (layouts (mark_of img)) B img

  -- an image that is to be read: 1, then 11
  unfoldable pub opened : List ℕ → Result Header
  opened img = and_then (sized (body img)) λ B. headed B img
