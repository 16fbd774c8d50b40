-- The occupancy page (C-12): "a printed page of 24 lines, 42 bytes each with its newline"; its widths follow from the front slots.
-- Bytes are ASCII: 10 a newline, 32 a blank, 35 a #, 46 a dot, 48 and on the digits.
use Rattle.std.specs.Prelude.{ℕ, zero, suc, ◌+◌, ◌*◌, ◌/◌, ◌%◌, ◌-◌, min, cond, List, [], ◌∷◌, ◌++◌, length, replicate, drop, leb, ltb}
use Rattle.crumbmap.specs.Layouts.{Layout, fronts}
use Rattle.machine.specs.Results.{Result, accepted, refused, and_then}
use Rattle.machine.specs.Images.{sized, front_at}
use Rattle.machine.specs.Machine.{backyard, overflow}

-- "24 lines"
abbrev pub page_lines : ℕ
page_lines = 24

-- a number in w columns, "right-aligned with blanks"
unfoldable pub aligned : ℕ → ℕ → List ℕ
aligned zero n = []
aligned (suc w) n =
    let before : List ℕ = aligned w (n / 10) in
    cond (ltb n 10) (replicate {A = ℕ} w 32) before ++ ((48 + n % 10) ∷ [])

-- the same with the blank column behind it
unfoldable pub column : ℕ → ℕ → List ℕ
column w n = aligned w n ++ (32 ∷ [])

module _ (L : Layout) where
  -- "42 bytes each with its newline": 13 columns, the bar, the newline
  abbrev pub line_bytes : ℕ
  line_bytes = 14 + L.front_slots

  -- "an output under 1,008 bytes" is too short
  abbrev pub page_bytes : ℕ
  page_bytes = page_lines * line_bytes

  -- "one # a front member, then dots"
  unfoldable pub bar : ℕ → List ℕ
  bar n = replicate {A = ℕ} n 35 ++ replicate {A = ℕ} (L.front_slots - n) 46

  -- "columns 1 to 6 hold the front bucket number and 8 to 9 its front members; 11 to 12 hold its overflow"; columns 7, 10 and 13 "are blank"
  unfoldable pub line : ℕ → ℕ → ℕ → List ℕ
  line f n over = column 6 f ++ (column 2 n ++ (column 2 over ++ (bar n ++ (10 ∷ []))))

  -- "lines past the last bucket are 41 blanks"
  unfoldable pub blank_line : List ℕ
  blank_line = replicate {A = ℕ} (13 + L.front_slots) 32 ++ (10 ∷ [])

  -- the line of front bucket f: "its overflow (0 where Front holds fewer than 28)"; b0 and b1 are read where it holds 28
  unfoldable pub line_at : ℕ → ℕ → List ℕ → Result (List ℕ)
  line_at B f img =
      and_then (front_at L f img) λ xs.
      cond (ltb (length xs) L.front_slots) (accepted (line f (length xs) 0))
      (and_then (backyard L B f img) λ b. accepted (line f (length xs) (length (overflow L B f b))))

  -- n lines from front bucket f on
  unfoldable pub lines_from : ℕ → ℕ → ℕ → List ℕ → Result (List ℕ)
  lines_from B zero f img = accepted []
  lines_from B (suc n) f img =
      and_then (cond (ltb f (fronts B)) (line_at B f img) (accepted blank_line)) λ l.
      and_then (lines_from B n (suc f) img) λ ls.
      accepted (l ++ ls)

  -- a page from front bucket f into an output with room for so many bytes: 3 in reading order, then 7
  unfoldable pub print_from : ℕ → ℕ → ℕ → List ℕ → Result (List ℕ)
  print_from B f room img =
      and_then (lines_from B page_lines f img) λ text.
      cond (ltb room page_bytes) (refused 7 0) (accepted text)

  -- "page p, from 0, starts at bucket 24 × p"; 1, then 6, "a page past the last"
  unfoldable pub occupancy_of : List ℕ → ℕ → ℕ → Result (List ℕ)
  occupancy_of img p room =
      and_then (sized img) λ B.
      cond (leb (fronts B) (page_lines * p)) (refused 6 0) (print_from B (page_lines * p) room img)

-- the output after it: the page, and what stands behind it is kept
abbrev pub printed : Result (List ℕ) → List ℕ → List ℕ
printed (accepted text) out = text ++ drop (length text) out
printed (refused n i) out = out

-- ---- the page that follows from how many members each front bucket has

-- the line of a front bucket with n members: the front slots' share of them in front, and the rest behind
abbrev pub line_with : Layout → ℕ → ℕ → List ℕ
line_with L f n = line L f (min n L.front_slots) (n - L.front_slots)

module _ (L : Layout) (count : ℕ → ℕ) (F : ℕ) where
  -- the line at f, of F front buckets
  unfoldable pub line_of : ℕ → List ℕ
  line_of f = cond (ltb f F) (line_with L f (count f)) (blank_line L)

  -- n lines from front bucket f on
  unfoldable pub lines_of : ℕ → ℕ → List ℕ
  lines_of zero f = []
  lines_of (suc n) f = line_of f ++ lines_of n (suc f)
