-- A stretch of bytes or halves that something is put into or taken out of.
use Rattle.std.specs.Prelude.{ℕ, ◌+◌, List, [], ◌∷◌, ◌++◌, length, take, drop, replicate}
use Rattle.multiset.specs.Digits.{spread, grouped}

-- ---- lists

-- a list with vs put in at a place, and with n of its members taken out there, where zeros follow
abbrev pub inserted : ℕ → List ℕ → List ℕ → List ℕ
inserted at vs l = take at l ++ (vs ++ drop at l)

abbrev pub taken_out : ℕ → ℕ → List ℕ → List ℕ
taken_out at n l = take at l ++ (drop (at + n) l ++ replicate n 0)

-- the first n members of one list, and those behind them of another
abbrev pub mixed : ℕ → List ℕ → List ℕ → List ℕ
mixed n xs ys = take n xs ++ drop n ys

-- ---- crumbs

-- bytes of two halves each, with a half put in at a slot, the last falling off, and with the one there taken out
unfoldable pub crumb_inserted : ℕ → ℕ → List ℕ → List ℕ
crumb_inserted slot crumb s = grouped 16 2 (length s) (inserted slot (crumb ∷ []) (spread 16 2 s))

unfoldable pub crumb_removed : ℕ → List ℕ → List ℕ
crumb_removed slot s = grouped 16 2 (length s) (taken_out slot 1 (spread 16 2 s))
