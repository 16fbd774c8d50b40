-- The lines that the small program prints, each with its newline.
use Rattle.std.specs.Prelude.{ℕ, List, [], ◌∷◌, ◌++◌}
use Rattle.std.specs.Prelude as S
use Rattle.std.proofs.Math.Option.{Option, none, some}
use Rattle.answers.specs.declared.pairs.Said.{Said}
use Rattle.text.specs.Texts.{hex}

-- digits that were read, or that one of the bytes is none
abbrev pub digits_of : Option ℕ → S.Option ℕ
digits_of none = S.None
digits_of (some v) = S.Some v

-- "a line of 16 digits", with its newline
unfoldable pub entry : ℕ → List ℕ
entry v = hex 16 v ++ (10 ∷ [])

-- "operation, answer number in two digits (00 accepted) and a 16-digit value"
unfoldable pub line : ℕ → ℕ → ℕ → List ℕ
line n answer v = hex 2 n ++ (hex 2 answer ++ entry v)

abbrev pub told : ℕ → Said → List ℕ
told n s = line n s.number s.value

-- `FF090000000000000000`
abbrev pub malformed : List ℕ
malformed = line 255 9 0

-- "a line of 16 digits for each g"
unfoldable pub entry_lines : List ℕ → List ℕ
entry_lines [] = []
entry_lines (g ∷ gs) = entry g ++ entry_lines gs
