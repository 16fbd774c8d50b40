-- Select: the place of the one bit of a rank. "A table gives the place of the one bit of each rank 0 to 7 in every byte value, 8 where none:
-- 2,048 entries".
use Rattle.std.specs.Prelude.{ℕ, zero, suc, ◌/◌, ◌%◌, List, [], ◌∷◌}

-- one place further on, in a word whose lowest bit is b: rank 0 stands here where b is one
abbrev pub above : ℕ → ℕ → (ℕ → ℕ) → ℕ
above zero r rest = suc (rest r)
above (suc b) zero rest = zero
above (suc b) (suc r) rest = suc (rest r)

-- the place of the one bit of rank r (from 0) among the d lowest bits of w, d where there is none
unfoldable pub select_in : ℕ → ℕ → ℕ → ℕ
select_in zero w r = zero
select_in (suc d) w r = above (w % 2) r (select_in d (w / 2))

-- f from, f (from + 1), .., n of them
abbrev pub listed : (ℕ → ℕ) → ℕ → ℕ → List ℕ
listed f from zero = []
listed f from (suc n) = f from ∷ listed f (suc from) n

-- the rule of the table: the entry of byte value w and rank r
abbrev pub select_byte : ℕ → ℕ → ℕ
select_byte w r = select_in 8 w r

-- the table: the entries of byte value 0, then those of 1, .., each by rank
unfoldable pub select_table : List ℕ
select_table = listed (λ (i : ℕ). select_byte (i / 8) (i % 8)) 0 2048
