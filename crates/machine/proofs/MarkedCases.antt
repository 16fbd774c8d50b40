-- The cases that document 01 marks (P), as one table: what the definitions compute beside what the document says.
use mathlib.Core.Path.{◌≡◌, refl}
use Prim.Native.Nat.{ℕ, ◌+◌, ◌*◌, ◌-◌, ◌^◌}
use mathlib.Core.List.{List, [], ◌∷◌, map}
use mathlib.Core.Option.{Option, none, some}
use Rattle.multiset.specs.Multisets.{copies}
use Rattle.crumbmap.specs.Layouts.{layout1, fronts}
use Rattle.crumbmap.specs.Fingerprints.{front_of, mini_of, tag_of, key_of, fingerprint}
use Rattle.crumbmap.specs.CrumbMap.{stride, first_bucket, first_crumb, second_bucket, second_crumb, coincide, first_home, second_home, home}
use Rattle.buckets.specs.Words.{word_from}

-- (f, m, r) of hash k
parts : ℕ → ℕ → List ℕ
parts B k = front_of B k ∷ mini_of layout1 k ∷ tag_of layout1 k ∷ []

-- g of hash k
number : ℕ → ℕ → List ℕ
number B k = fingerprint layout1 (front_of B k) (key_of layout1 k) ∷ []

-- b0, b1 and the digits of f
mapped : ℕ → ℕ → List ℕ
mapped B f = first_bucket f ∷ second_bucket B f ∷ first_crumb f ∷ (second_crumb f - 8) ∷ []

-- back from bucket j, by choice and digit; nothing where invalid
back : ℕ → ℕ → ℕ → ℕ → List ℕ
back B j choice digit = found (home B j (8 * choice + digit))
  where
    found : Option ℕ → List ℕ
    found none = []
    found (some f) = f ∷ []

-- the word of one member in mini-bucket m
word : ℕ → List ℕ
word m = word_from 36 0 (m ∷ []) ∷ []

pub table : List (List ℕ × List ℕ)
table =
    (parts 3 0, 0 ∷ 0 ∷ 0 ∷ [])
    ∷ (parts 3 (2 ^ 64 - 1), 23 ∷ 35 ∷ 65535 ∷ [])
    ∷ (parts 3 0x8000000040000007, 12 ∷ 9 ∷ 7 ∷ [])
    ∷ (number 3 0x8000000040000007, 28901383 ∷ [])
    ∷ (mapped 3 13, 1 ∷ 5 ∷ 5 ∷ 1 ∷ [])
    ∷ (mapped 8 63, 7 ∷ 14 ∷ 7 ∷ 7 ∷ [])
    ∷ (mapped 20 159, 19 ∷ 23 ∷ 7 ∷ 3 ∷ [])
    ∷ (mapped 20 100, 12 ∷ 13 ∷ 4 ∷ 4 ∷ [])
    ∷ (back 20 13 1 4, 100 ∷ [])
    ∷ (back 20 13 0 3, 107 ∷ [])
    ∷ (back 3 8 1 0, [])
    ∷ (word 0, (2 ^ 37 - 2) ∷ [])
    ∷ (word 35, (2 ^ 36 + 2 ^ 35 - 1) ∷ [])
    ∷ []

pub marked-cases : map (λ (row : List ℕ × List ℕ). row.0) table ≡ map (λ (row : List ℕ × List ℕ). row.1) table
unfolding table parts number mapped back word copies fronts front_of mini_of tag_of key_of fingerprint stride first_bucket first_crumb second_bucket second_crumb coincide first_home second_home home word_from
marked-cases = refl
