-- A row of asks (C-11): "each entry gets what a lone ask would give. Neighbours with the same front bucket share their reads, and the total
-- returned is the sum, over such groups, of the greatest lone count in the group".
use Rattle.std.specs.Prelude.{ℕ, ◌+◌, max, Bool, true, false, cond, List, [], ◌∷◌, map, ltb, eqb}
use Rattle.crumbmap.specs.Layouts.{Layout}
use Rattle.crumbmap.specs.Fingerprints.{front_of}
use Rattle.machine.specs.Results.{Result, accepted, refused, and_then}
use Rattle.machine.specs.Images.{sized}
use Rattle.machine.specs.Machine.{Asked}
use Rattle.machine.specs.Calls.{ask_of}

-- a row's answers, an entry each, and the total of its reads
pub record Row : Type 0 where
  pub answers : List Asked
  pub total : ℕ

-- "an entry's front bucket is below the one before it", where g stands before the first
abbrev pub descends : ℕ → List ℕ → Bool
descends g [] = false
descends g (f ∷ fs) = cond (ltb f g) true (descends f fs)

-- neighbours with one front bucket, and the greatest count of reads among their asks
pub record Group : Type 0 where
  pub front : ℕ
  pub reads : ℕ

-- an ask of front bucket f with n reads, before the groups of those behind it
abbrev pub joined : ℕ → ℕ → List Group → List Group
joined f n [] = record { front = f; reads = n } ∷ []
joined f n (g ∷ gs) = cond (eqb f g.front) (record { front = f; reads = max n g.reads } ∷ gs) (record { front = f; reads = n } ∷ (g ∷ gs))

abbrev pub groups : List ℕ → List Asked → List Group
groups [] rs = []
groups (f ∷ fs) [] = []
groups (f ∷ fs) (a ∷ rs) = joined f a.reads (groups fs rs)

-- "the sum, over such groups"
abbrev pub reads_of : List Group → ℕ
reads_of [] = 0
reads_of (g ∷ gs) = g.reads + reads_of gs

module _ (L : Layout) where
  -- the lone asks of hashes; the first that is refused refuses the row
  unfoldable pub asks_of : List ℕ → List ℕ → Result (List Asked)
  asks_of img [] = accepted []
  asks_of img (k ∷ ks) = and_then (ask_of L img k) λ a. and_then (asks_of img ks) λ rs. accepted (a ∷ rs)

  -- "the row is refused with 10, tested after 1"
  unfoldable pub row_of : List ℕ → List ℕ → Result Row
  row_of img ks =
      and_then (sized img) λ B.
      let fs : List ℕ = map (front_of B) ks in
      cond (descends 0 fs) (refused 10 0)
      (and_then (asks_of img ks) λ rs. accepted (record { answers = rs; total = reads_of (groups fs rs) }))
