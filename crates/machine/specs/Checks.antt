-- Check: "all buckets sound by table number, then each backyard member's front bucket holds 28, none larger than that member".
use Rattle.std.specs.Prelude.{ℕ, zero, suc, ◌+◌, ◌/◌, ◌%◌, Bool, true, false, cond, ◌&&◌, List, [], ◌∷◌, length, leb, eqb}
use Rattle.std.proofs.Math.Option.{Option, none, some}
use Rattle.multiset.specs.Multisets.{largest}
use Rattle.crumbmap.specs.Layouts.{Layout, fronts, backyards}
use Rattle.crumbmap.specs.CrumbMap.{home}
use Rattle.machine.specs.Results.{Result, accepted, refused}
use Rattle.machine.specs.Images.{front_at, back_at}

-- nothing was found, or the number with where it was
abbrev pub unless : Option ℕ → ℕ → Result (Unit {0}) → Result (Unit {0})
unless none n k = k
unless (some i) n k = refused n i

-- the table number of a refused reading, else what comes after it
abbrev pub or_later : Result (List ℕ) → Option ℕ → Option ℕ
or_later (accepted xs) o = o
or_later (refused n i) o = some i

module _ (L : Layout) where
  -- the first unsound front bucket of f, f + 1, .., n of them
  unfoldable pub unsound_front : ℕ → ℕ → List ℕ → Option ℕ
  unsound_front zero f img = none
  unsound_front (suc n) f img = let o : Option ℕ = unsound_front n (suc f) img in or_later (front_at L f img) o

  -- the first unsound backyard bucket of j, j + 1, .., n of them
  unfoldable pub unsound_back : ℕ → ℕ → ℕ → List ℕ → Option ℕ
  unsound_back B zero j img = none
  unsound_back B (suc n) j img = let o : Option ℕ = unsound_back B n (suc j) img in or_later (back_at L B j img) o

  -- a front bucket that holds all its slots, none larger than x
  abbrev pub in_turn : ℕ → Result (List ℕ) → Bool
  in_turn x (accepted xs) = eqb (length xs) L.front_slots && leb (largest xs) x
  in_turn x (refused n i) = false

  abbrev pub home_in_turn : Option ℕ → ℕ → List ℕ → Bool
  home_in_turn none x img = false
  home_in_turn (some f) x img = in_turn x (front_at L f img)

  -- no member of backyard bucket j stands "before its turn"
  unfoldable pub all_in_turn : ℕ → ℕ → List ℕ → List ℕ → Bool
  all_in_turn B j img [] = true
  all_in_turn B j img (y ∷ ys) = home_in_turn (home B j (y % 16)) (y / 16) img && all_in_turn B j img ys

  abbrev pub bucket_in_turn : ℕ → ℕ → List ℕ → Result (List ℕ) → Bool
  bucket_in_turn B j img (accepted ys) = all_in_turn B j img ys
  bucket_in_turn B j img (refused n i) = true

  -- "8 and lowest such table number": the first of backyard buckets j, j + 1, .., n of them, with a member before its turn
  unfoldable pub early : ℕ → ℕ → ℕ → List ℕ → Option ℕ
  early B zero j img = none
  early B (suc n) j img =
      let o : Option ℕ = early B n (suc j) img in
      cond (bucket_in_turn B j img (back_at L B j img)) o (some (fronts B + j))

  -- an image of size B: any 3 comes before any 8
  unfoldable pub check_sized : ℕ → List ℕ → Result (Unit {0})
  check_sized B img =
      unless (unsound_front (fronts B) 0 img) 3
      (unless (unsound_back B (backyards B) 0 img) 3
      (unless (early B (backyards B) 0 img) 8 (accepted tt)))
