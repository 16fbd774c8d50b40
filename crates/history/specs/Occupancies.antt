-- The occupancy page that a ledger says: for each front bucket all of N over its fingerprints, split at the front slots; and what a line shows to
-- whoever reads its numbers.
use Rattle.std.specs.Prelude.{◌≡◌, ℕ, ◌+◌, ◌*◌, ◌-◌, min, cond, List, [], ◌∷◌, take, drop, leb, ltb, eqb}
use Rattle.multiset.specs.Multisets.{sum}
use Rattle.crumbmap.specs.Layouts.{Layout, Numbering, keys, fronts}
use Rattle.crumbmap.specs.Fingerprints.{fingerprint}
use Rattle.machine.specs.Results.{Result, accepted, refused}
use Rattle.machine.specs.OccupancyPages.{page_lines, page_bytes, lines_of}
use Rattle.history.specs.Histories.{History, blocks}
use Rattle.history.specs.Ledgers.{ledger}

-- the number that columns show, read from v on: digits, and blanks that stand for nothing
unfoldable pub shown : ℕ → List ℕ → ℕ
shown v [] = v
shown v (b ∷ bs) = shown (cond (eqb b 32) v (v * 10 + (b - 48))) bs

module _ (L : Layout) where
  -- the sum of N over all fingerprints of front bucket f
  unfoldable pub filed_in : (ℕ → ℕ) → ℕ → ℕ
  filed_in N f = sum N (fingerprint L f 0) (keys L)

  -- a line that shows front bucket f with n members: its number in columns 1 to 6, its front members in 8 to 9, its overflow in 11 to 12
  pub record Shows (f n : ℕ) (l : List ℕ) : Type 0 where
    pub number : shown 0 (take 6 l) ≡ f
    pub front : shown 0 (take 2 (drop 7 l)) ≡ min n L.front_slots
    pub behind : shown 0 (take 2 (drop 10 l)) ≡ n - L.front_slots

module _ (layouts : Numbering) where
  -- page p after a history, into an output with room for so many bytes
  unfoldable pub page_said : Layout → History → ℕ → ℕ → Result (List ℕ)
  page_said L h p room =
      cond (leb (fronts (blocks h)) (page_lines * p)) (refused 6 0)
      (cond (ltb room (page_bytes L)) (refused 7 0) (accepted (lines_of L (filed_in L (ledger layouts L h)) (fronts (blocks h)) page_lines (page_lines * p))))
