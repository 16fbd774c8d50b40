-- A sweep along a row: the state after its entries, what stands in their places, and what must be true of the state and the entries before it.
use Rattle.std.specs.Prelude.{ℕ, ◌^◌, ◌<◌, List, [], ◌∷◌}
use Rattle.crumbmap.specs.Layouts.{Layout}
use Rattle.answers.specs.declared.Entry.{Entry}
use Rattle.grouping.specs.Steps.Grouping.{turned, Ready, resumed}
use Rattle.grouping.specs.declared.State.{State}

module _ (L : Layout) where
  -- entries in their turn, all in phase p
  abbrev pub state_from : List ℕ → ℕ → State → List Entry → State
  state_from img p s [] = s
  state_from img p s (e ∷ es) = state_from img p (turned L img p s e).state es

  abbrev pub row_from : List ℕ → ℕ → State → List Entry → List Entry
  row_from img p s [] = []
  row_from img p s (e ∷ es) = (turned L img p s e).entry ∷ row_from img p (turned L img p s e).state es

  -- each is ready in its turn, where those before it hold hashes of 64 bits
  abbrev pub ReadyFrom : List ℕ → ℕ → State → List Entry → Type 0
  ReadyFrom img p s [] = Unit {0}
  ReadyFrom img p s (e ∷ es) = Ready L img p s e.hash × (e.hash < 2 ^ 64 → ReadyFrom img p (turned L img p s e).state es)

  -- a sweep is in the phase of the state before it
  abbrev pub state_after : List ℕ → State → List Entry → State
  state_after img s es = state_from img s.phase s es

  abbrev pub row_after : List ℕ → State → List Entry → List Entry
  row_after img s es = row_from img s.phase s es

  abbrev pub AllReady : List ℕ → State → List Entry → Type 0
  AllReady img s es = ReadyFrom img s.phase s es

  -- what the second sweep leaves, where the first starts from the state s: the state, and the entries
  abbrev pub tested_state : List ℕ → State → List Entry → State
  tested_state img s es = state_after img (resumed (state_after img s es)) (row_after img s es)

  abbrev pub tested_row : List ℕ → State → List Entry → List Entry
  tested_row img s es = row_after img (resumed (state_after img s es)) (row_after img s es)

  -- and what the third leaves
  abbrev pub told_state : List ℕ → State → List Entry → State
  told_state img s es = state_after img (resumed (tested_state img s es)) (tested_row img s es)

  abbrev pub told_row : List ℕ → State → List Entry → List Entry
  told_row img s es = row_after img (resumed (tested_state img s es)) (tested_row img s es)
