-- "A full walk is accepted pages of this history's own list, in their order, the first from 0, each other from the next bucket that
-- the one before gave, the last giving F"; each brings "the change count that the walk began with, the same number for every page of one walk"
-- (C-15). Any calls of the list may stand between: none of them starts the image's count anew.
use Rattle.std.specs.Prelude.{◌≡◌, ℕ, List, ◌++◌}
use Rattle.crumbmap.specs.Layouts.{Layout, Numbering, fronts}
use Rattle.machine.specs.Results.{accepted}
use Rattle.machine.specs.Pages.{Run}
use Rattle.form.specs.Calls.{page_of}
use Rattle.history.specs.Histories.{Call, History, page, followed, blocks, bytes_after}
use Rattle.history.specs.Ledgers.{ledger}

module _ (layouts : Numbering) (L : Layout) where
  -- a walk with change count n in h's own list: "N as it stood at the walk's first page", the entries so far "joined in order", the next bucket
  pub data Walk (n : ℕ) : History → (ℕ → ℕ) → List ℕ → ℕ → Type 0 where
    begun : (h : History) (room : ℕ) (r : Run) → page_of layouts (bytes_after layouts h) 0 n room ≡ accepted r
        → Walk n (followed h (page 0 n room)) (ledger layouts L h) r.entries r.next
    continued : (h : History) (N : ℕ → ℕ) (gs : List ℕ) (s room : ℕ) (r : Run) → Walk n h N gs s
        → page_of layouts (bytes_after layouts h) s n room ≡ accepted r → Walk n (followed h (page s n room)) N (gs ++ r.entries) r.next
    meanwhile : (h : History) (N : ℕ → ℕ) (gs : List ℕ) (s : ℕ) (c : Call) → Walk n h N gs s → Walk n (followed h c) N gs s

  -- a full walk in h's own list: its last page gave F, whatever came since
  abbrev pub FullWalk : History → (ℕ → ℕ) → List ℕ → Type 0
  FullWalk h N gs = (n : ℕ) × Walk n h N gs (fronts (blocks h))
