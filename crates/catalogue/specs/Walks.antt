-- "A full walk is accepted pages of this history's own list, in their order, the first from 0, each other from the next bucket that the
-- one before gave, the last giving F"; each brings "the change count that the walk began with" (C-15). It is a walk inside the run that the
-- contracts tell, so the entries that it joins are those that this run's own pages wrote.
use Rattle.std.specs.Prelude.{ℕ, List, [], ◌++◌, take}
use Rattle.std.specs.Prelude as S
use Rattle.crumbmap.specs.Layouts.{known, layout1, fronts}
use Rattle.answers.specs.declared.Refusal.{Refusal}
use Rattle.answers.specs.declared.Paged.{Paged}
use Rattle.history.specs.Histories as H
use Rattle.history.specs.Histories.{Call, History, Fits, blocks}
use Rattle.history.specs.Ledgers.{ledger}
use Rattle.catalogue.specs.Runs.{Performed, inserted, deleted, asked, counted, paged, Happened, followed}

-- a page "gives how many and the next bucket": so many entries, from the start of its output after the call
abbrev pub entries_in : S.Result Paged Refusal → List ℕ → List ℕ
entries_in (S.Ok p) out = take p.entries out
entries_in (S.Err r) out = []

abbrev pub next_in : S.Result Paged Refusal → ℕ
next_in (S.Ok p) = p.next
next_in (S.Err r) = 0

-- the entries that a call wrote, and the next bucket that it gave; only pages do
abbrev pub entries_of : {img new : List ℕ} {c : Call} {n : ℕ} → Performed img c n new → List ℕ
entries_of (paged s changes old r out p) = entries_in r out
entries_of (inserted k r new p) = []
entries_of (deleted k r new p) = []
entries_of (asked k r p) = []
entries_of (counted k r p) = []

abbrev pub next_of : {img new : List ℕ} {c : Call} {n : ℕ} → Performed img c n new → ℕ
next_of (paged s changes old r out p) = next_in r
next_of (inserted k r new p) = 0
next_of (deleted k r new p) = 0
next_of (asked k r p) = 0
next_of (counted k r p) = 0

-- a walk with change count n in a run's own list: "N as it stood at the walk's first page", the entries written so far "joined in order", the next
-- bucket; any calls of the list may stand between its pages
pub data Walk (n : ℕ) : (h : History) (img : List ℕ) → Happened h img → (ℕ → ℕ) → List ℕ → ℕ → Type 0 where
  begun : (h : History) (img new : List ℕ) (run : Happened h img) (room : ℕ) (p : Performed img (H.page 0 n room) 0 new)
      → Walk n (H.followed h (H.page 0 n room)) new (followed (H.page 0 n room) 0 new run tt p) (ledger known layout1 h) (entries_of p) (next_of p)
  continued : (h : History) (img new : List ℕ) (run : Happened h img) (N : ℕ → ℕ) (gs : List ℕ) (s room : ℕ) (p : Performed img (H.page s n room) 0 new)
      → Walk n h img run N gs s
      → Walk n (H.followed h (H.page s n room)) new (followed (H.page s n room) 0 new run tt p) N (gs ++ entries_of p) (next_of p)
  meanwhile : (h : History) (img new : List ℕ) (run : Happened h img) (N : ℕ → ℕ) (gs : List ℕ) (s : ℕ) (c : Call) (m : ℕ) (fits : Fits c)
      (p : Performed img c m new) → Walk n h img run N gs s → Walk n (H.followed h c) new (followed c m new run fits p) N gs s

-- a full walk in a run's own list: its last page gave F, whatever came since
abbrev pub FullWalk : {h : History} {img : List ℕ} → Happened h img → (ℕ → ℕ) → List ℕ → Type 0
FullWalk {h} {img} run N gs = (n : ℕ) × Walk n h img run N gs (fronts (blocks h))
