-- Demand 3 as a caller meets it, at the layouts that there are: what the calls answer after a history. With it what C-14 says of the total.
use Rattle.std.specs.Prelude.{◌≡◌, ◌↔◌, ◌⊎◌, ℕ, ◌*◌, ◌^◌, ◌<◌, ◌≤◌, List, length, T}
use Rattle.std.specs.Prelude as S
use Rattle.multiset.specs.Multisets.{copies, ascending, sum}
use Rattle.crumbmap.specs.Layouts.{known, layout1, keys, fronts}
use Rattle.crumbmap.specs.Fingerprints.{front_of, key_of}
use Rattle.machine.specs.Results.{number}
use Rattle.form.specs.Tails.{body, members}
use Rattle.form.specs.Calls.{ask_of, count_of, check_of, tail_of}
use Rattle.answers.specs.Answers.{outcome_of, asked_of, counted_of, tailed_of, Merges}
use Rattle.answers.specs.declared.Refusal.{Refusal}
use Rattle.answers.specs.declared.Counted.{Counted}
use Rattle.answers.specs.declared.Asked.{Asked}
use Rattle.answers.specs.declared.Place.TheVariants as P
use Rattle.answers.specs.declared.Tail.{Tail}
use Rattle.history.specs.Histories.{Call, History, Fits, blocks}
use Rattle.history.specs.Ledgers.{fingerprint_of, ledger, smaller, filed}
use Rattle.history.specs.Refusals.{due}
use Rattle.catalogue.specs.Runs.{Performed, Happened}
use Rattle.catalogue.specs.Walks.{FullWalk}

-- how often the fingerprint of hash k is filed
abbrev pub times_filed : History → ℕ → ℕ
times_filed h k = ledger known layout1 h (fingerprint_of layout1 (blocks h) k)

-- what a run of the calls delivers: h is its history, img the image that it left
pub record Delivers {h : History} {img : List ℕ} (run : Happened h img) : Type 0 where
  -- the next call is refused exactly where the documents refuse it, and with that number
  pub refusals : (c : Call) (n : ℕ) (new : List ℕ) → Fits c → Performed img c n new → n ≡ due known layout1 h c
  -- a count is accepted and gives N(g)
  pub counts : (k : ℕ) (r : S.Result Counted Refusal) → k < 2 ^ 64 → counted_of r ≡ count_of known img k → (c : Counted) × (r ≡ S.Ok c) × (c.copies ≡ times_filed h k)
  -- an ask is accepted, yes exactly when N(g) > 0, its reads more than 1 exactly when 28 or more smaller members remain
  pub asks : (k : ℕ) (r : S.Result Asked Refusal) → k < 2 ^ 64 → asked_of r ≡ ask_of known img k → (a : Asked) × (r ≡ S.Ok a)
      × ((a.place ≡ P.Nowhere → ⊥) ↔ (0 < times_filed h k))
      × ((1 < a.reads) ↔ (layout1.front_slots ≤ smaller layout1 (ledger known layout1 h) (front_of (blocks h) k) (key_of layout1 k)))
  -- the entries that the pages of a full walk wrote, joined in order, are every g N(g) times, ascending
  pub walks : (N : ℕ → ℕ) (gs : List ℕ) → FullWalk run N gs → T (ascending gs) × ((g : ℕ) → copies g gs ≡ N g)
  -- the tail is told: the total is "accepted inserts minus deletes, both sides added at a merge", the change count how many of both since the start
  pub tails : (r : S.Result Tail Refusal) → tailed_of r ≡ tail_of known img
      → (t : Tail) × (r ≡ S.Ok t) × (t.total ≡ (filed known h).total) × (t.changes ≡ (filed known h).changes)
  -- that total is the sum of all N(g), and the members in all buckets
  pub sums : (filed known h).total ≡ sum (ledger known layout1 h) 0 (fronts (blocks h) * keys layout1)
  pub members : (filed known h).total ≡ members layout1 (blocks h) (body img)
  -- no call of the list gets 11 or 12
  pub no-tail-number : (c : Call) (n : ℕ) (new : List ℕ) → Fits c → Performed img c n new → (n ≡ 11 → ⊥) × (n ≡ 12 → ⊥)
  -- check accepts
  pub checks : (r : S.Result (Unit {0}) Refusal) → outcome_of r ≡ check_of known img → r ≡ S.Ok tt
  -- a merge with another run's image into a target of their length is refused only with 4
  pub merges : {g : History} {x : List ℕ} → Happened g x → (old new : List ℕ) (r : S.Result (Unit {0}) Refusal) → length img ≡ length old → length x ≡ length old
      → Merges img x old r new → (number (outcome_of r) ≡ 0) ⊎ (number (outcome_of r) ≡ 4)

-- for every history of the calls
abbrev pub Demand : Type 0
Demand = (h : History) (img : List ℕ) (run : Happened h img) → Delivers run
