-- Demand 3, "this one claim about a whole history": what holds after every history. With it C-14's, "over every history the total equals accepted
-- inserts minus deletes, both sides added at a merge".
use Rattle.std.specs.Prelude.{◌≡◌, ◌↔◌, ℕ, ◌*◌, ◌^◌, ◌<◌, ◌≤◌, List, T}
use Rattle.std.proofs.Math.Option.{some}
use Rattle.multiset.specs.Multisets.{copies, ascending, sum}
use Rattle.crumbmap.specs.Layouts.{Layout, Numbering, keys, fronts}
use Rattle.crumbmap.specs.Fingerprints.{front_of, key_of}
use Rattle.buckets.specs.Buckets.{Fits64}
use Rattle.machine.specs.Results.{accepted}
use Rattle.machine.specs.Machine.{Asked, nowhere}
use Rattle.form.specs.Tails.{body, members}
use Rattle.form.specs.Calls.{ask_of, count_of, tail_of}
use Rattle.history.specs.Histories.{History, Started, blocks, layout_number, bytes_after}
use Rattle.history.specs.Ledgers.{fingerprint_of, ledger, smaller, filed}
use Rattle.history.specs.Walks.{FullWalk}
use Rattle.history.specs.Refusals.{Due}

module _ (layouts : Numbering) where
  -- "For every history, after it", by the layout L of its image:
  pub record Holds (L : Layout) (h : History) : Type 0 where
    -- "each call in its list was refused exactly where .. refuse it"
    pub refusals : Due layouts L h
    -- "a count of g gives N(g) copies"
    pub counts : (k : ℕ) → k < 2 ^ 64
        → (n : ℕ) × (count_of layouts (bytes_after layouts h) k ≡ accepted (record { reads = n; copies = ledger layouts L h (fingerprint_of L (blocks h) k) }))
    -- "an ask for g is yes, its place other than none, exactly when N(g) > 0"; "its reads are more than 1 exactly when
    -- the smaller members that remain .. are at least 28"
    pub asks : (k : ℕ) → k < 2 ^ 64 → (a : Asked) × (ask_of layouts (bytes_after layouts h) k ≡ accepted a)
        × ((a.place ≡ nowhere → ⊥) ↔ (0 < ledger layouts L h (fingerprint_of L (blocks h) k)))
        × ((1 < a.reads) ↔ (L.front_slots ≤ smaller L (ledger layouts L h) (front_of (blocks h) k) (key_of L k)))
    -- "the entries they wrote, joined in order, are every g N(g) times .. ascending"
    pub walks : (N : ℕ → ℕ) (gs : List ℕ) → FullWalk layouts L h N gs → T (ascending gs) × ((g : ℕ) → copies g gs ≡ N g)
    -- the tail tells "accepted inserts minus deletes", and how many of both there were since the start
    pub tail : tail_of layouts (bytes_after layouts h) ≡ accepted (filed layouts h)
    -- the total is the sum of all N(g), and the members in all buckets
    pub sums : (filed layouts h).total ≡ sum (ledger layouts L h) 0 (fronts (blocks h) * keys L)
    pub members : (filed layouts h).total ≡ members L (blocks h) (body (bytes_after layouts h))

  -- of every history, whose image is of one of the layouts
  abbrev pub Demand3 : Type 0
  Demand3 = (h : History) → Started layouts h → (L : Layout) × (layouts (layout_number h) ≡ some L) × Holds L h

  -- the layouts whose buckets fit 64 bytes
  abbrev pub AllFit : Type 0
  AllFit = (n : ℕ) (L : Layout) → layouts n ≡ some L → Fits64 L
