-- "The ledger has a number N(g) for each fingerprint g. It is fed the calls' arguments and which calls were accepted, and takes nothing from the image."
-- The total and the change count (C-14) are fed the same.
use Rattle.std.specs.Prelude.{ℕ, zero, suc, ◌+◌, ◌-◌, cond, eqb}
use Rattle.multiset.specs.Multisets.{sum}
use Rattle.crumbmap.specs.Layouts.{Layout, Numbering}
use Rattle.crumbmap.specs.Fingerprints.{front_of, key_of, fingerprint}
use Rattle.form.specs.Tails.{Tail, started}
use Rattle.history.specs.Histories.{Call, History, insert, delete, ask, count, page, fresh, merge, followed, blocks, number_of, bytes_after}

module _ (L : Layout) where
  -- the fingerprint of hash k
  unfoldable pub fingerprint_of : ℕ → ℕ → ℕ
  fingerprint_of B k = fingerprint L (front_of B k) (key_of L k)

  -- "An accepted insert of g adds 1 to N(g). An accepted delete of g takes 1 from N(g) .. Every other call in the list, refused ones too, leaves it."
  unfoldable pub entered : ℕ → ℕ → Call → (ℕ → ℕ) → ℕ → ℕ
  entered B zero (insert k) N g = cond (eqb g (fingerprint_of B k)) (N g + 1) (N g)
  entered B (suc n) (insert k) N g = N g
  entered B zero (delete k) N g = cond (eqb g (fingerprint_of B k)) (N g - 1) (N g)
  entered B (suc n) (delete k) N g = N g
  entered B n (ask k) N g = N g
  entered B n (count k) N g = N g
  entered B n (page s changes room) N g = N g

  -- "the sum of N(h) over all h < g with the same f", g by front bucket and key
  unfoldable pub smaller : (ℕ → ℕ) → ℕ → ℕ → ℕ
  smaller N f x = sum N (fingerprint L f 0) x

-- "the total equals accepted inserts minus deletes"; "each accepted insert and delete .. adds 1 to the change count"
unfoldable pub adjusted : ℕ → Call → Tail → Tail
adjusted zero (insert k) t = record { total = t.total + 1; changes = t.changes + 1 }
adjusted (suc n) (insert k) t = t
adjusted zero (delete k) t = record { total = t.total - 1; changes = t.changes + 1 }
adjusted (suc n) (delete k) t = t
adjusted n (ask k) t = t
adjusted n (count k) t = t
adjusted n (page s changes room) t = t

module _ (layouts : Numbering) where
  -- by the layout L of the history's image: "An accepted fresh sets every N(g) to 0. An accepted merge sets N(g) to the sum of both sources' N(g)."
  unfoldable pub ledger : Layout → History → ℕ → ℕ
  ledger L (fresh n old) g = 0
  ledger L (merge a b old) g = ledger L a g + ledger L b g
  ledger L (followed h c) g = entered L (blocks h) (number_of layouts (bytes_after layouts h) c) c (ledger L h) g

  -- the total and the change count: "both sides added at a merge"; "fresh and merge start the change count at 0"
  unfoldable pub filed : History → Tail
  filed (fresh n old) = started 0
  filed (merge a b old) = started ((filed a).total + (filed b).total)
  filed (followed h c) = adjusted (number_of layouts (bytes_after layouts h) c) c (filed h)
