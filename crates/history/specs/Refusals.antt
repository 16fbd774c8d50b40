-- "Each call in its list was refused exactly where the next section and document 02 refuse it": the number that is due after a history.
use Rattle.std.specs.Prelude.{◌≡◌, ℕ, cond, ◌&&◌, eqb, ltb}
use Rattle.multiset.specs.Multisets.{sum}
use Rattle.crumbmap.specs.Layouts.{Layout, Numbering, keys, fronts}
use Rattle.crumbmap.specs.Fingerprints.{front_of, fingerprint}
use Rattle.machine.specs.Machine.{full}
use Rattle.form.specs.Tails.{body, top, slots}
use Rattle.history.specs.Histories.{Call, History, insert, delete, ask, count, page, fresh, merge, followed, blocks, number_of, bytes_after}
use Rattle.history.specs.Ledgers.{fingerprint_of, ledger, filed}

module _ (layouts : Numbering) (L : Layout) where
  -- insert and delete 13 "at the top change count"; insert "4: full", delete "5: absent"; then 12, "that would take the total below 0 or above the
  -- slots"; page 14 for "a different count", then "6: s > F" and "7: bucket s does not fit"; no other number
  unfoldable pub due : History → Call → ℕ
  due h (insert k) =
      cond (eqb (filed layouts h).changes top) 13
      (cond (full L (blocks h) (front_of (blocks h) k) (body (bytes_after layouts h))) 4
      (cond (ltb (filed layouts h).total (slots L (blocks h))) 0 12))
  due h (delete k) =
      cond (eqb (filed layouts h).changes top) 13
      (cond (eqb (ledger layouts L h (fingerprint_of L (blocks h) k)) 0) 5
      (cond (eqb (filed layouts h).total 0) 12 0))
  due h (ask k) = 0
  due h (count k) = 0
  due h (page s n room) =
      cond (eqb (filed layouts h).changes n)
      (cond (ltb (fronts (blocks h)) s) 6
      (cond (ltb s (fronts (blocks h)) && ltb room (sum (ledger layouts L h) (fingerprint L s 0) (keys L))) 7 0))
      14

  -- each call in h's own list gave the number that was due where it stood
  abbrev pub Due : History → Type 0
  Due (fresh n old) = Unit {0}
  Due (merge a b old) = Unit {0}
  Due (followed h c) = Due h × (number_of layouts (bytes_after layouts h) c ≡ due h c)
