-- The tail's numbers in a history's list: where a front bucket is not full the image has a free slot (`room-left`), so an insert is never due 12, nor is
-- a delete (`due-insert`, `due-delete`); no call gets 11 or 12 (`tail-numbers`), inserts and deletes get 13 exactly at the top count
-- (`spent-insert`, `spent-delete`), and pages 14 exactly where they bring another (`stale-page`).
use mathlib.Core.Path.{◌≡◌, refl}
use mathlib.Core.Logic.{◌⊎◌, inl, inr, ◌↔◌}
use Prim.Native.Nat.{ℕ, zero, suc, ◌+◌, ◌*◌, ◌^◌, ◌≤◌, ◌<◌}
use mathlib.Core.Bool.{Bool, true, false, cond, ◌&&◌}
use mathlib.Core.List.{List}
use native.Mathlib.Omega.{arith}
use native.Mathlib.Nat.{suc-mul}
use native.Mathlib.Decide.{ℕ_discrete}
use lib.Dec.{eqb, ltb}
use borrow.Author.Tests.{eqb-true, eqb-false, eq-eqb, ne_eqb, lt-ltb}
use Rattle.multiset.specs.Multisets.{sum}
use Rattle.multiset.proofs.SumLaws.{sum-most}
use Rattle.crumbmap.specs.Layouts.{Layout, Numbering, keys, fronts, backyards}
use Rattle.crumbmap.specs.CrumbMap.{first_bucket, second_bucket}
use Rattle.crumbmap.specs.Fingerprints.{front_of, fingerprint}
use Rattle.crumbmap.proofs.CrumbMapLaws.{bucket_of-lt}
use Rattle.machine.specs.Images.{front_at, back_at}
use Rattle.machine.specs.Machine.{occupancy, full}
use Rattle.machine.proofs.Invariant.{Good}
use Rattle.form.specs.Tails.{body, top, slots, members}
use Rattle.history.specs.Histories.{Call, insert, delete, ask, count, page, Fits, History, blocks, number_of, bytes_after}
use Rattle.history.specs.Ledgers.{fingerprint_of, ledger, filed}
use Rattle.history.specs.Refusals.{due}
use Rattle.history.proofs.LedgerLaws.{page_number, front-lt, place-lt}
use Rattle.history.proofs.StepLaws.{total-members}
use Rattle.history.proofs.HistoryLaws.{StandsAfter, call-due}

-- ---- sums

-- where one number of a sum is below the most
sum_less : (N : ℕ → ℕ) (from n v p : ℕ) → ((i : ℕ) → from ≤ i → i < from + n → N i ≤ v) → from ≤ p → p < from + n → N p < v → sum N from n < n * v
sum_less N from zero v p h a b l = absurd (omega arith)
sum_less N from (suc n) v p h a b l = elim (ℕ_discrete from p) [
  | yes e ↦
      let here : N from < v = rw e l in
      omega (arith, suc-mul n v, here, sum-most N (suc from) n v (λ i c d. h i (omega arith) (omega arith)))
  | no e ↦
      let rest : sum N (suc from) n < n * v =
      sum_less N (suc from) n v p (λ i c d. h i (omega arith) (omega arith)) (omega arith) (omega arith) l in
      omega (arith, suc-mul n v, h from (omega arith) (omega arith), rest)
]

-- each number of a sum is at most the sum
sum-term : (N : ℕ → ℕ) (from n p : ℕ) → from ≤ p → p < from + n → N p ≤ sum N from n
sum-term N from zero p a b = absurd (omega arith)
sum-term N from (suc n) p a b = elim (ℕ_discrete from p) [
  | yes e ↦ rw (← e) (omega arith)
  | no e ↦ omega (arith, sum-term N (suc from) n p (omega arith) (omega arith))
]

-- ---- a free slot

one-false : (a b c : Bool) → a && b && c ≡ false → (a ≡ false) ⊎ ((b ≡ false) ⊎ (c ≡ false))
one-false false b c e = inl refl
one-false true false c e = inr (inl refl)
one-false true true c e = inr (inr e)

module _ (L : Layout) (B : ℕ) (img : List ℕ) (good : Good L B img) where
  front-most : (f : ℕ) → f < fronts B → occupancy (front_at L f img) ≤ L.front_slots
  front-most f h = rw (good.front f h) (good.front_good f h).room

  back-most : (j : ℕ) → j < backyards B → occupancy (back_at L B j img) ≤ L.back_slots
  back-most j h = rw (good.back j h) (good.back_good j h).room

  fronts-most : sum (λ (f : ℕ). occupancy (front_at L f img)) 0 (fronts B) ≤ fronts B * L.front_slots
  fronts-most = sum-most (λ (f : ℕ). occupancy (front_at L f img)) 0 (fronts B) L.front_slots (λ f a b. front-most f (omega arith))

  backs-most : sum (λ (j : ℕ). occupancy (back_at L B j img)) 0 (backyards B) ≤ backyards B * L.back_slots
  backs-most = sum-most (λ (j : ℕ). occupancy (back_at L B j img)) 0 (backyards B) L.back_slots (λ j a b. back-most j (omega arith))

  pub room-left : (f : ℕ) → f < fronts B → full L B f img ≡ false → members L B img < slots L B
  unfolding full members slots
  room-left f h e = go (one-false _ _ _ e)
    where
      front-free : eqb (occupancy (front_at L f img)) L.front_slots ≡ false → members L B img < slots L B
      front-free q =
          let d : occupancy (front_at L f img) ≡ L.front_slots → ⊥ = eqb-false _ _ q in
          let m = front-most f h in
          omega (
            arith,
            backs-most,
            sum_less (λ (i : ℕ). occupancy (front_at L i img)) 0 (fronts B) L.front_slots f (λ i a b. front-most i (omega arith))
                (omega arith) (omega arith) (omega arith),
          )

      back-free : (j : ℕ) → j < backyards B → eqb (occupancy (back_at L B j img)) L.back_slots ≡ false → members L B img < slots L B
      back-free j l q =
          let d : occupancy (back_at L B j img) ≡ L.back_slots → ⊥ = eqb-false _ _ q in
          let m = back-most j l in
          omega (
            arith,
            fronts-most,
            sum_less (λ (i : ℕ). occupancy (back_at L B i img)) 0 (backyards B) L.back_slots j (λ i a b. back-most i (omega arith))
                (omega arith) (omega arith) (omega arith),
          )

      go : (eqb (occupancy (front_at L f img)) L.front_slots ≡ false)
          ⊎ ((eqb (occupancy (back_at L B (first_bucket f) img)) L.back_slots ≡ false)
          ⊎ (eqb (occupancy (back_at L B (second_bucket B f) img)) L.back_slots ≡ false))
          → members L B img < slots L B
      go (inl q) = front-free q
      go (inr (inl q)) = back-free (first_bucket f) (bucket_of-lt true B f h) q
      go (inr (inr q)) = back-free (second_bucket B f) (bucket_of-lt false B f h) q

-- ---- what is due

-- 13 at the top count, else v where b, else accepted
unfoldable pub change_number : ℕ → Bool → ℕ → ℕ
change_number changes b v = cond (eqb changes top) 13 (cond b v 0)

-- a number that is none of the tail's own
abbrev pub Clean : ℕ → Type 0
Clean n = (n ≡ 11 → ⊥) × (n ≡ 12 → ⊥)

change-clean : (changes : ℕ) (b : Bool) (v : ℕ) → v < 11 → Clean (change_number changes b v)
unfolding change_number
change-clean changes b v h = go (eqb changes top) b
  where
    go : (a b : Bool) → Clean (cond a 13 (cond b v 0))
    go true b = ((λ e. omega arith), λ e. omega arith)
    go false true = ((λ e. omega arith), λ e. omega arith)
    go false false = ((λ e. omega arith), λ e. omega arith)

-- a page's own number, or 14
page-small : (L : Layout) (B : ℕ) (N : ℕ → ℕ) (s room : ℕ) → page_number L B N s room < 8
page-small L B N s room = go (ltb (fronts B) s) (ltb s (fronts B) && ltb room (sum N (fingerprint L s 0) (keys L)))
  where
    go : (a b : Bool) → cond a 6 (cond b 7 0) < 8
    go true b = omega arith
    go false true = omega arith
    go false false = omega arith

page-clean : (a : Bool) (v : ℕ) → v < 8 → Clean (cond a v 14)
page-clean true v l = ((λ e. omega arith), λ e. omega arith)
page-clean false v l = ((λ e. omega arith), λ e. omega arith)

page-stale : (changes n v : ℕ) → v < 8 → (cond (eqb changes n) v 14 ≡ 14) ↔ (changes ≡ n → ⊥)
page-stale changes n v l = (there (eqb changes n) refl, λ d. rw (ne_eqb changes n d) refl)
  where
    there : (a : Bool) → eqb changes n ≡ a → cond a v 14 ≡ 14 → changes ≡ n → ⊥
    there true q e s = omega arith
    there false q e s = eqb-false changes n q s

change-spent : (changes : ℕ) (b : Bool) (v : ℕ) → v < 11 → (change_number changes b v ≡ 13) ↔ (changes ≡ top)
unfolding change_number
change-spent changes b v h = (there (eqb changes top) refl b, λ e. rw (eq-eqb changes top e) refl)
  where
    there : (a : Bool) → eqb changes top ≡ a → (b : Bool) → cond a 13 (cond b v 0) ≡ 13 → changes ≡ top
    there true q b e = eqb-true changes top q
    there false q true e = absurd (omega arith)
    there false q false e = absurd (omega arith)

module _ (layouts : Numbering) (L : Layout) (h : History) (st : StandsAfter layouts L h) where
  pub due-insert : (k : ℕ) → k < 2 ^ 64
      → due layouts L h (insert k) ≡ change_number (filed layouts h).changes (full L (blocks h) (front_of (blocks h) k) (body (bytes_after layouts h))) 4
  unfolding due change_number
  due-insert k l = go (full L (blocks h) (front_of (blocks h) k) (body (bytes_after layouts h))) refl
    where
      go : (r : Bool) → full L (blocks h) (front_of (blocks h) k) (body (bytes_after layouts h)) ≡ r
          → ◌≡◌ {A = ℕ} (cond (eqb (filed layouts h).changes top) 13 (cond r 4 (cond (ltb (filed layouts h).total (slots L (blocks h))) 0 12)))
          (change_number (filed layouts h).changes r 4)
      go true e = refl
      go false e =
          let room : (filed layouts h).total < slots L (blocks h) =
          omega (
            arith,
            total-members st,
            room-left L (blocks h) (body (bytes_after layouts h)) st.keep.good (front_of (blocks h) k) (front-lt st.keep k l) e,
          ) in
          rw (lt-ltb _ _ room) refl

  pub due-delete : (k : ℕ) → k < 2 ^ 64
      → due layouts L h (delete k) ≡ change_number (filed layouts h).changes (eqb (ledger layouts L h (fingerprint_of L (blocks h) k)) 0) 5
  unfolding due change_number
  due-delete k l = go (eqb (ledger layouts L h g) 0) refl
    where
      g : ℕ
      g = fingerprint_of L (blocks h) k

      go : (r : Bool) → eqb (ledger layouts L h g) 0 ≡ r
          → ◌≡◌ {A = ℕ} (cond (eqb (filed layouts h).changes top) 13 (cond r 5 (cond (eqb (filed layouts h).total 0) 12 0)))
          (change_number (filed layouts h).changes r 5)
      go true e = refl
      go false e =
          let n : ledger layouts L h g ≡ 0 → ⊥ = eqb-false _ _ e in
          let most : ledger layouts L h g ≤ sum (ledger layouts L h) 0 (fronts (blocks h) * keys L) =
          sum-term (ledger layouts L h) 0 (fronts (blocks h) * keys L) g (omega arith) (omega (arith, place-lt st.fits st.keep k l)) in
          rw (ne_eqb (filed layouts h).total 0 (λ z. n (omega (arith, st.sums, most)))) refl

  -- 11 and 12 are never due, so no call gets them
  due-clean : (c : Call) → Fits c → Clean (due layouts L h c)
  unfolding due
  due-clean (insert k) l = rw (due-insert k l) (change-clean _ _ 4 (omega arith))
  due-clean (delete k) l = rw (due-delete k l) (change-clean _ _ 5 (omega arith))
  due-clean (ask k) l = ((λ e. omega arith), λ e. omega arith)
  due-clean (count k) l = ((λ e. omega arith), λ e. omega arith)
  due-clean (page s n room) l = page-clean (eqb (filed layouts h).changes n) _ (page-small L (blocks h) (ledger layouts L h) s room)

  pub tail-numbers : (c : Call) → Fits c → Clean (number_of layouts (bytes_after layouts h) c)
  tail-numbers c l = rw (call-due layouts h L st c l) (due-clean c l)

  pub stale-page : (s n room : ℕ) → (number_of layouts (bytes_after layouts h) (page s n room) ≡ 14) ↔ ((filed layouts h).changes ≡ n → ⊥)
  unfolding due
  stale-page s n room = rw (call-due layouts h L st (page s n room) tt) (page-stale _ n _ (page-small L (blocks h) (ledger layouts L h) s room))

  pub spent-insert : (k : ℕ) → k < 2 ^ 64 → (number_of layouts (bytes_after layouts h) (insert k) ≡ 13) ↔ ((filed layouts h).changes ≡ top)
  spent-insert k l = rw (call-due layouts h L st (insert k) l, due-insert k l) (change-spent _ _ 4 (omega arith))

  pub spent-delete : (k : ℕ) → k < 2 ^ 64 → (number_of layouts (bytes_after layouts h) (delete k) ≡ 13) ↔ ((filed layouts h).changes ≡ top)
  spent-delete k l = rw (call-due layouts h L st (delete k) l, due-delete k l) (change-spent _ _ 5 (omega arith))
