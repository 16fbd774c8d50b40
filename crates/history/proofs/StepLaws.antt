-- One call on the form of C-14: an image whose body goes with the ledger and whose tail says the ledger's sum (`Stands`) stays so, and each call gives
-- the number that is due (`insert-step`, `delete-step`, `page-step`, `call-stands`).
use mathlib.Core.Path.{◌≡◌, refl, ap, ◌∙◌}
use Prim.Native.Nat.{ℕ, ◌+◌, ◌*◌, ◌-◌, ◌^◌, ◌≤◌, ◌<◌}
use mathlib.Core.Bool.{Bool, true, false, cond}
use mathlib.Core.List.{List, ◌++◌}
use mathlib.Core.Option.{some}
use native.Mathlib.Omega.{arith}
use lib.ListN.{length}
use lib.Dec.{eqb, ltb}
use borrow.Author.Tests.{eqb-false, eq-eqb, ne_eqb}
use Rattle.multiset.specs.Multisets.{sum}
use Rattle.crumbmap.specs.Layouts.{Layout, Numbering, keys, fronts}
use Rattle.crumbmap.specs.Fingerprints.{front_of}
use Rattle.buckets.specs.Buckets.{Fits64}
use Rattle.machine.specs.Results.{accepted, number}
use Rattle.machine.specs.Machine.{full}
use Rattle.machine.specs.Calls as M
use Rattle.machine.specs.OccupancyPages as O
use Rattle.form.specs.Tails.{Tail, Header, body, tail_bytes, top, slots, members, raised, lowered, headed, opened}
use Rattle.form.specs.Calls.{changed_by, unchanged, insert_of, delete_of, ask_of, count_of, page_of, occupancy_of}
use Rattle.form.proofs.TailLaws.{body-form, headed-form}
use Rattle.form.proofs.WalkLaws.{unchanged-number}
use Rattle.form.proofs.CountLaws.{members-most, slots_small}
use Rattle.history.specs.Histories.{Call, insert, delete, ask, count, page, Fits, number_of, image_after}
use Rattle.history.specs.Ledgers.{fingerprint_of, adjusted, entered}
use Rattle.history.proofs.LedgerLaws.{Keeps, Added, joins, no_slot, Taken, leaves, none-there, insert-ledger, delete-ledger, sum-insert, sum-delete}
use Rattle.history.proofs.LedgerLaws.{page_number, page-due, members-ledger}

-- an image of size B and layout number n: its body goes with the ledger, and its tail says the ledger's sum and a change count that it can hold
pub record Stands (layouts : Numbering) (n : ℕ) (L : Layout) (B : ℕ) (img : List ℕ) (N : ℕ → ℕ) (t : Tail) : Type 0 where
  pub named : layouts n ≡ some L
  pub fits : Fits64 L
  pub keep : Keeps L B (body img) N
  pub form : img ≡ body img ++ tail_bytes n t
  pub sums : t.total ≡ sum N 0 (fronts B * keys L)
  pub small : t.changes < 2 ^ 64

-- a call on such an image gives the number m, and leaves such an image
abbrev pub Stepped : Numbering → ℕ → Layout → ℕ → List ℕ → (ℕ → ℕ) → Tail → Call → ℕ → Type 0
Stepped layouts n L B img N t c m =
    (number_of layouts img c ≡ m)
    × Stands layouts n L B (image_after layouts img c) (entered L B (number_of layouts img c) c N) (adjusted (number_of layouts img c) c t)

-- what such an image tells of itself
abbrev pub header_of : ℕ → Layout → ℕ → Tail → Header
header_of n L B t = record { size = B; number = n; layout = L; tail = t }

-- a body and a tail put together
pub stands-form : {layouts : Numbering} {n : ℕ} {L : Layout} {B : ℕ} {N : ℕ → ℕ} (b : List ℕ) (t : Tail) → layouts n ≡ some L → Fits64 L → Keeps L B b N
    → t.total ≡ sum N 0 (fronts B * keys L) → t.changes < 2 ^ 64 → Stands layouts n L B (b ++ tail_bytes n t) N t
stands-form {n = n} b t named fits keep s l =
    record { named = named; fits = fits; keep = rw (body-form b n t) keep; form = rw (body-form b n t) refl; sums = s; small = l }

module _ {layouts : Numbering} {n : ℕ} {L : Layout} {B : ℕ} {img : List ℕ} {N : ℕ → ℕ} {t : Tail} (st : Stands layouts n L B img N t) where
  keep : Keeps L B (body img) N
  keep = st.keep

  pub total-members : t.total ≡ members L B (body img)
  total-members = omega (arith, st.sums, members-ledger keep)

  total-slots : t.total ≤ slots L B
  total-slots = omega (arith, total-members, members-most L B (body img))

  -- its tail is good
  pub opens_at : headed layouts B img ≡ accepted (header_of n L B t)
  opens_at =
      ap (headed layouts B) st.form
      ∙ headed-form layouts n L st.named B (body img) t
      (record { total = omega (arith, total-slots, slots_small L st.fits B (length (body img)) keep.good.size); changes = st.small })
      total-slots

  pub opens : opened layouts img ≡ accepted (header_of n L B t)
  unfolding opened
  opens = rw keep.good.size opens_at

  -- a call on the form is the call on the body
  insert_of-body : (k : ℕ) → insert_of layouts img k ≡ changed_by (header_of n L B t) (M.insert_of L (body img) k) (raised L B t)
  unfolding insert_of
  insert_of-body k = rw opens refl

  delete_of-body : (k : ℕ) → delete_of layouts img k ≡ changed_by (header_of n L B t) (M.delete_of L (body img) k) (lowered t)
  unfolding delete_of
  delete_of-body k = rw opens refl

  pub ask_of-body : (k : ℕ) → ask_of layouts img k ≡ M.ask_of L (body img) k
  unfolding ask_of
  ask_of-body k = rw opens refl

  pub count_of-body : (k : ℕ) → count_of layouts img k ≡ M.count_of L (body img) k
  unfolding count_of
  count_of-body k = rw opens refl

  pub page_of-body : (s m room : ℕ) → page_of layouts img s m room ≡ unchanged t.changes m (M.page_of L (body img) s room)
  unfolding page_of
  page_of-body s m room = rw opens refl

  pub occupancy_of-body : (p room : ℕ) → occupancy_of layouts img p room ≡ O.occupancy_of L (body img) p room
  unfolding occupancy_of
  occupancy_of-body p room = rw opens refl

  -- what is due for an insert, and for a delete
  abbrev insert_number : ℕ → ℕ
  insert_number k = cond (eqb t.changes top) 13 (cond (full L B (front_of B k) (body img)) 4 (cond (ltb t.total (slots L B)) 0 12))

  abbrev delete_number : ℕ → ℕ
  delete_number k = cond (eqb t.changes top) 13 (cond (eqb (N (fingerprint_of L B k)) 0) 5 (cond (eqb t.total 0) 12 0))

  pub insert-step : (k : ℕ) → k < 2 ^ 64 → Stepped layouts n L B img N t (insert k) (insert_number k)
  unfolding entered adjusted changed_by raised
  insert-step k h = go (eqb t.changes top) refl
    where
      body-step : eqb t.changes top ≡ false → Added L B (body img) N k → (r : Bool) → ltb t.total (slots L B) ≡ r
          → Stepped layouts n L B img N t (insert k) (insert_number k)
      body-step e (no_slot m room) r q = rw (insert_of-body k, e, m, room) (refl, st)
      body-step e (joins a now m room now-keep) false q = rw (insert_of-body k, e, m, room, q) (refl, st)
      body-step e (joins a now m room now-keep) true q =
          rw (insert_of-body k, e, m, room, q) (
            refl,
            stands-form now (record { total = t.total + 1; changes = t.changes + 1 }) st.named st.fits now-keep
                (omega (arith, st.sums, sum-insert st.fits keep k h))
                (omega (arith, st.small, eqb-false t.changes top e)),
          )

      go : (s : Bool) → eqb t.changes top ≡ s → Stepped layouts n L B img N t (insert k) (insert_number k)
      go true e = rw (insert_of-body k, e) (refl, st)
      go false e = body-step e (insert-ledger st.fits keep k h) (ltb t.total (slots L B)) refl

  pub delete-step : (k : ℕ) → k < 2 ^ 64 → Stepped layouts n L B img N t (delete k) (delete_number k)
  unfolding entered adjusted changed_by lowered
  delete-step k h = go (eqb t.changes top) refl
    where
      body-step : eqb t.changes top ≡ false → Taken L B (body img) N k → Stepped layouts n L B img N t (delete k) (delete_number k)
      body-step e (none-there m z) = rw (delete_of-body k, e, m, eq-eqb (N (fingerprint_of L B k)) 0 z) (refl, st)
      body-step e (leaves a now m there now-keep) =
          let one = sum-delete st.fits keep k h there in
          rw (
            delete_of-body k,
            e,
            m,
            ne_eqb (N (fingerprint_of L B k)) 0 (λ z. omega arith),
            ne_eqb t.total 0 (λ z. omega (arith, st.sums, one)),
          ) (
            refl,
            stands-form now (record { total = t.total - 1; changes = t.changes + 1 }) st.named st.fits now-keep
                (omega (arith, st.sums, one))
                (omega (arith, st.small, eqb-false t.changes top e)),
          )

      go : (s : Bool) → eqb t.changes top ≡ s → Stepped layouts n L B img N t (delete k) (delete_number k)
      go true e = rw (delete_of-body k, e) (refl, st)
      go false e = body-step e (delete-ledger st.fits keep k h)

  pub page-step : (s m room : ℕ) → number_of layouts img (page s m room) ≡ cond (eqb t.changes m) (page_number L B N s room) 14
  page-step s m room = rw (page_of-body s m room, unchanged-number t.changes m (M.page_of L (body img) s room), page-due keep s room)

  pub call-stands : (c : Call) → Fits c
      → Stands layouts n L B (image_after layouts img c) (entered L B (number_of layouts img c) c N) (adjusted (number_of layouts img c) c t)
  unfolding entered adjusted
  call-stands (insert k) h = (insert-step k h).1
  call-stands (delete k) h = (delete-step k h).1
  call-stands (ask k) h = st
  call-stands (count k) h = st
  call-stands (page s m room) h = st
