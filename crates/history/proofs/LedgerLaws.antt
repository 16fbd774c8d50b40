-- The ledger and a body go together: `Keeps L B img N`, an image of document 01 is good and N(g) is how often g stands in it. It holds of the empty
-- image (`keeps-empty`), after an insert and a delete (`insert-ledger`, `delete-ledger`), and of a merge (`keeps-both`). Counts, asks and pages tell the
-- ledger (`count-ledger`, `ask-ledger`, `page-due`), and the members are its sum (`members-ledger`), 1 more and 1 less (`sum-insert`, `sum-delete`).
use mathlib.Core.Path.{◌≡◌, refl, sym, ◌∙◌}
use mathlib.Core.Logic.{◌↔◌}
use Prim.Native.Nat.{ℕ, zero, suc, ◌+◌, ◌*◌, ◌-◌, ◌^◌, ◌≤◌, ◌<◌}
use mathlib.Core.Bool.{Bool, true, false, cond, ◌&&◌}
use mathlib.Core.List.{List}
use native.Mathlib.Omega.{arith}
use native.Mathlib.Nat.{zero-mul}
use native.Mathlib.Decide.{ℕ_discrete}
use lib.ListN.{length}
use lib.Dec.{eqb, ltb}
use borrow.Author.Tests.{eqb-true, eqb-false, ltb-true, lt-ltb, le-ltb}
use Rattle.multiset.specs.Multisets.{sum}
use Rattle.multiset.proofs.MultisetLaws.{hit, hit_same, hit_other, hit-alike}
use Rattle.multiset.proofs.SumLaws.{sum_alike, sum_shifted, sum-grid}
use Rattle.crumbmap.specs.Layouts.{Layout, keys, fronts}
use Rattle.crumbmap.specs.Fingerprints.{front_of, key_of, fingerprint}
use Rattle.crumbmap.proofs.FingerprintLaws.{front_of-lt, key_of-lt, fingerprint-lt, fingerprint-unique}
use Rattle.buckets.specs.Buckets.{Fits64}
use Rattle.machine.specs.Results.{accepted, refused, number}
use Rattle.machine.specs.Images.{in_front, empty_image}
use Rattle.machine.specs.Machine.{full, insert_at, delete_at, Asked, nowhere}
use Rattle.machine.specs.Copies.{Told}
use Rattle.machine.specs.Pages.{page_from}
use Rattle.machine.specs.Calls.{insert_of, delete_of, ask_of, count_of, page_of}
use Rattle.machine.proofs.ImageLaws.{size_of-some}
use Rattle.machine.proofs.Invariant.{Good, OneMore, total}
use Rattle.machine.proofs.InsertLaws.{Inserted, took, stuck, insert-keeps}
use Rattle.machine.proofs.DeleteLaws.{Deleted, gone, absent, delete-keeps}
use Rattle.machine.proofs.AskLaws.{smaller_at, ask-total, count-total}
use Rattle.machine.proofs.PageLaws.{Says, Paged, beyond, unfit, listed, page-good}
use Rattle.machine.proofs.MergeLaws.{empty-total, empty-good}
use Rattle.form.specs.Tails.{members}
use Rattle.form.proofs.CountLaws.{members-total}
use Rattle.history.specs.Histories.{insert, delete}
use Rattle.history.specs.Ledgers.{fingerprint_of, entered, smaller}

pub record Keeps (L : Layout) (B : ℕ) (img : List ℕ) (N : ℕ → ℕ) : Type 0 where
  pub good : Good L B img
  pub says : Says L B N img
  pub none-past : (g : ℕ) → fronts B * keys L ≤ g → N g ≡ 0

-- the number that is due for a page
abbrev pub page_number : Layout → ℕ → (ℕ → ℕ) → ℕ → ℕ → ℕ
page_number L B N s room = cond (ltb (fronts B) s) 6 (cond (ltb s (fronts B) && ltb room (sum N (fingerprint L s 0) (keys L))) 7 0)

-- an insert of hash k: accepted, and image and ledger still go together, or full; a delete of it: the same, or absent
pub data Added (L : Layout) (B : ℕ) (img : List ℕ) (N : ℕ → ℕ) (k : ℕ) : Type 0 where
  joins : (a : ℕ) (now : List ℕ) → insert_of L img k ≡ accepted (record { answer = a; image = now }) → full L B (front_of B k) img ≡ false
      → Keeps L B now (entered L B 0 (insert k) N) → Added L B img N k
  no_slot : insert_of L img k ≡ refused 4 0 → full L B (front_of B k) img ≡ true → Added L B img N k

pub data Taken (L : Layout) (B : ℕ) (img : List ℕ) (N : ℕ → ℕ) (k : ℕ) : Type 0 where
  leaves : (a : ℕ) (now : List ℕ) → delete_of L img k ≡ accepted (record { answer = a; image = now }) → 0 < N (fingerprint_of L B k)
      → Keeps L B now (entered L B 0 (delete k) N) → Taken L B img N k
  none-there : delete_of L img k ≡ refused 5 0 → N (fingerprint_of L B k) ≡ 0 → Taken L B img N k

-- ---- the ledger: an accepted insert and an accepted delete through `hit`

one-added : (t : Bool) (n : ℕ) → cond t (n + 1) n ≡ cond t 1 0 + n
one-added true n = omega arith
one-added false n = omega arith

one-taken : (t : Bool) (n : ℕ) → (t ≡ true → 0 < n) → n ≡ cond t 1 0 + cond t (n - 1) n
one-taken true n p = omega (arith, p refl)
one-taken false n p = omega arith

-- one more of p adds 1 to the sum
sum_more : (M N : ℕ → ℕ) (p from n : ℕ) → from ≤ p → p < from + n → ((g : ℕ) → N g ≡ hit g p + M g) → sum N from n ≡ 1 + sum M from n
sum_more M N p from zero l h e = absurd (omega arith)
sum_more M N p from (suc n) l h e = elim (ℕ_discrete from p) [
  | yes q ↦
      let one : hit from p ≡ 1 = rw q (hit_same p) in
      let rest : sum N (suc from) n ≡ sum M (suc from) n = sum_alike N M (suc from) n (λ i a b. omega (arith, e i, hit_other i p (λ z. omega arith))) in
      omega (arith, e from, one, rest)
  | no q ↦ omega (arith, e from, hit_other from p q, sum_more M N p (suc from) n (omega arith) (omega arith) e)
]

module _ (L : Layout) (B : ℕ) where
  entered-insert : (k : ℕ) (N : ℕ → ℕ) (g : ℕ) → entered L B 0 (insert k) N g ≡ hit g (fingerprint L (front_of B k) (key_of L k)) + N g
  unfolding entered hit fingerprint_of
  entered-insert k N g = one-added (eqb g (fingerprint_of L B k)) (N g)

  entered-delete : (k : ℕ) (N : ℕ → ℕ) → 0 < N (fingerprint_of L B k) → (g : ℕ)
      → N g ≡ hit g (fingerprint L (front_of B k) (key_of L k)) + entered L B 0 (delete k) N g
  unfolding entered hit fingerprint_of
  entered-delete k N p g =
      one-taken (eqb g (fingerprint_of L B k)) (N g) (λ e. rw (eqb-true g (fingerprint_of L B k) e) p)

module _ {L : Layout} {B : ℕ} where
  -- one copy more in the image, by fingerprint
  total-hit : {f x : ℕ} {old now : List ℕ} → x < keys L → OneMore L B f x old now
      → (e y : ℕ) → e < fronts B → y < keys L → total L B e y now ≡ hit (fingerprint L e y) (fingerprint L f x) + total L B e y old
  total-hit {f} {x} {old} {now} k m e y h l = go (eqb e f) refl
    where
      same : hit (fingerprint L f y) (fingerprint L f x) ≡ hit y x
      same = unfold fingerprint in hit-alike (f * keys L + y) (f * keys L + x) y x (omega arith) (omega arith)

      go : (t : Bool) → eqb e f ≡ t → total L B e y now ≡ hit (fingerprint L e y) (fingerprint L f x) + total L B e y old
      go true q = rw (eqb-true e f q, same) (m.here y)
      go false q =
          let n : e ≡ f → ⊥ = eqb-false e f q in
          let apart : hit (fingerprint L e y) (fingerprint L f x) ≡ 0 = hit_other _ _ (λ p. n (fingerprint-unique L e f y x l k p).0) in
          omega (arith, m.elsewhere e y h n)

  -- the ledger and the image with one more of key x of front bucket f, and the other way round
  keeps-more : {f x : ℕ} {old now : List ℕ} {M N : ℕ → ℕ} → f < fronts B → x < keys L → Keeps L B old M → Good L B now → OneMore L B f x old now
      → ((g : ℕ) → N g ≡ hit g (fingerprint L f x) + M g) → Keeps L B now N
  keeps-more {f} {x} h k keep good m e =
      record {
        good = good;
        says = λ d y l j. omega (arith, e (fingerprint L d y), total-hit k m d y l j, keep.says d y l j);
        none-past = λ g l.
            omega (arith, e g, hit_other g (fingerprint L f x) (λ q. omega (arith, fingerprint-lt L (fronts B) f x h k)), keep.none-past g l);
      }

  keeps_fewer : {f x : ℕ} {old now : List ℕ} {M N : ℕ → ℕ} → x < keys L → Keeps L B old M → Good L B now → OneMore L B f x now old
      → ((g : ℕ) → M g ≡ hit g (fingerprint L f x) + N g) → Keeps L B now N
  keeps_fewer k keep good m e =
      record {
        good = good;
        says = λ d y l j. omega (arith, e (fingerprint L d y), total-hit k m d y l j, keep.says d y l j);
        none-past = λ g l. omega (arith, e g, keep.none-past g l);
      }

-- ---- one call

module _ {L : Layout} {B : ℕ} {img : List ℕ} {N : ℕ → ℕ} (keep : Keeps L B img N) where
  pub front-lt : (k : ℕ) → k < 2 ^ 64 → front_of B k < fronts B
  front-lt k h = front_of-lt B k (size_of-some (length img) B keep.good.size).1 h

  -- a call on the image is the machine at size B
  insert_of-at : (k : ℕ) → insert_of L img k ≡ insert_at L B (front_of B k) (key_of L k) img
  unfolding insert_of
  insert_of-at k = rw keep.good.size refl

  delete_of-at : (k : ℕ) → delete_of L img k ≡ delete_at L B (front_of B k) (key_of L k) img
  unfolding delete_of
  delete_of-at k = rw keep.good.size refl

  pub page_of-at : (s room : ℕ) → page_of L img s room ≡ page_from L B s room img
  unfolding page_of
  page_of-at s room = rw keep.good.size refl

  pub page-due : (s room : ℕ) → number (page_of L img s room) ≡ page_number L B N s room
  page-due s room = go (page-good L B img keep.good N keep.says s room)
    where
      fit : (t : Bool) → ltb s (fronts B) ≡ t → (s < fronts B → sum N (fingerprint L s 0) (keys L) ≤ room)
          → ◌≡◌ {A = ℕ} 0 (cond (ltb s (fronts B) && ltb room (sum N (fingerprint L s 0) (keys L))) 7 0)
      fit true e l = rw (e, le-ltb _ _ (l (ltb-true _ _ e))) refl
      fit false e l = rw e refl

      go : Paged L B N s room img → number (page_of L img s room) ≡ page_number L B N s room
      go (beyond e l) = rw (page_of-at s room, e, lt-ltb _ _ l) refl
      go (unfit e l r) = rw (page_of-at s room, e, le-ltb (fronts B) s (omega arith), lt-ltb _ _ l, lt-ltb _ _ r) refl
      go (listed r e l f a b g) = rw (page_of-at s room, e, le-ltb _ _ l) (fit (ltb s (fronts B)) refl f)

module _ {L : Layout} (fits : Fits64 L) {B : ℕ} {img : List ℕ} {N : ℕ → ℕ} (keep : Keeps L B img N) (k : ℕ) (small : k < 2 ^ 64) where
  key-lt : key_of L k < keys L
  key-lt = key_of-lt L k fits.minis

  pub place-lt : fingerprint_of L B k < fronts B * keys L
  unfolding fingerprint_of
  place-lt = fingerprint-lt L (fronts B) (front_of B k) (key_of L k) (front-lt keep k small) key-lt

  -- N(g) of a hash is how often its key stands in its front bucket
  ledger-total : N (fingerprint_of L B k) ≡ total L B (front_of B k) (key_of L k) img
  unfolding fingerprint_of
  ledger-total = keep.says (front_of B k) (key_of L k) (front-lt keep k small) key-lt

  pub insert-ledger : Added L B img N k
  insert-ledger = go (insert-keeps L fits B (front_of B k) (key_of L k) img keep.good (front-lt keep k small) key-lt)
    where
      go : Inserted L B (front_of B k) (key_of L k) img → Added L B img N k
      go (took a now e room good m) =
          joins a now (insert_of-at keep k ∙ e) room (keeps-more (front-lt keep k small) key-lt keep good m (entered-insert L B k N))
      go (stuck e room) = no_slot (insert_of-at keep k ∙ e) room

  pub delete-ledger : Taken L B img N k
  delete-ledger = go (delete-keeps L fits B (front_of B k) (key_of L k) img keep.good (front-lt keep k small) key-lt)
    where
      go : Deleted L B (front_of B k) (key_of L k) img → Taken L B img N k
      go (gone a now e good m) =
          let there : 0 < N (fingerprint_of L B k) = omega (arith, ledger-total, m.here (key_of L k), hit_same (key_of L k)) in
          leaves a now (delete_of-at keep k ∙ e) there (keeps_fewer key-lt keep good m (entered-delete L B k N there))
      go (absent e z) = none-there (delete_of-at keep k ∙ e) (ledger-total ∙ z)

  pub sum-insert : sum (entered L B 0 (insert k) N) 0 (fronts B * keys L) ≡ 1 + sum N 0 (fronts B * keys L)
  unfolding fingerprint_of
  sum-insert =
      sum_more N (entered L B 0 (insert k) N) (fingerprint L (front_of B k) (key_of L k)) 0 (fronts B * keys L) (omega arith) (omega (arith, place-lt))
      (entered-insert L B k N)

  pub sum-delete : 0 < N (fingerprint_of L B k) → sum N 0 (fronts B * keys L) ≡ 1 + sum (entered L B 0 (delete k) N) 0 (fronts B * keys L)
  unfolding fingerprint_of
  sum-delete h =
      sum_more (entered L B 0 (delete k) N) N (fingerprint L (front_of B k) (key_of L k)) 0 (fronts B * keys L) (omega arith) (omega (arith, place-lt))
      (entered-delete L B k N h)

  -- a count gives N(g) copies
  pub count-ledger : (n : ℕ) × (count_of L img k ≡ accepted (record { reads = n; copies = N (fingerprint_of L B k) }))
  unfolding count_of
  count-ledger = rw (keep.good.size, ledger-total) (count-total L B img keep.good (front_of B k) (front-lt keep k small) (key_of L k))

  smaller-ledger : smaller L N (front_of B k) (key_of L k) ≡ smaller_at L B (front_of B k) (key_of L k) img
  unfolding smaller fingerprint
  smaller-ledger =
      let f : ℕ = front_of B k in
      sum_shifted N (f * keys L) 0 (key_of L k)
      ∙ sum_alike (λ (y : ℕ). N (fingerprint L f y)) (λ (y : ℕ). total L B f y img) 0 (key_of L k)
      (λ y l m. keep.says f y (front-lt keep k small) (omega (arith, key-lt)))

  -- an ask is yes exactly when N(g) > 0, its reads more than 1 exactly when the smaller members fill the front bucket; and what its copies tell of N(g)
  pub ask-ledger : (a : Asked) × (ask_of L img k ≡ accepted a)
      × ((a.place ≡ nowhere → ⊥) ↔ (0 < N (fingerprint_of L B k)))
      × ((1 < a.reads) ↔ (L.front_slots ≤ smaller L N (front_of B k) (key_of L k)))
      × Told L (in_front L (front_of B k) img) (key_of L k) (smaller L N (front_of B k) (key_of L k)) (N (fingerprint_of L B k)) a.copies (a.place ≡ nowhere)
  unfolding ask_of
  ask-ledger =
      rw (keep.good.size, ledger-total, smaller-ledger)
      (ask-total L B img keep.good (front_of B k) (front-lt keep k small) (key_of L k) fits.slots)

-- ---- the starts

pub keeps-empty : {L : Layout} → Fits64 L → (B : ℕ) → 0 < B → B ≤ 65536 → Keeps L B (empty_image L B) (λ (g : ℕ). 0)
keeps-empty {L} fits B p h =
    record { good = empty-good L fits B p h; says = λ f x l k. sym (empty-total L fits B f x l); none-past = λ g l. refl }

-- an image with the members of both
pub keeps-both : {L : Layout} {B : ℕ} {a b now : List ℕ} {M N : ℕ → ℕ} → Keeps L B a M → Keeps L B b N → Good L B now
    → ((f x : ℕ) → f < fronts B → total L B f x now ≡ total L B f x a + total L B f x b) → Keeps L B now (λ (g : ℕ). M g + N g)
keeps-both ka kb good m =
    record {
      good = good;
      says = λ f x l k. omega (arith, m f x l, ka.says f x l k, kb.says f x l k);
      none-past = λ g l. omega (arith, ka.none-past g l, kb.none-past g l);
    }

-- ---- the members

pub members-ledger : {L : Layout} {B : ℕ} {img : List ℕ} {N : ℕ → ℕ} → Keeps L B img N → members L B img ≡ sum N 0 (fronts B * keys L)
unfolding fingerprint
members-ledger {L} {B} {img} {N} keep =
    members-total L B img keep.good
    ∙ sum_alike (λ (f : ℕ). sum (λ (x : ℕ). total L B f x img) 0 (keys L)) (λ (f : ℕ). sum (λ (x : ℕ). N (f * keys L + x)) 0 (keys L)) 0 (fronts B) (λ f a b.
    sum_alike (λ (x : ℕ). total L B f x img) (λ (x : ℕ). N (f * keys L + x)) 0 (keys L) (λ x c d. sym (keep.says f x (omega arith) (omega arith))))
    ∙ sym (rw (zero-mul (keys L)) at (sum-grid N (keys L) 0 (fronts B)))
