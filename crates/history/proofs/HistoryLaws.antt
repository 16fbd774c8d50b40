-- Every history: its image is of one of the layouts and stands with its ledger and its tail (`stands`, `stands_at`), check accepts it (`check-stands`),
-- and each call gave the number that was due (`call-due`, `all-due`).
use mathlib.Core.Path.{◌≡◌, refl, sym}
use Prim.Native.Nat.{ℕ, ◌+◌, ◌*◌}
use mathlib.Core.Bool.{Bool, true, false, ◌&&◌}
use mathlib.Core.List.{List, ◌++◌}
use mathlib.Core.Option.{Option, none, some, get_or}
use native.Mathlib.Omega.{arith}
use lib.ListN.{length}
use lib.Dec.{eqb, lit<}
use borrow.Author.Tests.{eqb-true, eq-eqb}
use Rattle.multiset.proofs.SumLaws.{sum-plus, sum-nought}
use Rattle.crumbmap.specs.Layouts.{Layout, Numbering, keys, fronts}
use Rattle.machine.specs.Results.{Result, accepted, refused, and_then, number}
use Rattle.machine.specs.Images.{size_of, empty_image}
use Rattle.machine.specs.Merges.{merge_sized}
use Rattle.machine.specs.Calls.{written}
use Rattle.machine.proofs.ImageLaws.{size_of-some}
use Rattle.machine.proofs.CheckLaws.{check-good}
use Rattle.machine.proofs.MergeLaws.{MergedWhole, whole, no-space, merge-good}
use Rattle.form.specs.Tails.{Tail, body, tail_bytes, started, members}
use Rattle.form.specs.Calls.{fresh_of, checked_by, merged_by, merge_sized_of, merge_of}
use Rattle.history.specs.Histories.{Call, insert, delete, ask, count, page, Fits, History, fresh, merge, followed}
use Rattle.history.specs.Histories.{blocks, layout_number, number_of, bytes_after, Started}
use Rattle.history.specs.Ledgers.{ledger, filed}
use Rattle.history.specs.Refusals.{due, Due}
use Rattle.history.specs.Demand.{AllFit}
use Rattle.history.proofs.LedgerLaws.{keeps-empty, keeps-both, count-ledger, ask-ledger}
use Rattle.history.proofs.StepLaws.{Stands, header_of, stands-form, total-members, opens_at, ask_of-body, count_of-body}
use Rattle.history.proofs.StepLaws.{insert-step, delete-step, page-step, call-stands}

-- a start that writes over `old` leaves an image that stands
abbrev Starts : Numbering → ℕ → Layout → Result (List ℕ) → List ℕ → (ℕ → ℕ) → Tail → Type 0
Starts layouts n L r old N t = Stands layouts n L (get_or (size_of (length (body old))) 0) (written r old) N t

-- the image of a history stands, with L for its layout
abbrev pub StandsAfter : Numbering → Layout → History → Type 0
StandsAfter layouts L h = Stands layouts (layout_number h) L (blocks h) (bytes_after layouts h) (ledger layouts L h) (filed layouts h)

-- check accepts an image that stands
pub check-stands : {layouts : Numbering} {n : ℕ} {L : Layout} {B : ℕ} {img : List ℕ} {N : ℕ → ℕ} {t : Tail} → Stands layouts n L B img N t
    → checked_by (header_of n L B t) (body img) ≡ accepted tt
unfolding checked_by
check-stands {L = L} {B = B} {img = img} {t = t} st =
    rw (check-good L B (body img) st.keep.good, eq-eqb t.total (members L B (body img)) (total-members st)) refl

-- ---- the starts

fresh-stands : (layouts : Numbering) → AllFit layouts → (n : ℕ) (old : List ℕ) → number (fresh_of layouts n old) ≡ 0
    → (L : Layout) × Starts layouts n L (fresh_of layouts n old) old (λ (g : ℕ). 0) (started 0)
unfolding fresh_of
fresh-stands layouts fit n old h = go (size_of (length (body old))) (layouts n) refl refl
  where
    go : (o : Option ℕ) (p : Option Layout) → size_of (length (body old)) ≡ o → layouts n ≡ p
        → (L : Layout) × Starts layouts n L (fresh_of layouts n old) old (λ (g : ℕ). 0) (started 0)
    go none p e q = absurd (omega (arith, rw e at h))
    go (some B) none e q = absurd (omega (arith, rw (e, q) at h))
    go (some B) (some L) e q =
        let s = size_of-some (length (body old)) B e in (
          L,
          rw (e, q)
              (stands-form (empty_image L B) (started 0) q (fit n L q) (keeps-empty (fit n L q) B s.1 s.2)
              (sym (sum-nought (λ (g : ℕ). 0) 0 (fronts B * keys L) (λ i a b. refl)))
              (lit< tt)),
        )

-- two images of one size and one layout
module _ {layouts : Numbering} {n : ℕ} {L : Layout} {B : ℕ} {a b : List ℕ} {P Q : ℕ → ℕ} {t u : Tail}
    (sa : Stands layouts n L B a P t) (sb : Stands layouts n L B b Q u) where
  -- their merge is that of the bodies, with the totals added
  pub merge_sized_of-body : merge_sized_of layouts B a b
      ≡ and_then (merge_sized L B (body a) (body b)) (λ c. accepted (c ++ tail_bytes n (started (t.total + u.total))))
  unfolding merge_sized_of merged_by merge_sized
  merge_sized_of-body =
      rw (
        opens_at sa,
        opens_at sb,
        eq-eqb n n refl,
        check-stands sa,
        check-stands sb,
        check-good L B (body a) sa.keep.good,
        check-good L B (body b) sb.keep.good,
      ) refl

  merge-same : (old : List ℕ) → number (merge_sized_of layouts B a b) ≡ 0
      → Stands layouts n L B (written (merge_sized_of layouts B a b) old) (λ (g : ℕ). P g + Q g) (started (t.total + u.total))
  merge-same old h = go (merge-good L sa.fits B (body a) (body b) sa.keep.good sb.keep.good)
    where
      go : MergedWhole L B (body a) (body b)
          → Stands layouts n L B (written (merge_sized_of layouts B a b) old) (λ (g : ℕ). P g + Q g) (started (t.total + u.total))
      go (no-space e) = absurd (omega (arith, rw (merge_sized_of-body, e) at h))
      go (whole now e good m) =
          rw (merge_sized_of-body, e)
          (stands-form now (started (t.total + u.total)) sa.named sa.fits
          (keeps-both sa.keep sb.keep good m)
          (omega (arith, sa.sums, sb.sums, sum-plus P Q 0 (fronts B * keys L)))
          (lit< tt))

-- two images that were merged are of one layout
module _ {layouts : Numbering} {n m A C : ℕ} {L K : Layout} {a b : List ℕ} {P Q : ℕ → ℕ} {t u : Tail}
    (sa : Stands layouts n L A a P t) (sb : Stands layouts m K C b Q u) where
  merge-stands : (old : List ℕ) → number (merge_of layouts a b old) ≡ 0
      → (K ≡ L) × Starts layouts n L (merge_of layouts a b old) old (λ (g : ℕ). P g + Q g) (started (t.total + u.total))
  merge-stands old h = go (size_of (length (body old))) refl
    where
      Goal : Type 0
      Goal = (K ≡ L) × Starts layouts n L (merge_of layouts a b old) old (λ (g : ℕ). P g + Q g) (started (t.total + u.total))

      wrong : size_of (length (body old)) ≡ none → merge_of layouts a b old ≡ refused 1 0
      wrong e = unfold merge_of in rw (sa.keep.good.size, sb.keep.good.size, e) refl

      differ : (D : ℕ) → size_of (length (body old)) ≡ some D → eqb A C && eqb A D ≡ false → merge_of layouts a b old ≡ refused 2 0
      differ D e q = unfold merge_of in rw (sa.keep.good.size, sb.keep.good.size, e, q) refl

      alike : size_of (length (body old)) ≡ some A → eqb A C ≡ true → merge_of layouts a b old ≡ merge_sized_of layouts A a b
      alike e q = unfold merge_of in rw (sa.keep.good.size, sb.keep.good.size, e, q, eq-eqb A A refl) refl

      other : C ≡ A → eqb n m ≡ false → merge_sized_of layouts A a b ≡ refused 2 0
      other c q = unfold merge_sized_of in rw (opens_at sa, rw c at (opens_at sb), q) refl

      numbers : size_of (length (body old)) ≡ some A → eqb A C ≡ true → (r : Bool) → eqb n m ≡ r → Goal
      numbers e p true q =
          let same : m ≡ n = sym (eqb-true n m q) in
          let one : K ≡ L = cc (sa.named, sb.named) in
          (one, rw (e, alike e p) (merge-same sa (rw (sym (eqb-true A C p), same, one) at sb) old (rw (alike e p) at h)))
      numbers e p false q = absurd (omega (arith, rw (alike e p, other (sym (eqb-true A C p)) q) at h))

      sizes : (D : ℕ) → size_of (length (body old)) ≡ some D → (r s : Bool) → eqb A C ≡ r → eqb A D ≡ s → Goal
      sizes D e true true p q = numbers (rw (eqb-true A D q) e) p (eqb n m) refl
      sizes D e true false p q = absurd (omega (arith, rw (differ D e (rw (p, q) refl)) at h))
      sizes D e false s p q = absurd (omega (arith, rw (differ D e (rw p refl)) at h))

      go : (o : Option ℕ) → size_of (length (body old)) ≡ o → Goal
      go none e = absurd (omega (arith, rw (wrong e) at h))
      go (some D) e = sizes D e (eqb A C) (eqb A D) refl refl

-- ---- every history

-- each call gives the number that is due
pub call-due : (layouts : Numbering) (h : History) (L : Layout) → StandsAfter layouts L h → (c : Call) → Fits c
    → number_of layouts (bytes_after layouts h) c ≡ due layouts L h c
unfolding due
call-due layouts h L st (insert k) l = (insert-step st k l).0
call-due layouts h L st (delete k) l = (delete-step st k l).0
call-due layouts h L st (ask k) l = rw (ask_of-body st k, (ask-ledger st.fits st.keep k l).1) refl
call-due layouts h L st (count k) l = rw (count_of-body st k, (count-ledger st.fits st.keep k l).1) refl
call-due layouts h L st (page s n room) l = page-step st s n room

module _ (layouts : Numbering) (fit : AllFit layouts) where
  merged : (a b : History) (old : List ℕ) {L K : Layout} → StandsAfter layouts L a → StandsAfter layouts K b
      → number (merge_of layouts (bytes_after layouts a) (bytes_after layouts b) old) ≡ 0 → StandsAfter layouts L (merge a b old)
  unfolding blocks layout_number bytes_after ledger filed
  merged a b old sa sb h = let m = merge-stands sa sb old h in rw m.0 at m.1

  pub stands : (h : History) → Started layouts h → (L : Layout) × StandsAfter layouts L h
  unfolding blocks layout_number bytes_after ledger filed
  stands (fresh n old) s = fresh-stands layouts fit n old s
  stands (merge a b old) s =
      let x = stands a s.0 in
      let y = stands b s.1 in
      (x.0, merged a b old x.1 y.1 s.2)
  stands (followed h c) s = let x = stands h s.0 in (x.0, call-stands x.1 c s.1)

  pub stands_at : (h : History) (L : Layout) → Started layouts h → layouts (layout_number h) ≡ some L → StandsAfter layouts L h
  stands_at h L s e = go (stands h s)
    where
      go : (K : Layout) × StandsAfter layouts K h → StandsAfter layouts L h
      go (K, st) = let same : K ≡ L = cc st.named in rw same at st

  pub all-due : (h : History) (L : Layout) → Started layouts h → layouts (layout_number h) ≡ some L → Due layouts L h
  unfolding layout_number
  all-due (fresh n old) L s e = tt
  all-due (merge a b old) L s e = tt
  all-due (followed h c) L s e = (all-due h L s.0 e, call-due layouts h L (stands_at h L s.0 e) c s.1)
