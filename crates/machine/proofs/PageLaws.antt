-- The members of a front bucket, runs of buckets and pages on a good image: a page from s gives the segment of the ledger up to the
-- next bucket, or 6 past the end, or 7 where bucket s does not fit. Main results: `members-good`, `page-good`.
use mathlib.Core.Path.{◌≡◌, refl, sym, ◌∙◌}
use Prim.Native.Nat.{ℕ, zero, suc, ◌+◌, ◌*◌, ◌-◌, ◌≤◌, ◌<◌}
use mathlib.Core.Bool.{Bool, true, false}
use mathlib.Core.List.{List, [], ◌++◌, map}
use native.Mathlib.Omega.{arith, by_contra}
use native.Mathlib.Nat.{suc-mul, mul-le-mul_right}
use lib.ListN.{length}
use lib.Dec.{leb, ltb, eqb, T}
use borrow.Author.Tests.{ltb-true, ltb-false, leb-true, leb-false, le-ltb, eqb-true, eqb-false}
use Rattle.multiset.specs.Multisets.{copies, ascending, sum, Below}
use Rattle.crumbmap.specs.Layouts.{Layout, keys, fronts}
use Rattle.crumbmap.specs.Fingerprints.{fingerprint}
use Rattle.machine.specs.Results.{accepted, refused}
use Rattle.machine.specs.Bags.{added_all}
use Rattle.machine.specs.Images.{in_front}
use Rattle.machine.specs.Machine.{members_at, overflow, overflow_in}
use Rattle.machine.specs.Pages.{Run, run_from, page_from}
use Rattle.machine.proofs.BagLaws.{copies-added_all, ascending-added_all, below-added_all}
use Rattle.machine.proofs.Invariant.{Good, total}
use Rattle.machine.proofs.OverflowLaws.{copies-overflow_in, bucket_of-read, ascending-overflow_in, below-overflow_in}
use Rattle.machine.proofs.AskLaws.{over_none}
use Rattle.machine.proofs.Segments.{Segment, segment-none, segment-append, segment-shifted, length-sum}

-- the members of front bucket f, as a page lists them: every key as often as it stands there
pub record Members (L : Layout) (B f : ℕ) (img xs : List ℕ) : Type 0 where
  pub order : T (ascending xs)
  pub range : Below (keys L) xs
  pub each : (y : ℕ) → copies y xs ≡ total L B f y img

-- the ledger N says how often each key of each front bucket stands in the image
abbrev pub Says : Layout → ℕ → (ℕ → ℕ) → List ℕ → Type 0
Says L B N img = (f x : ℕ) → f < fronts B → x < keys L → N (fingerprint L f x) ≡ total L B f x img

-- a run of at most n buckets from s, into room for so many: the segment of its buckets; it moves on exactly where bucket s fits
pub record Ran (L : Layout) (N : ℕ → ℕ) (n s room : ℕ) (r : Run) : Type 0 where
  pub start : s ≤ r.next
  pub stop : r.next ≤ s + n
  pub segment : Segment N (s * keys L) (r.next * keys L) r.entries
  pub moves : 0 < n → sum N (fingerprint L s 0) (keys L) ≤ room → s < r.next
  pub stays : room < sum N (fingerprint L s 0) (keys L) → r.next ≡ s

-- a page from s, into room for so many: past the end, where bucket s does not fit, or the segment up to the next bucket
pub data Paged (L : Layout) (B : ℕ) (N : ℕ → ℕ) (s room : ℕ) (img : List ℕ) : Type 0 where
  beyond : page_from L B s room img ≡ refused 6 0 → fronts B < s → Paged L B N s room img
  unfit : page_from L B s room img ≡ refused 7 0 → s < fronts B → room < sum N (fingerprint L s 0) (keys L) → Paged L B N s room img
  listed : (r : Run) → page_from L B s room img ≡ accepted r → s ≤ fronts B → (s < fronts B → sum N (fingerprint L s 0) (keys L) ≤ room)
      → s ≤ r.next → r.next ≤ fronts B → Segment N (s * keys L) (r.next * keys L) r.entries → Paged L B N s room img

module _ (L : Layout) (B : ℕ) (img : List ℕ) (good : Good L B img) where
  pub members-good : (f : ℕ) → f < fronts B → (xs : List ℕ) × (members_at L B f img ≡ accepted xs) × Members L B f img xs
  unfolding members_at overflow
  members-good f h = go (ltb (length xs) L.front_slots) refl
    where
      xs : List ℕ
      xs = in_front L f img

      others : List ℕ
      others = overflow_in L B f img

      go : (b : Bool) → ltb (length xs) L.front_slots ≡ b → (xs : List ℕ) × (members_at L B f img ≡ accepted xs) × Members L B f img xs
      go true e = (
        xs,
        rw (good.front f h, e) refl,
        record {
          order = (good.front_good f h).order;
          range = (good.front_good f h).range;
          each = λ y. omega (arith, over_none L B img good f h y (λ full l. omega (arith, ltb-true (length xs) L.front_slots e)));
        },
      )
      go false e = (
        added_all xs others,
        rw (good.front f h, e, bucket_of-read L B f img good h true, bucket_of-read L B f img good h false) refl,
        record {
          order = ascending-added_all xs others (ascending-overflow_in L B f img good h);
          range = below-added_all (keys L) xs others (good.front_good f h).range (below-overflow_in L B f img good h);
          each = λ y. omega (arith, copies-added_all y xs others, copies-overflow_in L B f img y);
        },
      )

  module _ (N : ℕ → ℕ) (says : Says L B N img) where
    -- what one front bucket adds to a run
    bucket-segment : (s : ℕ) (xs : List ℕ) → s < fronts B → Members L B s img xs → Segment N (s * keys L) (suc s * keys L) (map (fingerprint L s) xs)
    unfolding fingerprint
    bucket-segment s xs h m =
        rw (suc-mul s (keys L))
        (segment-shifted N (s * keys L) (keys L) xs m.order m.range (λ y l. m.each y ∙ sym (says s y h l)))

    pub bucket-length : (s : ℕ) (xs : List ℕ) → s < fronts B → Members L B s img xs → length xs ≡ sum N (fingerprint L s 0) (keys L)
    unfolding fingerprint
    bucket-length s xs h m = length-sum N (s * keys L) (keys L) xs m.range (λ y l. m.each y ∙ sym (says s y h l))

    -- bucket s, then the rest of the run; or nothing, where it does not fit
    run_on : (n s room : ℕ) (xs : List ℕ) (r : Run) → s < fronts B → Members L B s img xs → length xs ≤ room → Ran L N n (suc s) (room - length xs) r
        → Ran L N (suc n) s room (record { entries = map (fingerprint L s) xs ++ r.entries; next = r.next })
    run_on n s room xs r h m fits rest =
        record {
          start = omega (arith, rest.start);
          stop = omega (arith, rest.stop);
          segment = segment-append N (s * keys L) (suc s * keys L) (r.next * keys L) (map (fingerprint L s) xs) r.entries
              (mul-le-mul_right (keys L) (omega arith)) (mul-le-mul_right (keys L) rest.start) (bucket-segment s xs h m) rest.segment;
          moves = λ p l. rest.start;
          stays = λ l. absurd (omega (arith, bucket-length s xs h m));
        }

    run-stop : (n s room : ℕ) → (0 < n → room < sum N (fingerprint L s 0) (keys L)) → Ran L N n s room (record { entries = []; next = s })
    run-stop n s room over =
        record {
          start = omega arith;
          stop = omega arith;
          segment = segment-none N (s * keys L);
          moves = λ p l. absurd (omega (arith, over p));
          stays = λ l. refl;
        }

    run-good : (n s room : ℕ) → s + n ≡ fronts B → (r : Run) × (run_from L B n s room img ≡ accepted r) × Ran L N n s room r
    unfolding run_from
    run-good zero s room h =
        (record { entries = []; next = s }, refl, run-stop zero s room (λ p. absurd (omega arith)))
    run-good (suc n) s room h =
        let ms = members-good s (omega arith) in
        let xs : List ℕ = ms.0 in
        go xs ms.1 ms.2 (leb (length xs) room) refl (run-good n (suc s) (room - length xs) (omega arith))
      where
        go : (xs : List ℕ) → members_at L B s img ≡ accepted xs → Members L B s img xs → (b : Bool) → leb (length xs) room ≡ b
            → (r : Run) × (run_from L B n (suc s) (room - length xs) img ≡ accepted r) × Ran L N n (suc s) (room - length xs) r
            → (r : Run) × (run_from L B (suc n) s room img ≡ accepted r) × Ran L N (suc n) s room r
        go xs e m true l rest = (
          record { entries = map (fingerprint L s) xs ++ rest.0.entries; next = rest.0.next },
          rw (e, l, rest.1) refl,
          run_on n s room xs rest.0 (omega arith) m (leb-true _ _ l) rest.2,
        )
        go xs e m false l rest = (
          record { entries = []; next = s },
          rw (e, l) refl,
          run-stop (suc n) s room (λ p. omega (arith, leb-false (length xs) room l, bucket-length s xs (omega arith) m)),
        )

    pub page-good : (s room : ℕ) → Paged L B N s room img
    unfolding page_from
    page-good s room = go (ltb (fronts B) s) refl
      where
        -- a run from s ≤ F that stays before the end is 7
        ends : s ≤ fronts B → (r : Run) → run_from L B (fronts B - s) s room img ≡ accepted r → Ran L N (fronts B - s) s room r
            → (a b : Bool) → eqb r.next s ≡ a → ltb s (fronts B) ≡ b → Paged L B N s room img
        ends l r e m true true p q =
            let before : s < fronts B = ltb-true _ _ q in
            let stayed : r.next ≡ s = eqb-true _ _ p in
            unfit (rw (le-ltb (fronts B) s l, e, p, q) refl) before
            (by_contra (suc room) (sum N (fingerprint L s 0) (keys L)) (λ o. omega (arith, m.moves (omega arith) (omega arith))))
        ends l r e m true false p q =
            let end : fronts B ≤ s = ltb-false _ _ q in
            listed r (rw (le-ltb (fronts B) s l, e, p, q) refl) l (λ o. absurd (omega arith)) m.start (omega (arith, m.stop)) m.segment
        ends l r e m false b p q =
            listed r (rw (le-ltb (fronts B) s l, e, p) refl) l
            (λ o. by_contra (sum N (fingerprint L s 0) (keys L)) room (λ k. eqb-false r.next s p (m.stays k)))
            m.start (omega (arith, m.stop)) m.segment

        go : (b : Bool) → ltb (fronts B) s ≡ b → Paged L B N s room img
        go true e = beyond (rw e refl) (ltb-true _ _ e)
        go false e =
            let l : s ≤ fronts B = ltb-false _ _ e in
            let run = run-good (fronts B - s) s room (omega arith) in
            ends l run.0 run.1 run.2 (eqb run.0.next s) (ltb s (fronts B)) refl refl
