-- How many members there can be: in a bucket at most_members L its slots, of a front bucket at most_members L its slots and those of two backyard buckets,
-- on a page at most_members L so many a bucket. Main results: front-room, back-room, members-room, run-count, run-whole.
use mathlib.Core.Path.{◌≡◌, refl, sym}
use Prim.Native.Nat.{ℕ, zero, suc, ◌+◌, ◌*◌, ◌-◌, ◌≤◌, ◌<◌}
use mathlib.Core.Bool.{Bool, true, false, cond}
use mathlib.Core.List.{List, [], ◌∷◌, map}
use mathlib.Core.Option
use mathlib.Core.Option.{Option, none, some, bind-eq-some_iff}
use native.Mathlib.Nat.{le_trans, suc-mul}
use native.Mathlib.Omega.{arith}
use lib.ListN.{length, length-append, length-map}
use lib.Dec.{leb, ltb, eqb}
use borrow.Author.Tests.{le-leb}
use Rattle.multiset.specs.Multisets.{copies, slot_of, Found, found_in}
use Rattle.multiset.proofs.MultisetLaws.{copies-le-length}
use Rattle.crumbmap.specs.Layouts.{Layout, most_members}
use Rattle.crumbmap.specs.CrumbMap.{first_bucket, second_bucket, first_crumb, second_crumb}
use Rattle.crumbmap.specs.Fingerprints.{fingerprint}
use Rattle.buckets.specs.Buckets.{front_members, back_members}
use Rattle.machine.specs.Results.{accepted, and_then}
use Rattle.machine.specs.Images.{bucket_at, front_at, back_at}
use Rattle.machine.specs.Bags.{added_all}
use Rattle.machine.specs.Machine.{backyard, overflow, members_at}
use Rattle.machine.specs.Pages.{Run, stopped, prepended, run_from}
use Rattle.multiset.specs.Digits.{joined}
use Rattle.multiset.proofs.DigitLaws.{length-joined-min}
use Rattle.buckets.proofs.SlotBytes.{given-some, slot_keys-short}
use Rattle.buckets.proofs.CarryLaws.{length-carrying}
use Rattle.machine.proofs.BagLaws.{length-added_all}
use Rattle.machine.proofs.AcceptedLaws.{same_answer, was-sound, and_then-accepted}

joined-le : (k : ℕ) (ms rs : List ℕ) → length (joined k ms rs) ≤ length ms
joined-le k ms rs = omega (arith, length-joined-min k ms rs)

some-eq : {A : Type 0} (a b : A) → some a ≡ some b → a ≡ b
some-eq a b e = cc

module _ (L : Layout) where
  -- ---- one bucket

  pub front-room : (b xs : List ℕ) → front_members L b ≡ some xs → length xs ≤ L.front_slots
  unfolding front_members
  front-room b xs e =
      let s = (bind-eq-some_iff _ _).0 e in
      let g = given-some _ _ xs s.2 in
      let h = given-some _ _ xs g.1 in
      let q = some-eq _ xs h.1 in
      rw (sym q) (slot_keys-short L L.front_slots b s.0 s.1)

  pub back-room : (B j : ℕ) (b ys : List ℕ) → back_members L B j b ≡ some ys → length ys ≤ L.back_slots
  unfolding back_members
  back-room B j b ys e =
      let s = (bind-eq-some_iff _ _).0 e in
      let g = given-some _ _ ys s.2 in
      let h = given-some _ _ ys g.1 in
      let k = given-some _ _ ys h.1 in
      let q = some-eq _ ys k.1 in
      rw (sym q) (le_trans (joined-le 16 s.0 _) (slot_keys-short L L.back_slots b s.0 s.1))

  pub front_at-room : (f : ℕ) (img xs : List ℕ) → front_at L f img ≡ accepted xs → length xs ≤ L.front_slots
  unfolding front_at
  front_at-room f img xs e = front-room (bucket_at f img) xs (was-sound _ _ xs e)

  pub back_at-room : (B j : ℕ) (img ys : List ℕ) → back_at L B j img ≡ accepted ys → length ys ≤ L.back_slots
  unfolding back_at
  back_at-room B j img ys e = back-room B j _ ys (was-sound _ _ ys e)

  -- ---- the members of a front bucket

  -- what both backyard buckets hold
  pub backyard-room : (B f : ℕ) (img : List ℕ) (b : List ℕ × List ℕ) → backyard L B f img ≡ accepted b
      → (length b.0 ≤ L.back_slots) × (length b.1 ≤ L.back_slots)
  backyard-room B f img b e =
      let y = and_then-accepted _ _ b e in
      let z = and_then-accepted _ _ b y.2 in
      let q = same_answer z.2 in
      let m = back_at-room B (first_bucket f) img y.0 y.1 in
      let n = back_at-room B (second_bucket B f) img z.0 z.1 in
      rw (sym q) (m, n)

  members-go : (B f : ℕ) (img xs ys : List ℕ) (t : Bool) → length xs ≤ L.front_slots
      → cond t (accepted xs) (and_then (backyard L B f img) λ b. accepted (added_all xs (overflow L B f b))) ≡ accepted ys → length ys ≤ most_members L
  unfolding overflow
  members-go B f img xs ys true h e = let q = same_answer e in rw (sym q) (omega arith)
  members-go B f img xs ys false h e =
      let b = and_then-accepted _ _ ys e in
      let q = same_answer b.2 in
      let r = backyard-room B f img b.0 b.1 in
      rw (sym q, length-added_all, length-added_all)
      (omega (arith, length-carrying (first_crumb f) b.0.0, length-carrying (second_crumb f) b.0.1, r.0, r.1))

  pub members-room : (B f : ℕ) (img xs : List ℕ) → members_at L B f img ≡ accepted xs → length xs ≤ most_members L
  unfolding members_at
  members-room B f img xs e =
      let s = and_then-accepted _ _ xs e in
      members-go B f img s.0 xs (ltb (length s.0) L.front_slots) (front_at-room f img s.0 s.1) s.2

  -- ---- runs

  -- a run of at most_members L n buckets has at most_members L so many entries, and ends at or before the n-th
  pub run-count : (B n s room : ℕ) (img : List ℕ) (r : Run) → run_from L B n s room img ≡ accepted r
      → (length r.entries ≤ n * most_members L) × (r.next ≤ s + n)
  unfolding run_from
  run-count B zero s room img r e = let q = same_answer e in rw (sym q) (omega arith, omega arith)
  run-count B (suc n) s room img r e =
      let m = and_then-accepted _ _ r e in
      go m.0 (leb (length m.0) room) (members-room B s img m.0 m.1) (λ l k. run-count B n (suc s) l img k) m.2
    where
      go : (xs : List ℕ) (t : Bool) → length xs ≤ most_members L
          → ((l : ℕ) (k : Run) → run_from L B n (suc s) l img ≡ accepted k → (length k.entries ≤ n * most_members L) × (k.next ≤ suc s + n))
          → cond t (prepended (map (fingerprint L s) xs) (run_from L B n (suc s) (room - length xs) img)) (stopped s) ≡ accepted r
          → (length r.entries ≤ suc n * most_members L) × (r.next ≤ s + suc n)
      go xs true h more g =
          let k = and_then-accepted _ _ r g in
          let i = more (room - length xs) k.0 k.1 in
          let q = same_answer k.2 in
          rw (sym q) (rw (length-append, length-map) (omega (arith, i.0, suc-mul n (most_members L))), omega (arith, i.1))
      go xs false h more g = let q = same_answer g in rw (sym q) (omega arith, omega arith)

  -- with room for all, the run never stops
  pub run-whole : (B n s room : ℕ) (img : List ℕ) (r : Run) → n * most_members L ≤ room → run_from L B n s room img ≡ accepted r → r.next ≡ s + n
  unfolding run_from
  run-whole B zero s room img r l e = let q = same_answer e in rw (sym q) (omega arith)
  run-whole B (suc n) s room img r l e =
      let m = and_then-accepted _ _ r e in
      go m.0 (members-room B s img m.0 m.1) (λ l k. run-whole B n (suc s) l img k) m.2
    where
      go : (xs : List ℕ) → length xs ≤ most_members L
          → ((l : ℕ) (k : Run) → n * most_members L ≤ l → run_from L B n (suc s) l img ≡ accepted k → k.next ≡ suc s + n)
          → cond (leb (length xs) room) (prepended (map (fingerprint L s) xs) (run_from L B n (suc s) (room - length xs) img)) (stopped s) ≡ accepted r
          → r.next ≡ s + suc n
      go xs h more g =
          let p : suc n * most_members L ≡ n * most_members L + most_members L = suc-mul n (most_members L) in
          let t : leb (length xs) room ≡ true = le-leb (length xs) room (omega arith) in
          let k = and_then-accepted {A = Run} _ _ r (rw t at g) in
          let i : k.0.next ≡ suc s + n = more (room - length xs) k.0 (omega arith) k.1 in
          let q = same_answer k.2 in
          rw (sym q) (omega arith)

-- ---- where a member stands

slot_of-lt : (x : ℕ) (ys : List ℕ) (i : ℕ) → slot_of x ys ≡ some i → i < length ys
unfolding slot_of
slot_of-lt x [] i e = let z : ◌≡◌ {A = ℕ} 0 1 = cc in absurd (omega arith)
slot_of-lt x (y ∷ ys) i e = go (eqb x y) (slot_of x ys) (λ j. slot_of-lt x ys j) e
  where
    go : (b : Bool) (o : Option ℕ) → ((j : ℕ) → o ≡ some j → j < length ys) → cond b (some 0) (Option.map (λ (j : ℕ). suc j) o) ≡ some i
        → i < suc (length ys)
    go true o more g = let q = some-eq 0 i g in omega arith
    go false none more g = let z : ◌≡◌ {A = ℕ} 0 1 = cc in absurd (omega arith)
    go false (some j) more g = let q = some-eq (suc j) i g in omega (arith, more j refl)

-- its slot is one of the members', and its copies are no more than these
pub found-room : (x : ℕ) (ys : List ℕ) (s : Found) → found_in x ys ≡ some s → (s.slot < length ys) × (s.copies ≤ length ys)
unfolding found_in
found-room x ys s e = go (slot_of x ys) refl e
  where
    go : (o : Option ℕ) → slot_of x ys ≡ o → Option.map (λ (i : ℕ). record { slot = i; copies = copies x ys }) o ≡ some s
        → (s.slot < length ys) × (s.copies ≤ length ys)
    go none p q = let z : ◌≡◌ {A = ℕ} 0 1 = cc in absurd (omega arith)
    go (some i) p q =
        let r = some-eq _ s q in
        rw (sym r) (slot_of-lt x ys i p, copies-le-length x ys)
