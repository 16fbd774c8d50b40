-- A delete keeps the invariant: it is accepted and there is one copy less, or it is refused with 5 and there was none.
-- Main result: `delete-keeps`.
use mathlib.Core.Path.{◌≡◌, refl, sym, ap, ◌∙◌}
use Prim.Native.Nat.{ℕ, suc, ◌+◌, ◌*◌, ◌≤◌, ◌<◌}
use mathlib.Core.Bool.{Bool, true, false, ◌&&◌}
use mathlib.Core.List.{List, [], ◌∷◌}
use native.Mathlib.Omega.{arith, by_contra}
use native.Mathlib.Decide.{ℕ_discrete}
use lib.ListN.{length}
use lib.Dec.{ltb, eqb, T}
use borrow.Author.Tests.{lt-ltb, le-ltb, eq-eqb}
use Rattle.multiset.specs.Multisets.{added, removed, copies, largest, ascending}
use Rattle.multiset.proofs.MultisetLaws.{copies-cons, copies-added, copies-removed, length-added, length_removed, below-copies, hit-equal, equal-of-hit}
use Rattle.multiset.proofs.OrderLaws.{largest-max, copies-largest, head-least, largest-le}
use Rattle.crumbmap.specs.Layouts.{Layout, keys, fronts}
use Rattle.crumbmap.specs.CrumbMap.{bucket_of, crumb_of}
use Rattle.buckets.specs.Buckets.{Fits64, FrontList}
use Rattle.machine.specs.Results.{Result, accepted, refused}
use Rattle.machine.specs.Images.{front_at, back_at, in_front, in_back, put_front, put_back}
use Rattle.machine.specs.Bags.{from_first}
use Rattle.machine.specs.Machine.{Change, changed, take_out, overflow, bag_in, overflow_in, refill, delete_at}
use Rattle.machine.proofs.BagLaws.{has-yes, has_no, from_first-has}
use Rattle.machine.proofs.Invariant.{part, over, total, Good, OneMore}
use Rattle.machine.proofs.OverflowLaws.{copies-bag_in, copies-overflow_in, bucket_of-read, ascending-overflow_in, below-overflow_in}
use Rattle.machine.proofs.Members.{cond-choice, front_list-removed, front_list-swapped}
use Rattle.machine.proofs.Changes.{FrontWritten, OneOver, front-written, back-left}

pub data Deleted (L : Layout) (B f x : ℕ) (img : List ℕ) : Type 0 where
  gone : (a : ℕ) (now : List ℕ) → delete_at L B f x img ≡ accepted (record { answer = a; image = now })
      → Good L B now → OneMore L B f x now img → Deleted L B f x img
  absent : delete_at L B f x img ≡ refused 5 0 → total L B f x img ≡ 0 → Deleted L B f x img

module _ (L : Layout) (fits : Fits64 L) (B f x : ℕ) (img : List ℕ) (good : Good L B img) (h : f < fronts B) where
  abbrev xs : List ℕ
  xs = in_front L f img

  abbrev ys : Bool → List ℕ
  ys t = in_back L B (bucket_of t B f) img

  -- f's members among them
  abbrev zs : Bool → List ℕ
  zs t = bag_in L B f t img

  read : front_at L f img ≡ accepted xs
  read = good.front f h

  read_back : (t : Bool) → back_at L B (bucket_of t B f) img ≡ accepted (ys t)
  read_back = bucket_of-read L B f img good h

  list : FrontList L xs
  list = good.front_good f h

  -- the choice that v is taken from, which has it where either has
  abbrev choice : ℕ → Bool
  choice v = from_first v (zs true) (zs false) (length (ys true)) (length (ys false))

  choice-has : (v : ℕ) → 0 < over L B f v img → 0 < part L B (choice v) f v img
  choice-has v o =
      rw (← copies-bag_in L B f img (choice v) v, ← cond-choice zs (choice v))
      (from_first-has v (zs true) (zs false) (length (ys true)) (length (ys false))
      (omega (arith, copies-bag_in L B f img true v, copies-bag_in L B f img false v)))

  -- the image `old` after v left the backyard bucket that has it
  abbrev without : ℕ → List ℕ → List ℕ
  without v old = put_back L B (bucket_of (choice v) B f) (removed (v * 16 + crumb_of (choice v) f) (ys (choice v))) old

  take_out-is : (v : ℕ) (old : List ℕ) → take_out L B f v (ys true, ys false) old ≡ changed (1 + bucket_of (choice v) B f) (without v old)
  unfolding take_out
  take_out-is v old = rw (cond-choice ys (choice v))

  -- a front bucket without overflow has one copy less
  abbrev thin : List ℕ
  thin = put_front L f (removed x xs) img

  thins : 0 < copies x xs → ((y : ℕ) → over L B f y img ≡ 0) → Good L B thin × OneMore L B f x thin img
  thins c none = (
    w.good,
    record {
      here = λ y. omega (arith, ap (copies y) w.here, copies-removed y x xs c, w.parts true f y, w.parts false f y);
      elsewhere = λ e y l n. omega (arith, ap (copies y) (w.elsewhere e n), w.parts true e y, w.parts false e y);
    },
  )
    where
      w : FrontWritten L B f (removed x xs) img thin
      w = front-written L fits B f h img good (removed x xs) (front_list-removed L x xs list c) (λ y o. absurd (omega (arith, none y, o)))

  -- a list of all of f's overflow, ascending
  record Overflows (vs : List ℕ) : Type 0 where
    each : (y : ℕ) → copies y vs ≡ over L B f y img
    order : T (ascending vs)

  -- x left the front bucket, and v, the smallest of the overflow, came in its place
  abbrev mid : ℕ → List ℕ
  mid v = put_front L f (added v (removed x xs)) img

  refilled : (v : ℕ) (vs : List ℕ) → Overflows (v ∷ vs) → 0 < copies x xs → length xs ≡ L.front_slots
      → Good L B (without v (mid v)) × OneMore L B f x (without v (mid v)) img
  refilled v vs e c s = (
    o.0,
    record {
      here = λ y. omega (
        arith,
        ap (copies y) (sym (o.1.views f h) ∙ w.here),
        o.1.here y,
        copies-added y v (removed x xs),
        copies-removed y x xs c,
        w.parts true f y,
        w.parts false f y,
      );
      elsewhere = λ e y l n. omega (
        arith,
        ap (copies y) (sym (o.1.views e l) ∙ w.elsewhere e n),
        o.1.elsewhere e y l n,
        w.parts true e y,
        w.parts false e y,
      );
    },
  )
    where
      least : (y : ℕ) → 0 < over L B f y img → v ≤ y
      least y o = head-least y v vs e.order (omega (arith, e.each y))

      v-over : 0 < over L B f v img
      v-over = omega (arith, e.each v, copies-cons v v vs, hit-equal v v refl)

      v-key : v < keys L
      v-key = below-copies (keys L) v (overflow_in L B f img) (below-overflow_in L B f img good h) (omega (arith, copies-overflow_in L B f img v, v-over))

      short : length xs ≡ suc (length (removed x xs))
      short = length_removed x xs c

      members : (y z : ℕ) → 0 < over L B f y img → 0 < copies z (added v (removed x xs)) → z ≤ y
      members y z o m = elim (ℕ_discrete (copies z (removed x xs)) 0) [
        | yes p ↦ omega (arith, equal-of-hit z v (omega (arith, copies-added z v (removed x xs), p, m)), least y o)
        | no n ↦ omega (arith, largest-max z xs list.order (omega (arith, copies-removed z x xs c)), (good.turn f y h o).1)
      ]

      w : FrontWritten L B f (added v (removed x xs)) img (mid v)
      w = front-written L fits B f h img good (added v (removed x xs))
          (front_list-swapped L x v xs list c v-key)
          (λ y o. (omega (arith, short, length-added v (removed x xs)), largest-le y (added v (removed x xs)) (λ z m. members y z o m)))

      o : Good L B (without v (mid v)) × OneOver L B f v (without v (mid v)) (mid v)
      o = rw (w.backs (bucket_of (choice v) B f)) at
          (back-left L fits B f v h (mid v) w.good (choice v) (rw (w.parts (choice v) f v) (choice-has v v-over)))

  no_slot : length xs ≡ L.front_slots → ltb (length xs) L.front_slots ≡ false
  no_slot s = le-ltb (length xs) L.front_slots (omega arith)

  -- x stands in front, with a slot left there
  shrinks : 0 < copies x xs → length xs < L.front_slots → Deleted L B f x img
  unfolding delete_at
  shrinks c r =
      let none : (y : ℕ) → over L B f y img ≡ 0 = λ y. omega (arith, by_contra (over L B f y img) 0 (λ o. omega (arith, (good.turn f y h o).0))) in
      let p : Good L B thin × OneMore L B f x thin img = thins c none in
      gone 0 thin (rw (read, has-yes x xs c, lt-ltb (length xs) L.front_slots r)) p.0 p.1

  -- a call that gave r took one copy of x out
  record Took (r : Result Change) : Type 0 where
    answer : ℕ
    now : List ℕ
    is : r ≡ changed answer now
    good-now : Good L B now
    less : OneMore L B f x now img

  -- x stands in front, with no slot left there: the overflow refills it
  refill-took : (vs : List ℕ) → Overflows vs → 0 < copies x xs → length xs ≡ L.front_slots
      → Took (refill L B f (removed x xs) vs (ys true, ys false) img)
  unfolding refill copies
  refill-took [] e c s =
      let p : Good L B thin × OneMore L B f x thin img = thins c (λ y. sym (e.each y)) in
      record { answer = 0; now = thin; is = refl; good-now = p.0; less = p.1 }
  refill-took (v ∷ vs) e c s =
      let p : Good L B (without v (mid v)) × OneMore L B f x (without v (mid v)) img = refilled v vs e c s in
      record { answer = 1 + bucket_of (choice v) B f; now = without v (mid v); is = take_out-is v (mid v); good-now = p.0; less = p.1 }

  delete-took : 0 < copies x xs → length xs ≡ L.front_slots → Took (delete_at L B f x img)
  unfolding delete_at overflow
  delete-took c s =
      rw (read, has-yes x xs c, no_slot s, read_back true, read_back false)
      (refill-took _ (record { each = λ y. omega (arith, copies-overflow_in L B f img y); order = ascending-overflow_in L B f img good h }) c s)

  refills : 0 < copies x xs → length xs ≡ L.front_slots → Deleted L B f x img
  refills c s =
      let t : Took (delete_at L B f x img) = delete-took c s in
      gone t.answer t.now t.is t.good-now t.less

  -- x may stand in the backyard: "Front(f) holds 28 and g exceeds its largest"
  abbrev beyond : Bool
  beyond = eqb (length xs) L.front_slots && ltb (largest xs) x

  leaves : copies x xs ≡ 0 → beyond ≡ true → 0 < over L B f x img → Deleted L B f x img
  unfolding delete_at overflow
  leaves n s o =
      gone (1 + bucket_of (choice x) B f) (without x img)
      (rw (read, has_no x xs n, s, read_back true, read_back false, has-yes x (overflow_in L B f img) (rw (copies-overflow_in L B f img x) o)) (take_out-is x img))
      p.0 record {
        here = λ y. omega (arith, ap (copies y) (p.1.views f h), p.1.here y);
        elsewhere = λ e y l n. omega (arith, ap (copies y) (p.1.views e l), p.1.elsewhere e y l n);
      }
    where
      p : Good L B (without x img) × OneOver L B f x (without x img) img
      p = back-left L fits B f x h img good (choice x) (choice-has x o)

  -- x stands nowhere
  misses : copies x xs ≡ 0 → over L B f x img ≡ 0 → (b : Bool) → beyond ≡ b → Deleted L B f x img
  unfolding delete_at overflow
  misses n z true s = absent
      (rw (read, has_no x xs n, s, read_back true, read_back false, has_no x (overflow_in L B f img) (rw (copies-overflow_in L B f img x) z)))
      (omega arith)
  misses n z false s = absent (rw (read, has_no x xs n, s)) (omega arith)

  -- where x stands in the backyard alone, it is looked for there
  over-beyond : copies x xs ≡ 0 → 0 < over L B f x img → beyond ≡ true
  over-beyond n o =
      let t : (length xs ≡ L.front_slots) × (largest xs ≤ x) = good.turn f x h o in
      elim (ℕ_discrete x (largest xs)) [
        | yes p ↦ absurd (omega (arith, copies-largest xs (omega (arith, fits.slots)), ap (λ (z : ℕ). copies z xs) p))
        | no m ↦ rw (eq-eqb (length xs) L.front_slots t.0) (lt-ltb (largest xs) x (omega arith))
      ]

module _ (L : Layout) (fits : Fits64 L) where
  pub delete-keeps : (B f x : ℕ) (img : List ℕ) → Good L B img → f < fronts B → x < keys L → Deleted L B f x img
  delete-keeps B f x img good h k =
      let xs : List ℕ = in_front L f img in
      elim (ℕ_discrete (copies x xs) 0) [
        | yes n ↦ elim (ℕ_discrete (over L B f x img) 0) [
          | yes z ↦ misses L fits B f x img good h n z (beyond L fits B f x img good h) refl
          | no o ↦ leaves L fits B f x img good h n (over-beyond L fits B f x img good h n (omega arith)) (omega arith)
        ]
        | no c ↦ elim (ℕ_discrete (length xs) L.front_slots) [
          | yes s ↦ refills L fits B f x img good h (omega arith) s
          | no r ↦ shrinks L fits B f x img good h (omega arith) (omega (arith, (good.front_good f h).room))
        ]
      ]
