-- An insert keeps the invariant: it is accepted and there is one copy more, or it is refused with 4 and the front bucket and both
-- its backyard buckets are full. Main result: `insert-keeps`.
use mathlib.Core.Path.{◌≡◌, refl, ap, ◌∙◌}
use Prim.Native.Nat.{ℕ, ◌+◌, ◌*◌, ◌≤◌, ◌<◌, max}
use mathlib.Core.Bool.{Bool, true, false, ◌&&◌}
use mathlib.Core.List.{List}
use native.Mathlib.Omega.{arith}
use native.Mathlib.Decide.{ℕ_discrete}
use lib.ListN.{length}
use lib.Dec.{ltb, eqb}
use borrow.Author.Tests.{ltb-true, ltb-false, eq-eqb, ne_eqb}
use Rattle.multiset.specs.Multisets.{added, removed, copies, largest}
use Rattle.multiset.proofs.MultisetLaws.{hit, copies-added, copies-removed, length-added, hit-equal, equal-of-hit, hit-le-one}
use Rattle.multiset.proofs.OrderLaws.{largest-added, largest-max, copies-largest, largest-le}
use Rattle.crumbmap.specs.Layouts.{Layout, keys, fronts}
use Rattle.crumbmap.specs.CrumbMap.{bucket_of, crumb_of, allowed}
use Rattle.buckets.specs.Buckets.{Fits64, FrontList}
use Rattle.machine.specs.Results.{accepted, refused}
use Rattle.machine.specs.Images.{front_at, back_at, in_front, in_back, put_front, put_back}
use Rattle.machine.specs.Machine.{take_in, insert_at, full}
use Rattle.machine.proofs.Invariant.{Good, OneMore}
use Rattle.machine.proofs.OverflowLaws.{bucket_of-read, backyard-good, bucket_of-list}
use Rattle.machine.proofs.ChoiceLaws.{chosen-allowed}
use Rattle.machine.proofs.Members.{cond-choice, front_list-added}
use Rattle.machine.proofs.StayLaws.{length_rest, top-range, rest-list}
use Rattle.machine.proofs.Changes.{FrontWritten, OneOver, front-written, back-joined}
use Rattle.machine.proofs.TakeLaws.{TakesIn, refuses, takes, room-chosen, take_in-cases, insert_at-room, insert_at-over}

pub data Inserted (L : Layout) (B f x : ℕ) (img : List ℕ) : Type 0 where
  took : (a : ℕ) (now : List ℕ) → insert_at L B f x img ≡ accepted (record { answer = a; image = now })
      → full L B f img ≡ false → Good L B now → OneMore L B f x img now → Inserted L B f x img
  stuck : insert_at L B f x img ≡ refused 4 0 → full L B f img ≡ true → Inserted L B f x img

module _ (L : Layout) (fits : Fits64 L) (B f x : ℕ) (img : List ℕ) (good : Good L B img) (h : f < fronts B) (k : x < keys L) where
  abbrev xs : List ℕ
  xs = in_front L f img

  abbrev ys : Bool → List ℕ
  ys t = in_back L B (bucket_of t B f) img

  read : front_at L f img ≡ accepted xs
  read = good.front f h

  read_back : (t : Bool) → back_at L B (bucket_of t B f) img ≡ accepted (ys t)
  read_back = bucket_of-read L B f img good h

  list : FrontList L xs
  list = good.front_good f h

  full_is : full L B f img ≡ (eqb (length xs) L.front_slots && eqb (length (ys true)) L.back_slots && eqb (length (ys false)) L.back_slots)
  unfolding full
  full_is = rw (read, read_back true, read_back false)

  -- the front bucket has a slot left
  joins : length xs < L.front_slots → Inserted L B f x img
  joins r =
      took 0 (put_front L f (added x xs) img) (insert_at-room L B f x img xs read r)
      (rw (full_is, ne_eqb (length xs) L.front_slots (omega arith))) w.good record {
        here = λ y. omega (arith, ap (copies y) w.here, copies-added y x xs, w.parts true f y, w.parts false f y);
        elsewhere = λ e y l n. omega (arith, ap (copies y) (w.elsewhere e n), w.parts true e y, w.parts false e y);
      }
    where
      w : FrontWritten L B f (added x xs) img (put_front L f (added x xs) img)
      w = front-written L fits B f h img good (added x xs) (front_list-added L x xs list k r) (λ y o. absurd (omega (arith, (good.turn f y h o).0)))

  -- what goes, and what remains in front
  abbrev top : ℕ
  top = largest (added x xs)

  abbrev rest : List ℕ
  rest = removed top (added x xs)

  abbrev mid : List ℕ
  mid = put_front L f rest img

  top_in : 0 < copies top (added x xs)
  top_in = copies-largest (added x xs) (omega (arith, length-added x xs))

  top-max : top ≡ max x (largest xs)
  top-max = largest-added x xs list.order

  copies-rest : (z : ℕ) → hit z top + copies z rest ≡ hit z x + copies z xs
  copies-rest z = omega (arith, copies-added z x xs, copies-removed z top (added x xs) top_in)

  -- no member that remains is larger than the largest before
  rest_le : largest rest ≤ largest xs
  rest_le = largest-le (largest xs) rest λ z o. elim (ℕ_discrete (copies z xs) 0) [
    | yes p ↦
        let e : z ≡ x = equal-of-hit z x (omega (arith, copies-rest z)) in
        let n : z ≡ top → ⊥ = λ q. omega (arith, hit-equal z top q, hit-le-one z x, copies-rest z) in
        omega (arith, top-max)
    | no n ↦ largest-max z xs list.order (omega arith)
  ]

  -- "the largest of Front(f) and g goes to" the backyard bucket of choice t
  abbrev now : Bool → List ℕ
  now t = put_back L B (bucket_of t B f) (added (top * 16 + crumb_of t f) (ys t)) mid

  spilled : (t : Bool) → allowed t B f ≡ true → length xs ≡ L.front_slots → length (ys t) < L.back_slots → Good L B (now t) × OneMore L B f x img (now t)
  spilled t a s r = (
    o.0,
    record {
      here = λ y. omega (arith, ap (copies y) (o.1.views f h ∙ w.here), o.1.here y, copies-rest y, w.parts true f y, w.parts false f y);
      elsewhere = λ e y l n.
          omega (arith, ap (copies y) (o.1.views e l ∙ w.elsewhere e n), o.1.elsewhere e y l n, w.parts true e y, w.parts false e y);
    },
  )
    where
      w : FrontWritten L B f rest img mid
      w = front-written L fits B f h img good rest (rest-list L x xs list k) (λ y o. (omega (arith, length_rest x xs), omega (arith, rest_le, (good.turn f y h o).1)))

      o : Good L B (now t) × OneOver L B f top mid (now t)
      o = rw (w.backs (bucket_of t B f)) at (back-joined L fits B f top h mid w.good t a (top-range L x xs list k)
          (rw (w.backs (bucket_of t B f)) r) (rw w.here (omega (arith, length_rest x xs))) (rw w.here (omega (arith, rest_le, top-max))))

  -- the front bucket has no slot left: the backyard takes the largest
  insert-over : length xs ≡ L.front_slots → insert_at L B f x img ≡ take_in L B f top (ys true, ys false) mid
  insert-over s = insert_at-over L B f x img xs (ys true) (ys false) read (omega arith) (backyard-good L B f img good h)

  at-full : length xs ≡ L.front_slots → TakesIn L B f top (ys true) (ys false) mid → Inserted L B f x img
  at-full s (refuses p q e) =
      stuck (insert-over s ∙ e)
      (rw (full_is, eq-eqb (length xs) L.front_slots s, eq-eqb (length (ys true)) L.back_slots p, eq-eqb (length (ys false)) L.back_slots q))
  at-full s (takes t c r e) =
      let o : Good L B (now t) × OneMore L B f x img (now t) =
      spilled t (chosen-allowed B f (λ (j : ℕ). length (in_back L B j img)) t c) s (rw (cond-choice ys t) at r) in
      took (1 + bucket_of t B f) (now t) (insert-over s ∙ rw (cond-choice ys t) at e)
      (rw (full_is, eq-eqb (length xs) L.front_slots s) (room-chosen L.back_slots t (ys true) (ys false) r)) o.0 o.1

  by-room : (b : Bool) → ltb (length xs) L.front_slots ≡ b → Inserted L B f x img
  by-room true e = joins (ltb-true (length xs) L.front_slots e)
  by-room false e =
      at-full (omega (arith, ltb-false (length xs) L.front_slots e, list.room))
      (take_in-cases L B f top (ys true) (ys false) mid (bucket_of-list L B f img good h true).room (bucket_of-list L B f img good h false).room)

module _ (L : Layout) (fits : Fits64 L) where
  pub insert-keeps : (B f x : ℕ) (img : List ℕ) → Good L B img → f < fronts B → x < keys L → Inserted L B f x img
  insert-keeps B f x img good h k = by-room L fits B f x img good h k (ltb (length (in_front L f img)) L.front_slots) refl
