-- The backyard bucket that takes an overflow: the one rule of `take_in`, by the counts of the two buckets.
-- Main results: `take_in-full`, `take_in-on` with its cases `take_in-first` and `take_in-second`, and `take_in-cases`, that it is one of these;
-- a push and an insert into a full front bucket come to it, `push_at-read` and `insert_at-over`.
use mathlib.Core.Path.{◌≡◌, refl}
use Prim.Native.Nat.{ℕ, ◌+◌, ◌*◌, ◌≤◌, ◌<◌}
use mathlib.Core.Bool.{Bool, true, false, cond, ◌&&◌, and-false}
use mathlib.Core.List.{List}
use mathlib.Core.Option.{none, some}
use native.Mathlib.Omega.{arith}
use native.Mathlib.Decide.{dec_le}
use lib.ListN.{length}
use lib.Dec.{ltb, eqb}
use borrow.Author.Tests.{ltb-true, ltb-false, lt-ltb, le-ltb, eq-eqb, ne_eqb}
use Rattle.multiset.specs.Multisets.{added, removed, largest}
use Rattle.crumbmap.specs.Layouts.{Layout}
use Rattle.crumbmap.specs.CrumbMap.{first_bucket, second_bucket, first_crumb, second_crumb, bucket_of, crumb_of}
use Rattle.machine.specs.Results.{accepted, refused}
use Rattle.machine.specs.Images.{front_at, back_at, put_front, put_back}
use Rattle.machine.specs.Machine.{changed, backyard, taker, take_in, insert_at}
use Rattle.machine.specs.Steps.Spills.{push_at}

-- not both of two buckets of n slots are full
pub room-first : (n n0 n1 : ℕ) → (n0 ≡ n → ⊥) → eqb n0 n && eqb n1 n ≡ false
room-first n n0 n1 h = rw (ne_eqb n0 n h)

pub room-second : (n n0 n1 : ℕ) → (n1 ≡ n → ⊥) → eqb n0 n && eqb n1 n ≡ false
room-second n n0 n1 h = rw (ne_eqb n1 n h) (and-false (eqb n0 n))

pub room-chosen : (n : ℕ) (t : Bool) (ys zs : List ℕ) → length (cond t ys zs) < n → eqb (length ys) n && eqb (length zs) n ≡ false
room-chosen n true ys zs r = room-first n (length ys) (length zs) (omega arith)
room-chosen n false ys zs r = room-second n (length ys) (length zs) (omega arith)

-- the bucket that takes an overflow is the first exactly where it holds fewer
pub taker-fewer : (L : Layout) (n0 n1 : ℕ) (t : Bool) → taker L n0 n1 ≡ some t → ltb n0 n1 ≡ t
unfolding taker
taker-fewer L n0 n1 t e = go (eqb n0 L.back_slots && eqb n1 L.back_slots) e
  where
    go : (b : Bool) → cond b none (some (ltb n0 n1)) ≡ some t → ltb n0 n1 ≡ t
    go true q = let z : ◌≡◌ {A = ℕ} 0 1 = cc in absurd (omega arith)
    go false q = cc

module _ (L : Layout) (B f v : ℕ) (ys zs img : List ℕ) where
  -- the image after v joined the bucket of choice t
  abbrev pub taken_in : Bool → List ℕ
  taken_in t = put_back L B (bucket_of t B f) (added (v * 16 + crumb_of t f) (cond t ys zs)) img

  pub take_in-full : length ys ≡ L.back_slots → length zs ≡ L.back_slots → take_in L B f v (ys, zs) img ≡ refused 4 0
  unfolding take_in taker
  take_in-full p q = simp (eq-eqb (length ys) L.back_slots p, eq-eqb (length zs) L.back_slots q)

  pub take_in-on : (t : Bool) → ltb (length ys) (length zs) ≡ t → length (cond t ys zs) < L.back_slots
      → take_in L B f v (ys, zs) img ≡ changed (1 + bucket_of t B f) (taken_in t)
  unfolding take_in taker
  take_in-on t e r = simp (room-chosen L.back_slots t ys zs r, e)

  pub take_in-first : length ys < length zs → length zs ≤ L.back_slots
      → take_in L B f v (ys, zs) img ≡ changed (1 + first_bucket f) (put_back L B (first_bucket f) (added (v * 16 + first_crumb f) ys) img)
  take_in-first l r = take_in-on true (lt-ltb (length ys) (length zs) l) (omega arith)

  pub take_in-second : length zs ≤ length ys → length zs < L.back_slots
      → take_in L B f v (ys, zs) img ≡ changed (1 + second_bucket B f) (put_back L B (second_bucket B f) (added (v * 16 + second_crumb f) zs) img)
  take_in-second l r = take_in-on false (le-ltb (length ys) (length zs) l) r

  -- full, or the bucket that is chosen has a slot left and takes v
  pub data TakesIn : Type 0 where
    refuses : length ys ≡ L.back_slots → length zs ≡ L.back_slots → take_in L B f v (ys, zs) img ≡ refused 4 0 → TakesIn
    takes : (t : Bool) → ltb (length ys) (length zs) ≡ t → length (cond t ys zs) < L.back_slots
        → take_in L B f v (ys, zs) img ≡ changed (1 + bucket_of t B f) (taken_in t) → TakesIn

  pub take_in-cases : length ys ≤ L.back_slots → length zs ≤ L.back_slots → TakesIn
  take_in-cases p q = go (ltb (length ys) (length zs)) refl
    where
      go : (t : Bool) → ltb (length ys) (length zs) ≡ t → TakesIn
      go true e = let r : length ys < L.back_slots = omega (arith, ltb-true (length ys) (length zs) e) in takes true e r (take_in-on true e r)
      go false e =
          let l : length zs ≤ length ys = ltb-false (length ys) (length zs) e in
          elim (dec_le L.back_slots (length zs)) [
            | yes g ↦ refuses (omega arith) (omega arith) (take_in-full (omega arith) (omega arith))
            | no n ↦ let r : length zs < L.back_slots = omega arith in takes false e r (take_in-on false e r)
          ]

-- ---- the calls that come to it

-- both backyard buckets of f were read
pub backyard-read : (L : Layout) (B f : ℕ) (ys zs img : List ℕ) → back_at L B (first_bucket f) img ≡ accepted ys
    → back_at L B (second_bucket B f) img ≡ accepted zs → backyard L B f img ≡ accepted (ys, zs)
backyard-read L B f ys zs img p q = rw (p, q)

module _ (L : Layout) (B f x : ℕ) (img : List ℕ) where
  pub push_at-read : (ys zs : List ℕ) → backyard L B f img ≡ accepted (ys, zs) → push_at L B f x img ≡ take_in L B f x (ys, zs) img
  unfolding push_at
  push_at-read ys zs e = rw e

  -- an insert into a front bucket with a slot left, and into a full one
  pub insert_at-room : (xs : List ℕ) → front_at L f img ≡ accepted xs → length xs < L.front_slots
      → insert_at L B f x img ≡ changed 0 (put_front L f (added x xs) img)
  unfolding insert_at
  insert_at-room xs read r = rw (read, lt-ltb (length xs) L.front_slots r)

  pub insert_at-over : (xs ys zs : List ℕ) → front_at L f img ≡ accepted xs → L.front_slots ≤ length xs → backyard L B f img ≡ accepted (ys, zs)
      → insert_at L B f x img ≡ take_in L B f (largest (added x xs)) (ys, zs) (put_front L f (removed (largest (added x xs)) (added x xs)) img)
  unfolding insert_at
  insert_at-over xs ys zs read r e = rw (read, le-ltb (length xs) L.front_slots r, e)
