-- A front or a backyard bucket written: the length of the image stays, the bucket holds what was written, every other bucket has the
-- bytes that it had, so that its members are as they were; a front bucket written twice, or beside a backyard bucket in either order.
-- Main results: `length-put_front`, `bucket_at-put_front`, `in_front-put_front`, `put_front-put`, the same of `put_back`, and with -other of the other buckets.
use mathlib.Core.Path.{◌≡◌, sym, ap}
use Prim.Native.Nat.{ℕ, ◌+◌, ◌*◌, ◌≤◌, ◌<◌}
use mathlib.Core.List.{List}
use native.Mathlib.Omega.{arith}
use lib.ListN.{length}
use Rattle.crumbmap.specs.Layouts.{Layout, fronts}
use Rattle.buckets.specs.Buckets.{Fits64, front_list, back_list, front_bytes, back_bytes, FrontList, BackList}
use Rattle.buckets.proofs.BucketLaws.{length-front_bytes, length-back_bytes, front_members-front_bytes, back_members-back_bytes}
use Rattle.machine.specs.Results.{accepted}
use Rattle.machine.specs.Images.{bucket_at, front_at, back_at, in_front, in_back, put_front, put_back}
use Rattle.machine.proofs.ImageLaws.{in_front-read, in_back-read}
use Rattle.machine.proofs.PutLaws.{length-put, bucket_at-put, bucket_at-put-other, put-put, put-commute}

-- front bucket f written
module _ (L : Layout) (fits : Fits64 L) (f : ℕ) (xs img : List ℕ) (inside : 64 * f + 64 ≤ length img) (list : FrontList L xs) where
  abbrev now : List ℕ
  now = put_front L f xs img

  bytes : length (front_bytes L xs) ≡ 64
  bytes = length-front_bytes L fits xs list.room

  pub length-put_front : length now ≡ length img
  unfolding put_front
  length-put_front = length-put f (front_bytes L xs) img bytes inside

  pub bucket_at-put_front : bucket_at f now ≡ front_bytes L xs
  unfolding put_front
  bucket_at-put_front = bucket_at-put f (front_bytes L xs) img bytes inside

  pub bucket_at-put_front-other : (i : ℕ) → (i ≡ f → ⊥) → bucket_at i now ≡ bucket_at i img
  unfolding put_front
  bucket_at-put_front-other i n = bucket_at-put-other f i (front_bytes L xs) img bytes inside (λ p. n (sym p))

  pub front_at-put_front : front_at L f now ≡ accepted xs
  unfolding front_at
  front_at-put_front = rw (bucket_at-put_front, front_members-front_bytes L fits xs list)

  pub in_front-put_front : in_front L f now ≡ xs
  in_front-put_front = in_front-read L f now xs front_at-put_front

  pub front_at-put_front-other : (e : ℕ) → (e ≡ f → ⊥) → front_at L e now ≡ front_at L e img
  unfolding front_at
  front_at-put_front-other e n = rw (bucket_at-put_front-other e n)

  pub in_front-put_front-other : (e : ℕ) → (e ≡ f → ⊥) → in_front L e now ≡ in_front L e img
  in_front-put_front-other e n = ap (front_list L) (bucket_at-put_front-other e n)

  pub back_at-put_front : (B j : ℕ) → f < fronts B → back_at L B j now ≡ back_at L B j img
  unfolding back_at
  back_at-put_front B j h = rw (bucket_at-put_front-other (fronts B + j) (omega arith))

  pub in_back-put_front : (B j : ℕ) → f < fronts B → in_back L B j now ≡ in_back L B j img
  in_back-put_front B j h = ap (back_list L) (bucket_at-put_front-other (fronts B + j) (omega arith))

  pub put_front-put : (zs : List ℕ) → put_front L f zs now ≡ put_front L f zs img
  unfolding put_front
  put_front-put zs = put-put f (front_bytes L zs) (front_bytes L xs) img bytes inside

-- backyard bucket j of B written
module _ (L : Layout) (fits : Fits64 L) (B j : ℕ) (ys img : List ℕ) (inside : 64 * (fronts B + j) + 64 ≤ length img) (list : BackList L B j ys) where
  abbrev later : List ℕ
  later = put_back L B j ys img

  back-bytes : length (back_bytes L ys) ≡ 64
  back-bytes = length-back_bytes L fits ys list.room

  pub length-put_back : length later ≡ length img
  unfolding put_back
  length-put_back = length-put (fronts B + j) (back_bytes L ys) img back-bytes inside

  pub bucket_at-put_back : bucket_at (fronts B + j) later ≡ back_bytes L ys
  unfolding put_back
  bucket_at-put_back = bucket_at-put (fronts B + j) (back_bytes L ys) img back-bytes inside

  pub bucket_at-put_back-other : (i : ℕ) → (i ≡ fronts B + j → ⊥) → bucket_at i later ≡ bucket_at i img
  unfolding put_back
  bucket_at-put_back-other i n = bucket_at-put-other (fronts B + j) i (back_bytes L ys) img back-bytes inside (λ p. n (sym p))

  pub back_at-put_back : back_at L B j later ≡ accepted ys
  unfolding back_at
  back_at-put_back = rw (bucket_at-put_back, back_members-back_bytes L fits B j ys list)

  pub in_back-put_back : in_back L B j later ≡ ys
  in_back-put_back = in_back-read L B j later ys back_at-put_back

  pub back_at-put_back-other : (k : ℕ) → (k ≡ j → ⊥) → back_at L B k later ≡ back_at L B k img
  unfolding back_at
  back_at-put_back-other k n = rw (bucket_at-put_back-other (fronts B + k) (λ p. n (omega arith)))

  pub in_back-put_back-other : (k : ℕ) → (k ≡ j → ⊥) → in_back L B k later ≡ in_back L B k img
  in_back-put_back-other k n = ap (back_list L) (bucket_at-put_back-other (fronts B + k) (λ p. n (omega arith)))

  pub front_at-put_back : (e : ℕ) → e < fronts B → front_at L e later ≡ front_at L e img
  unfolding front_at
  front_at-put_back e l = rw (bucket_at-put_back-other e (omega arith))

  pub in_front-put_back : (e : ℕ) → e < fronts B → in_front L e later ≡ in_front L e img
  in_front-put_back e l = ap (front_list L) (bucket_at-put_back-other e (omega arith))

-- a front bucket and a backyard bucket written in either order
pub put_front-put_back : (L : Layout) → Fits64 L → (B f j : ℕ) (xs ys img : List ℕ) → f < fronts B → 64 * (fronts B + j) + 64 ≤ length img
    → length xs ≤ L.front_slots → length ys ≤ L.back_slots → put_front L f xs (put_back L B j ys img) ≡ put_back L B j ys (put_front L f xs img)
unfolding put_front put_back
put_front-put_back L fits B f j xs ys img h inside r s =
    put-commute f (fronts B + j) (front_bytes L xs) (back_bytes L ys) img (length-front_bytes L fits xs r) (length-back_bytes L fits ys s) (omega arith) inside
