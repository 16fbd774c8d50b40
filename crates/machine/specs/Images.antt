-- An image (document 01: a catalogue): 8 × B front buckets, then B + 7 backyard buckets, each a 64-byte stretch.
use Rattle.std.specs.Prelude.{ℕ, zero, suc, ◌+◌, ◌*◌, ◌/◌, ◌-◌, cond, ◌&&◌, List, [], ◌++◌, length, take, drop, leb, eqb}
use Rattle.std.proofs.Math.Option.{Option, none, some}
use Rattle.crumbmap.specs.Layouts.{Layout, fronts, backyards}
use Rattle.buckets.specs.Buckets.{front_members, back_members, front_list, back_list, front_bytes, back_bytes}
use Rattle.machine.specs.Results.{Result, or_unsound, or_refused}

-- "a lent byte slice of 576 × B + 448 bytes"
unfoldable pub length_of : ℕ → ℕ
length_of B = 576 * B + 448

-- "B from 1 to 65,536": B of a length that an image can have
unfoldable pub size_of : ℕ → Option ℕ
size_of n =
    let B : ℕ = (n - 448) / 576 in
    cond (eqb n (length_of B) && leb 1 B && leb B 65536) (some B) none

-- B of an image, or number 1, "wrong length"
abbrev pub sized : List ℕ → Result ℕ
sized img = or_refused 1 (size_of (length img))

-- "each bucket is worked on as a 64-byte stretch inside the image": the bucket of a table number
unfoldable pub bucket_at : ℕ → List ℕ → List ℕ
bucket_at i img = take 64 (drop (64 * i) img)

-- the image with that bucket written
unfoldable pub put : ℕ → List ℕ → List ℕ → List ℕ
put i b img = take (64 * i) img ++ (b ++ drop (64 * i + 64) img)

-- n copies of a bucket, one after the other
unfoldable pub repeated : ℕ → List ℕ → List ℕ
repeated zero b = []
repeated (suc n) b = b ++ repeated n b

module _ (L : Layout) where
  -- the members of front bucket f; an unsound one is refused with 3 and its table number
  unfoldable pub front_at : ℕ → List ℕ → Result (List ℕ)
  front_at f img = or_unsound f (front_members L (bucket_at f img))

  -- the members of backyard bucket j; "the table number of backyard bucket j is F + j"
  unfoldable pub back_at : ℕ → ℕ → List ℕ → Result (List ℕ)
  back_at B j img = or_unsound (fronts B + j) (back_members L B j (bucket_at (fronts B + j) img))

  -- the members of front bucket f, and of backyard bucket j, where they are sound
  abbrev pub in_front : ℕ → List ℕ → List ℕ
  in_front f img = front_list L (bucket_at f img)

  abbrev pub in_back : ℕ → ℕ → List ℕ → List ℕ
  in_back B j img = back_list L (bucket_at (fronts B + j) img)

  unfoldable pub put_front : ℕ → List ℕ → List ℕ → List ℕ
  put_front f xs img = put f (front_bytes L xs) img

  unfoldable pub put_back : ℕ → ℕ → List ℕ → List ℕ → List ℕ
  put_back B j ys img = put (fronts B + j) (back_bytes L ys) img

  -- "every bucket empty (word 2^36 − 1, else 0)"
  unfoldable pub empty_image : ℕ → List ℕ
  empty_image B = repeated (fronts B) (front_bytes L []) ++ repeated (backyards B) (back_bytes L [])
