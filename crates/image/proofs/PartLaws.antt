-- The 64-byte parts that the code lends are the buckets of the image: `part-bucket` for a part that is read, `put-part` for one that is written.
-- An accepted bucket was read and is sound: `front_read`, `back_read`; what the reader says of a part is what the image says of that bucket:
-- `front-says`, `back-says`.
use mathlib.Core.Path.{◌≡◌, refl}
use Prim.Native.Nat.{ℕ, ◌+◌, ◌*◌, ◌-◌, ◌≤◌, ◌<◌}
use mathlib.Core.List.{List}
use mathlib.Core.Option.{Option, none, some}
use native.Mathlib.Omega.{arith}
use Rattle.std.specs.Prelude as S
use Rattle.std.specs.Option.{ok_or}
use lib.ListN.{length, take, drop, get_or}
use lib.Seq.{drop-drop}
use borrow.Rule.Slice.PartMut.{put_mid}
use Rattle.crumbmap.specs.Layouts.{Layout, fronts}
use Rattle.buckets.specs.Buckets.{Fits64, front_members, back_members, front_list}
use Rattle.minifilter.specs.Steps.Readings.{reading_of}
use Rattle.minifilter.specs.declared.Reading.{Reading}
use Rattle.buckets.proofs.BucketLaws.{back_list-members, front_members-list, back_members-list, front_bytes-front_members}
use Rattle.machine.specs.Results.{accepted}
use Rattle.machine.specs.Images.{length_of, size_of, bucket_at, put, front_at, back_at, in_back}
use Rattle.answers.specs.declared.UnsoundBucket.{UnsoundBucket}
use Rattle.image.specs.Steps.ImageReads.{sizing, BackIn, FrontRead, BackRead, FrontSays, BackSays}
use Rattle.machine.proofs.AcceptedLaws.{was-sound}
use Rattle.machine.proofs.ImageLaws.{below-bucket, length-bucket_at, size_of-some, size_of-length_of}

pub part-bucket : (i : ℕ) (img : List ℕ) → take (64 * i + 64 - 64 * i) (drop (64 * i) img) ≡ bucket_at i img
unfolding bucket_at
part-bucket i img = let k : 64 * i + 64 - 64 * i ≡ 64 = omega arith in rw k

pub put-part : (i : ℕ) (img : List ℕ) {b d : List ℕ} → b ≡ d → put_mid (64 * i) (64 * i + 64 - 64 * i) img b ≡ put i d img
unfolding put
put-part i img e = let k : 64 * i + 64 - 64 * i ≡ 64 = omega arith in simp (k, e, drop-drop)

-- a length that no image has, and one that an image of size B has
pub size-wrong : (n : ℕ) → ((B : ℕ) → n ≡ length_of B → 0 < B → B ≤ 65536 → ⊥) → S.None ≡ sizing (size_of n)
size-wrong n never = go (size_of n) refl
  where
    go : (o : Option ℕ) → size_of n ≡ o → S.None ≡ sizing o
    go none e = refl
    go (some B) e = let s = size_of-some n B e in absurd (never B s.0 s.1 s.2)

pub size-right : (n B : ℕ) → n ≡ length_of B → 0 < B → B ≤ 65536 → S.Some B ≡ sizing (size_of n)
size-right n B e p h = rw (e, size_of-length_of B p h)

-- a bucket of bytes that is accepted was read and is sound; and what the reader says of its bytes is what the image says of that bucket
module _ (L : Layout) (fits : Fits64 L) (f : ℕ) (img : List ℕ) (inside : 64 * f + 64 ≤ length img) (bytes : (i : ℕ) → get_or img i 0 < 256) where
  front-sound : {xs : List ℕ} → front_members L (bucket_at f img) ≡ some xs → FrontRead L f img
  unfolding front_at front_list
  front-sound {xs} e =
      let long = length-bucket_at f img inside in record {
        inside = inside;
        accepts = rw e;
        sound = record { long = long; sound = rw e };
        list = rw e (front_members-list L fits (bucket_at f img) xs (below-bucket f img bytes) long e);
        same = rw e (front_bytes-front_members L fits (bucket_at f img) xs (below-bucket f img bytes) long e);
      }

  pub front_read : {xs : List ℕ} → front_at L f img ≡ accepted xs → FrontRead L f img
  unfolding front_at
  front_read {xs} e = front-sound (was-sound f (front_members L (bucket_at f img)) xs e)

  front-said : (x : ℕ) (o : Option (List ℕ)) → front_members L (bucket_at f img) ≡ o
      → FrontSays L f x img (ok_or (reading_of x o) (record { 0 = f }))
  unfolding front_at front_list
  front-said x none e = rw e
  front-said x (some xs) e = (front-sound e, rw e, rw e)

  pub front-says : (x : ℕ) {o : S.Option Reading} {r : S.Result Reading UnsoundBucket} → o ≡ reading_of x (front_members L (bucket_at f img))
      → r ≡ ok_or o (record { 0 = f }) → FrontSays L f x img r
  front-says x e d = rw (d, e) (front-said x (front_members L (bucket_at f img)) refl)

module _ (L : Layout) (fits : Fits64 L) (B j : ℕ) (img : List ℕ) (within : BackIn B j img) (bytes : (i : ℕ) → get_or img i 0 < 256) where
  back-sound : {ys : List ℕ} → back_members L B j (bucket_at (fronts B + j) img) ≡ some ys → BackRead L B j img × (in_back L B j img ≡ ys)
  unfolding back_at
  back-sound {ys} e =
      let i = fronts B + j in
      let long = length-bucket_at i img within.inside in
      let l = back_list-members L B j (bucket_at i img) ys e in (
        record {
          within = within;
          accepts = rw (e, l);
          sound = record { size = B; bucket = j; long = long; sound = rw l e };
          list = rw l (back_members-list L fits B j (bucket_at i img) ys (below-bucket i img bytes) long e);
        },
        l,
      )

  pub back_read : {ys : List ℕ} → back_at L B j img ≡ accepted ys → BackRead L B j img
  unfolding back_at
  back_read {ys} e = (back-sound (was-sound (fronts B + j) (back_members L B j (bucket_at (fronts B + j) img)) ys e)).0

  back-said : (y : ℕ) (o : Option (List ℕ)) → back_members L B j (bucket_at (fronts B + j) img) ≡ o
      → BackSays L B j y img (ok_or (reading_of y o) (record { 0 = fronts B + j }))
  unfolding back_at
  back-said y none e = rw e
  back-said y (some ys) e = let s = back-sound e in (s.0, rw s.1, rw s.1)

  pub back-says : (y : ℕ) {o : S.Option Reading} {r : S.Result Reading UnsoundBucket}
      → o ≡ reading_of y (back_members L B j (bucket_at (fronts B + j) img)) → r ≡ ok_or o (record { 0 = fronts B + j }) → BackSays L B j y img r
  back-says y e d = rw (d, e) (back-said y (back_members L B j (bucket_at (fronts B + j) img)) refl)
