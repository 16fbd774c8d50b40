-- Buckets that were read, in an image after a front bucket was written: that bucket (`front-put`), a backyard bucket (`back-kept`), and a front
-- bucket written as it was (`put_front-same`).
use mathlib.Core.Path.{◌≡◌}
use Prim.Native.Nat.{ℕ, ◌+◌, ◌*◌, ◌≤◌, ◌<◌}
use mathlib.Core.List.{List}
use native.Mathlib.Omega.{arith}
use lib.ListN.{length}
use Rattle.crumbmap.specs.Layouts.{Layout, fronts}
use Rattle.buckets.specs.Buckets.{Fits64, FrontList, front_list}
use Rattle.buckets.proofs.BucketLaws.{length-front_bytes, front_members-front_bytes}
use Rattle.machine.specs.Images.{front_at, back_at, in_front, put_front}
use Rattle.machine.proofs.PutLaws.{put_same}
use Rattle.machine.proofs.BucketWrites.{length-put_front, bucket_at-put_front, bucket_at-put_front-other}
use Rattle.image.specs.Steps.ImageReads.{FrontRead, BackRead}

module _ {L : Layout} (fits : Fits64 L) (f : ℕ) (xs img : List ℕ) (inside : 64 * f + 64 ≤ length img) (list : FrontList L xs) where
  -- the front bucket itself
  pub front-put : FrontRead L f (put_front L f xs img)
  unfolding front_at front_list
  front-put =
      let at = bucket_at-put_front L fits f xs img inside list in
      let e = front_members-front_bytes L fits xs list in record {
        inside = rw (length-put_front L fits f xs img inside list) inside;
        accepts = rw (at, e);
        sound = rw at (record { long = length-front_bytes L fits xs list.room; sound = rw e });
        list = rw (at, e) list;
        same = rw (at, e);
      }

  -- a backyard bucket
  pub back-kept : (B j : ℕ) → f < fronts B → BackRead L B j img → BackRead L B j (put_front L f xs img)
  unfolding back_at
  back-kept B j front r =
      let e = bucket_at-put_front-other L fits f xs img inside list (fronts B + j) (λ q. omega arith) in record {
        within = record { small = r.within.small; bucket = r.within.bucket; inside = rw (length-put_front L fits f xs img inside list) r.within.inside };
        accepts = rw e r.accepts;
        sound = rw e r.sound;
        list = rw e r.list;
      }

pub put_front-same : {L : Layout} {f : ℕ} {img : List ℕ} → FrontRead L f img → put_front L f (in_front L f img) img ≡ img
unfolding put_front
put_front-same {L} {f} {img} r = rw r.same (put_same f img)
