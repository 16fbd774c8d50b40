-- `image::back::sound_back_at` meets its contract: what the quick test says of the bucket's bytes is what the image says of that bucket
-- (`back-says`).
use mathlib.Core.Path.{◌≡◌, refl}
use mathlib.Core.Logic.{⊎_elim}
use Prim.Native.Nat.{ℕ}
use native.Mathlib.Omega.{arith}
use Rattle.crumbmap.specs.Layouts.{layout1}
use Rattle.buckets.proofs.BucketLaws.{fits1}
use Rattle.image.proofs.PartLaws.{back-says}
use Rattle.image.proofs.back.sound_back_at.Goals as goal

-- a member count is more than nothing said
pub returns-in-Some : goal.returns-in-Some
returns-in-Some c =
    let a = c.args in
    ⊎_elim
    (λ u. let z : ◌≡◌ {A = ℕ} 0 1 = cc in absurd (omega arith))
    (λ e. back-says layout1 fits1 a.size a.bucket.0 a.image.now c.requires (λ i. (c.type_inv.image i).fits) 0 (rw c.back_bucket.ensures.0 at e) refl)
    c.in-Some.ensures
