-- `image::fresh::clear_all` meets its contract: at each turn one bucket more is empty (`cleared_more`).
use mathlib.Core.Path.{refl, ◌∙◌, ap}
use Prim.Native.Nat.{ℕ}
use mathlib.Core.List.{List, []}
use native.Mathlib.Omega.{arith}
use Rattle.crumbmap.specs.Layouts.{layout1}
use Rattle.buckets.specs.Buckets.{front_bytes}
use Rattle.machine.specs.Images.{put, repeated}
use Rattle.buckets.proofs.BucketLaws.{fits1, length-front_bytes}
use Rattle.image.proofs.EmptyLaws.{cleared_more}
use Rattle.image.proofs.fresh.clear_all.Goals as goal

pub loop-i-init : goal.loop-i-init
unfolding repeated
loop-i-init c = refl

pub loop-i-preserved : goal.loop-i-preserved
loop-i-preserved c =
    let i = c.loop-i.i in
    let e = front_bytes layout1 [] in
    c.clear_at.ensures ∙ ap (λ (x : List ℕ). put i e x) c.loop-i.invariant
    ∙ cleared_more i e c.args.image.now (length-front_bytes layout1 fits1 [] (omega arith))
