-- `paging::page::write_run` meets its contract. The loop's invariant: the entries of the buckets passed stand in front of what `out` held
-- (`Written`).
use mathlib.Core.Path.{◌≡◌}
use native.Mathlib.Omega.{arith}
use Rattle.crumbmap.specs.Layouts.{layout1}
use Rattle.paging.proofs.PageSteps.{written_start, bucket-room, bucket-written}
use Rattle.paging.proofs.page.write_run.Goals as goal

pub loop-f-init : goal.loop-f-init
loop-f-init c =
    written_start layout1 c.args.size c.args.start c.args.next c.args.image.now c.args.out.now c.requires.from

pub write_bucket-n-requires : goal.write_bucket-n-requires
write_bucket-n-requires c =
    let p = c.requires in
    let w = c.loop-f.invariant in
    (p.sound c.loop-f.f w.from (omega arith), bucket-room p w (omega arith))

pub loop-f-preserved : goal.loop-f-preserved
loop-f-preserved c = bucket-written c.requires c.loop-f.invariant (omega arith) c.write_bucket-n.ensures

pub returns : goal.returns
returns c =
    let w = c.loop-f.invariant in
    let e : c.loop-f.f ≡ c.args.next = omega (arith, w.upto) in
    rw e at w.entries
