-- A row of asks is swept three times: every entry is ready at each, and what the three leave is the row of the image with its tail.
use Rattle.crumbmap.specs.Layouts.{layout1}
use Rattle.buckets.proofs.BucketLaws.{fits1}
use Rattle.form.proofs.TailLaws.{opened-known}
use Rattle.rows.proofs.Swept.{ready-first, ready-second, ready-third, rowed}
use Rattle.breadcrumb.proofs.row.Goals as goal

pub sweep-fetched-requires : goal.sweep-fetched-requires
sweep-fetched-requires c =
    ready-first layout1 c.args.image.now c.args.row.now c.begin-start.result c.begin-start.ensures

pub sweep-tested-requires : goal.sweep-tested-requires
sweep-tested-requires c =
    ready-second layout1 c.args.image.now c.args.row.now c.begin-start.result c.begin-start.ensures
    c.sweep-fetched.result c.resume.result c.sweep-fetched.new.row c.sweep-fetched.ensures c.resume.ensures fits1

pub sweep-told-requires : goal.sweep-told-requires
sweep-told-requires c =
    ready-third layout1 c.args.image.now c.args.row.now c.begin-start.result c.begin-start.ensures
    c.sweep-fetched.result c.resume.result c.sweep-fetched.new.row c.sweep-fetched.ensures c.resume.ensures
    c.sweep-tested.result c.resume-2.result c.sweep-tested.new.row c.sweep-tested.ensures c.resume-2.ensures
    (opened-known c.args.image.now)

pub returns : goal.returns
returns c =
    rowed layout1 c.args.image.now c.args.row.now c.begin-start.result c.begin-start.ensures
    c.sweep-fetched.result c.resume.result c.sweep-fetched.new.row c.sweep-fetched.ensures c.resume.ensures
    c.sweep-tested.result c.resume-2.result c.sweep-tested.new.row c.sweep-tested.ensures c.resume-2.ensures
    (opened-known c.args.image.now) c.sweep-told.result c.sweep-told.new.row c.outcome.result c.sweep-told.ensures c.outcome.ensures
