-- `grouping::share::extend` meets its contract: what reading on for the key came to (`shared-read`).
use Rattle.std.proofs.Common.{◌<◌, ◌≤◌, arith}
use Rattle.crumbmap.specs.Layouts.{layout1}
use Rattle.buckets.proofs.BucketLaws.{fits1}
use Rattle.grouping.specs.Steps.Grouping.{GroupRead}
use Rattle.grouping.proofs.GroupLaws.{shared-read, front-most}
use Rattle.grouping.proofs.share.extend.Goals.{In-Ok}
use Rattle.grouping.proofs.share.extend.Goals as goal

-- so many are read
read : (c : In-Ok) → let a = c.args in let n = c.in-Ok.reads in
    GroupRead layout1 a.s.size a.front.0 a.image.now n × (0 < n) × (a.held ≤ n) × (n ≤ 3)
read c =
    let p = c.requires in
    shared-read fits1 (λ i. (c.type_inv.image i).fits) p.within c.args.key p.group p.few (rw c.in-Ok.is at c.share.ensures)

pub bound_of-requires : goal.bound_of-requires
bound_of-requires c = let r = read (goal.at.bound_of-requires c).In-Ok in (r.0.front r.1, r.1)

pub overflow_add-result : goal.overflow_add-result
overflow_add-result c =
    let r = read (goal.at.overflow_add-result c).In-Ok in
    omega (arith, c.requires.most, c.requires.few, r.3, front-most c.requires.within)
