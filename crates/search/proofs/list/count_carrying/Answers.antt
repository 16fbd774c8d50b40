-- `search::list::count_carrying` meets its contract: the crumbs of the slots in use are halves of two numbers (`halves-counted`).
use Rattle.std.proofs.Common.{◌≡◌, ◌+◌, true, length, ◌∙◌, arith}
use Rattle.crumbmap.specs.Layouts.{layout1}
use Rattle.buckets.specs.Buckets.{carrying, back_list}
use Rattle.buckets.proofs.BucketLaws.{fits1}
use Rattle.buckets.proofs.ElementLaws.{below-bytes}
use Rattle.buckets.proofs.CarryLaws.{length-carrying}
use Rattle.minifilter.proofs.HeldLaws.{Held, held, held-crumb, held-many1, held-count1}
use Rattle.search.proofs.HalfLaws.{far-few, halves-counted}
use Rattle.search.proofs.list.count_carrying.Goals.{After-word_of, After-near_of-near, After-copies_in-2}
use Rattle.search.proofs.list.count_carrying.Goals as goal

-- the bucket that was read
known : (c : After-word_of) → Held layout1 true c.args.b.now (back_list layout1 c.args.b.now)
known c = held layout1 fits1 true c.args.b.now (below-bytes c.args.b.now c.shared_slice_known-1.given) c.requires.0

many : (c : After-near_of-near) → c.occupancy-members.result ≡ length (back_list layout1 c.args.b.now)
many c =
    let b = c.args.b.now in
    c.occupancy-members.ensures.0 ∙ held-count1 b (back_list layout1 b) c.word_of.result c.word_of.ensures true (known (goal.at.After-near_of-near c).After-word_of)

-- those of both numbers
counted : (c : After-copies_in-2) → c.copies_in.result + c.copies_in-2.result ≡ length (carrying c.args.crumb (back_list layout1 c.args.b.now))
counted c =
    let g = goal.at.After-copies_in-2 c in
    let k = known g.After-word_of in
    let n = many g.After-near_of-near in
    let b = c.args.b.now in
    let ys = back_list layout1 b in
    let e = c.near_of-near.ensures in
    halves-counted c.args.crumb c.near_of-near.result c.occupancy-members.result 52 b ys (below-bytes b c.shared_slice_known-1.given)
    (omega (arith, c.requires.0.long)) n (omega (arith, n, k.room)) e.0 e.1 e.2 e.3
    (λ i l. held-crumb layout1 b ys k i l) c.word_of-low.ensures c.word_of-high.ensures c.copies_in.ensures c.copies_in-2.ensures

pub occupancy-members-requires : goal.occupancy-members-requires
occupancy-members-requires c =
    let b = c.args.b.now in
    held-many1 b (back_list layout1 b) c.word_of.result c.word_of.ensures true (known (goal.at.occupancy-members-requires c).After-word_of)

pub copies_in-requires-2 : goal.copies_in-requires-2
copies_in-requires-2 c =
    let g = goal.at.copies_in-requires-2 c in (
      c.requires.1,
      far-few c.occupancy-members.result c.near_of-near.result (omega (arith, many g.After-near_of-near, (known g.After-word_of).room)) c.near_of-near.ensures.3,
    )

pub overflow_add-result : goal.overflow_add-result
overflow_add-result c =
    let g = goal.at.overflow_add-result c in
    omega (arith, counted g.After-copies_in-2, length-carrying c.args.crumb (back_list layout1 c.args.b.now), (known g.After-word_of).room)

pub returns : goal.returns
returns c = counted (goal.at.returns c).After-copies_in-2
