-- `insertion::insert::spill` meets its contract. The key takes the place of the largest in front, or front stays as it was (`settled`); then the
-- overflow goes behind.
use mathlib.Core.Path.{◌≡◌, refl, sym, ◌∙◌, ap}
use Prim.Native.Nat.{ℕ, ◌≤◌, ◌<◌}
use mathlib.Core.List.{List}
use native.Mathlib.Omega.{arith}
use Rattle.multiset.specs.Multisets.{added, largest}
use Rattle.multiset.proofs.SlotLaws.{below-without}
use Rattle.crumbmap.specs.Layouts.{layout1}
use Rattle.buckets.proofs.BucketLaws.{fits1}
use Rattle.machine.specs.Images.{in_front, in_back, put_front}
use Rattle.machine.proofs.StayLaws.{rest-list}
use Rattle.machine.proofs.BucketWrites.{in_back-put_front}
use Rattle.image.proofs.ImageReadLaws.{last-at}
use Rattle.image.proofs.ImageWriteLaws.{back-kept, put_front-same}
use Rattle.insertion.proofs.InsertSteps.{over-front, left_in, left-swapped, left-same, spilled-put}
use Rattle.insertion.proofs.insert.spill.Goals.{Joined-key-over, Start, else-key-over, then-key-over}
use Rattle.insertion.proofs.insert.spill.Goals as goal

-- the image once the front bucket has what is left
settled : (c : Joined-key-over) →
    let a = c.args in
    c.if-key-over.image ≡ put_front layout1 a.target.front.0 (left_in fits1 c.requires.full.whole a.target.key) a.image.now
settled c =
    let p = c.requires in
    let w = p.full.whole in
    let f = c.args.target.front.0 in
    let x = c.args.target.key in
    let img = c.args.image.now in
    let xs = in_front layout1 f img in
    let keep : List ℕ → List ℕ = λ l. put_front layout1 f l img in
    elim c.if-key-over.branch [
      | then-key-over i ↦
          let h : x < largest (added x xs) = rw p.over at i.if-key-over.true in
          i.image-is ∙ rw (p.over, over-front x xs w.read.list.order h) at i.swap_front_at.ensures ∙ sym (ap keep (left-swapped fits1 w x h))
      | else-key-over i ↦
          let h : largest (added x xs) ≤ x = omega (arith, i.if-key-over.false, p.over) in
          i.image-is ∙ sym (ap keep (left-same fits1 w x h) ∙ put_front-same w.read)
    ]

pub swap_front_at-requires : goal.swap_front_at-requires
swap_front_at-requires c =
    let p = c.requires in
    let w = p.full.whole in
    let x = c.args.target.key in
    let xs = in_front layout1 c.args.target.front.0 c.args.image.now in
    let h : x < largest (added x xs) = rw p.over at c.if-key-over.true in
    let e = over-front x xs w.read.list.order h in
    rw (p.over, e) (record {
      read = w.read;
      stands = last-at fits1 w;
      key = p.full.placed.key;
      rank = p.full.rank ∙ sym (below-without x (largest xs) xs (omega (arith, e)));
    })

-- the backyard bucket is as it was
kept : (s : Start) →
    let t = s.args.target in
    let j = s.args.spilling.way.bucket.0 in
    in_back layout1 t.size j (put_front layout1 t.front.0 (left_in fits1 s.requires.full.whole t.key) s.args.image.now) ≡ in_back layout1 t.size j s.args.image.now
kept s =
    let t = s.args.target in
    let p = s.requires in
    in_back-put_front layout1 fits1 t.front.0 (left_in fits1 p.full.whole t.key) s.args.image.now p.full.whole.read.inside
    (rest-list layout1 t.key (in_front layout1 t.front.0 s.args.image.now) p.full.whole.read.list p.full.placed.key) t.size s.args.spilling.way.bucket.0 p.full.placed.within.front

pub insert_back_at-requires : goal.insert_back_at-requires
insert_back_at-requires c =
    let at = goal.at.insert_back_at-requires c in
    let p = c.requires in
    let a = c.args in
    let t = a.target in
    let l = rest-list layout1 t.key (in_front layout1 t.front.0 a.image.now) p.full.whole.read.list p.full.placed.key in
    rw (settled at.Joined-key-over) (record {
      read = back-kept fits1 t.front.0 (left_in fits1 p.full.whole t.key) a.image.now p.full.whole.read.inside l t.size a.spilling.way.bucket.0
          p.full.placed.within.front p.joins.read;
      room = rw (kept at.Start) p.joins.room;
      member = p.joins.member;
      rank = rw (kept at.Start) p.joins.rank;
    })

pub returns : goal.returns
returns c =
    let at = goal.at.returns c in
    let a = c.args in
    (refl, spilled-put layout1 a.target a.spilling a.image.now c.requires.over (settled at.Joined-key-over) (kept at.Start) c.insert_back_at.ensures)
