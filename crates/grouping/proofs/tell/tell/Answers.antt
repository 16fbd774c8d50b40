-- `grouping::tell::tell` meets its contract: the front bucket has the key, or settles it, or the ask goes on behind it.
use Rattle.std.proofs.Common.{◌≡◌, sym, ap, ◌∙◌, arith}
use Rattle.multiset.specs.Multisets.{found_in}
use Rattle.crumbmap.specs.Layouts.{layout1}
use Rattle.buckets.proofs.BucketLaws.{fits1}
use Rattle.search.specs.Steps.Searches.{search_of}
use Rattle.search.proofs.FoundLaws.{search-some, search-none}
use Rattle.machine.specs.Results.{number}
use Rattle.machine.specs.Images.{in_front}
use Rattle.machine.specs.Machine.{ask_at}
use Rattle.machine.specs.Calls.{ask_of}
use Rattle.image.specs.Steps.ImageReads.{FrontIn, FrontRead}
use Rattle.image.proofs.ImageReadLaws.{front-in}
use Rattle.image.proofs.PartLaws.{front_read}
use Rattle.grouping.specs.Steps.Grouping.{told_by}
use Rattle.grouping.proofs.LoneLaws.{lone-at, found-fits, front-sound, near-front, near_none, reach-exceeds}
use Rattle.grouping.proofs.tell.tell.Goals.{After-key_of-key, After-seek_front}
use Rattle.grouping.proofs.tell.tell.Goals as goal

-- the lone ask, which is accepted, and its front bucket, which was read
lone : (c : After-key_of-key) → let a = c.args in let i = a.image.now in
    ask_of layout1 i a.e.hash ≡ ask_at layout1 a.size c.front_of-front.result.0 c.key_of-key.result i
lone c = let a = c.args in lone-at layout1 a.image.now a.e.hash c.requires.0 c.front_of-front.ensures.0 c.key_of-key.ensures.0

fine : (c : After-key_of-key) → let a = c.args in number (ask_at layout1 a.size c.front_of-front.result.0 c.key_of-key.result a.image.now) ≡ 0
fine c = sym (ap number (lone c)) ∙ c.requires.1

within : (c : After-key_of-key) → let a = c.args in FrontIn a.size c.front_of-front.result.0 a.image.now
within c = record { whole = c.requires.0; front = c.front_of-front.ensures.1 }

read : (c : After-key_of-key) → FrontRead layout1 c.front_of-front.result.0 c.args.image.now
read c =
    let a = c.args in
    let f = c.front_of-front.result.0 in
    front_read layout1 fits1 f a.image.now (front-in (within c)) (λ i. (c.type_inv.image i).fits)
    (front-sound layout1 a.size f c.key_of-key.result a.image.now (fine c)).1

-- what was found there
found : (c : After-seek_front) → c.seek_front.result ≡ search_of (found_in c.key_of-key.result (in_front layout1 c.front_of-front.result.0 c.args.image.now))
found c = rw c.bucket.ensures.0 at c.seek_front.ensures

pub bucket-requires : goal.bucket-requires
bucket-requires c = front-in (within c)

pub seek_front-requires : goal.seek_front-requires
seek_front-requires c =
    (rw c.bucket.ensures.0 (read (goal.at.seek_front-requires c).After-key_of-key).sound, c.key_of-key.ensures.1)

pub answered-requires : goal.answered-requires
answered-requires c =
    let p = goal.at.answered-requires c in
    let r = read p.After-key_of-key in
    let xs = in_front layout1 c.front_of-front.result.0 c.args.image.now in
    found-fits c.key_of-key.result xs (search-some (found_in c.key_of-key.result xs) (found p.After-seek_front) c.in-Some.is) (omega (arith, r.list.room))

pub returns-in-Some : goal.returns-in-Some
returns-in-Some c =
    let p = goal.at.returns-in-Some c in
    let a = c.args in
    let f = c.front_of-front.result.0 in
    let x = c.key_of-key.result in
    let here = search-some (found_in x (in_front layout1 f a.image.now)) (found p.After-seek_front) c.in-Some.is in
    c.answered.ensures ∙ ap (told_by a.e) (near-front layout1 a.size f x a.image.now (read p.After-key_of-key) here ∙ sym (lone p.After-key_of-key))

pub reach-requires : goal.reach-requires
reach-requires c = read (goal.at.reach-requires c).After-key_of-key

pub returns-then-key-reach : goal.returns-then-key-reach
returns-then-key-reach c =
    let p = goal.at.returns-then-key-reach c in
    let a = c.args in
    let f = c.front_of-front.result.0 in
    let x = c.key_of-key.result in
    let absent = search-none (found_in x (in_front layout1 f a.image.now)) (found p.After-seek_front) c.in_default.is in
    let near = near_none layout1 a.size f x a.image.now (read p.After-key_of-key) absent (omega (arith, c.reach.ensures.0, c.if-key-reach.true)) in
    c.answered-then-key-reach.ensures ∙ ap (told_by a.e) (near ∙ sym (lone p.After-key_of-key))

pub tell_behind-requires : goal.tell_behind-requires
tell_behind-requires c =
    let k = (goal.at.tell_behind-requires c).After-key_of-key in
    let l = c.key_of-key.ensures.1 in
    let over = reach-exceeds layout1 c.front_of-front.result.0 c.args.image.now (read k) c.key_of-key.result (omega (arith, c.reach.ensures.0, c.if-key-reach.false)) l in
    (within k, l, over, fine k)

pub returns : goal.returns
returns c = c.tell_behind.ensures ∙ ap (told_by c.args.e) (sym (lone (goal.at.returns c).After-key_of-key))
