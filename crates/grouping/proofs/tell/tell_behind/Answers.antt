-- `grouping::tell::tell_behind` meets its contract: the key is found in b0, or in b1, or nowhere; an accepted ask has found both sound where it read them.
use Rattle.std.proofs.Common.{◌≡◌, ℕ, ◌+◌, ◌*◌, true, false, List, ap, ◌∙◌, arith}
use mathlib.Core.Option.{Option}
use Rattle.multiset.specs.Multisets.{Found, found_in}
use Rattle.crumbmap.specs.Layouts.{layout1}
use Rattle.crumbmap.specs.CrumbMap.{first_bucket, second_bucket, first_crumb, second_crumb}
use Rattle.crumbmap.proofs.CrumbMapLaws.{bucket_of-lt}
use Rattle.buckets.proofs.BucketLaws.{fits1}
use Rattle.search.specs.Steps.Searches.{search_of}
use Rattle.search.proofs.FoundLaws.{search-some, search-none}
use Rattle.machine.specs.Images.{in_back}
use Rattle.machine.specs.Machine.{ask_second, ask_at}
use Rattle.image.specs.Steps.ImageReads.{BackRead}
use Rattle.image.proofs.ImageReadLaws.{back_in, bag-read}
use Rattle.image.proofs.PartLaws.{back_read}
use Rattle.grouping.specs.Steps.Grouping.{told_by}
use Rattle.grouping.proofs.LoneLaws.{way-found, found-fits, first_found, first-sound, past_first, second-sound, second-found, none_found}
use Rattle.grouping.proofs.tell.tell_behind.Goals.{After-first_of, After-seek_at, After-second_of, After-seek_at-2}
use Rattle.grouping.proofs.tell.tell_behind.Goals as goal

-- where a key stands in b0 and in b1 with its crumbs
abbrev in-first : ℕ → ℕ → ℕ → List ℕ → Option Found
in-first B f x img = found_in (x * 16 + first_crumb f) (in_back layout1 B (first_bucket f) img)

abbrev in-second : ℕ → ℕ → ℕ → List ℕ → Option Found
in-second B f x img = found_in (x * 16 + second_crumb f) (in_back layout1 B (second_bucket B f) img)

-- b0 was read, and what was found there
read1 : (c : After-first_of) → let a = c.args in BackRead layout1 a.size (first_bucket a.front.0) a.image.now
read1 c =
    let a = c.args in
    let p = c.requires in
    let e = first-sound layout1 a.size a.front.0 a.key a.image.now p.2 p.3 in
    back_read layout1 fits1 a.size (first_bucket a.front.0) a.image.now (back_in p.0.whole (bucket_of-lt true a.size a.front.0 p.0.front))
    (λ i. (c.type_inv.image i).fits) e.1

found1 : (c : After-seek_at) → let a = c.args in c.seek_at.result ≡ search_of (in-first a.size a.front.0 a.key a.image.now)
found1 c = let a = c.args in way-found layout1 true c.first_of.ensures a.key a.image.now c.seek_at.ensures

-- it is not there: the ask goes on to b1, which was read, and what was found there
goes_on : (c : After-second_of) → let a = c.args in
    BackRead layout1 a.size (first_bucket a.front.0) a.image.now → c.seek_at.result ≡ search_of (in-first a.size a.front.0 a.key a.image.now)
    → ask_second layout1 a.size a.front.0 a.key a.image.now ≡ ask_at layout1 a.size a.front.0 a.key a.image.now
goes_on c r e =
    let a = c.args in
    past_first layout1 a.size a.front.0 a.key a.image.now c.requires.2 r.accepts (search-none (in-first a.size a.front.0 a.key a.image.now) e c.in_default.is)

read2 : (c : After-second_of) → let a = c.args in
    ask_second layout1 a.size a.front.0 a.key a.image.now ≡ ask_at layout1 a.size a.front.0 a.key a.image.now
    → BackRead layout1 a.size (second_bucket a.size a.front.0) a.image.now
read2 c on =
    let a = c.args in
    let p = c.requires in
    let e = second-sound layout1 a.size a.front.0 a.key a.image.now on p.3 in
    back_read layout1 fits1 a.size (second_bucket a.size a.front.0) a.image.now (back_in p.0.whole (bucket_of-lt false a.size a.front.0 p.0.front))
    (λ i. (c.type_inv.image i).fits) e.1

found2 : (c : After-seek_at-2) → let a = c.args in c.seek_at-2.result ≡ search_of (in-second a.size a.front.0 a.key a.image.now)
found2 c = let a = c.args in way-found layout1 false c.second_of.ensures a.key a.image.now c.seek_at-2.ensures

pub seek_at-requires : goal.seek_at-requires
seek_at-requires c = (bag-read c.first_of.ensures (read1 c), c.requires.1)

pub answered-requires : goal.answered-requires
answered-requires c =
    let a = c.args in
    let p = goal.at.answered-requires c in
    let y = a.key * 16 + first_crumb a.front.0 in
    let ys = in_back layout1 a.size (first_bucket a.front.0) a.image.now in
    found-fits y ys (search-some (found_in y ys) (found1 p.After-seek_at) c.in-Some.is) (omega (arith, (read1 p.After-first_of).list.room))

pub returns-in-Some : goal.returns-in-Some
returns-in-Some c =
    let a = c.args in
    let p = goal.at.returns-in-Some c in
    let here = search-some (in-first a.size a.front.0 a.key a.image.now) (found1 p.After-seek_at) c.in-Some.is in
    c.answered.ensures ∙ ap (told_by a.e) (first_found layout1 a.size a.front.0 a.key a.image.now c.requires.2 (read1 p.After-first_of) here)

pub seek_at-requires-2 : goal.seek_at-requires-2
seek_at-requires-2 c =
    let p = goal.at.seek_at-requires-2 c in
    (bag-read c.second_of.ensures (read2 c (goes_on c (read1 p.After-first_of) (found1 p.After-seek_at))), c.requires.1)

pub answered-requires-in-Some-seek_at : goal.answered-requires-in-Some-seek_at
answered-requires-in-Some-seek_at c =
    let a = c.args in
    let p = goal.at.answered-requires-in-Some-seek_at c in
    let y = a.key * 16 + second_crumb a.front.0 in
    let ys = in_back layout1 a.size (second_bucket a.size a.front.0) a.image.now in
    let r = read2 p.After-second_of (goes_on p.After-second_of (read1 p.After-first_of) (found1 p.After-seek_at)) in
    found-fits y ys (search-some (found_in y ys) (found2 p.After-seek_at-2) c.in-Some-seek_at.is) (omega (arith, r.list.room))

pub returns-in-Some-seek_at : goal.returns-in-Some-seek_at
returns-in-Some-seek_at c =
    let a = c.args in
    let p = goal.at.returns-in-Some-seek_at c in
    let on = goes_on p.After-second_of (read1 p.After-first_of) (found1 p.After-seek_at) in
    let here = search-some (in-second a.size a.front.0 a.key a.image.now) (found2 p.After-seek_at-2) c.in-Some-seek_at.is in
    c.answered-in-Some-seek_at.ensures
    ∙ ap (told_by a.e) (second-found layout1 a.size a.front.0 a.key a.image.now (read2 p.After-second_of on) c.reads_behind-reads.ensures here ∙ on)

pub returns-in-None : goal.returns-in-None
returns-in-None c =
    let a = c.args in
    let p = goal.at.returns-in-None c in
    let on = goes_on p.After-second_of (read1 p.After-first_of) (found1 p.After-seek_at) in
    let absent = search-none (in-second a.size a.front.0 a.key a.image.now) (found2 p.After-seek_at-2) c.in-None.is in
    c.answered-in-None.ensures
    ∙ ap (told_by a.e) (none_found layout1 a.size a.front.0 a.key a.image.now (read2 p.After-second_of on) c.reads_behind-reads.ensures absent ∙ on)
