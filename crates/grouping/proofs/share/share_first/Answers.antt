-- `grouping::share::share_first` meets its contract: b0 is unsound, or the key is in it and the ask reads no more (`first_found`), or b1 is read.
use Rattle.std.proofs.Common.{◌≡◌, ◌+◌, ◌*◌, true, sym, ◌∙◌, arith}
use mathlib.Core.Option.{Option}
use Rattle.std.proofs.lemmas.Result.{err_from_is_err_and}
use Rattle.multiset.specs.Multisets.{Found, found_in}
use Rattle.crumbmap.specs.Layouts.{layout1}
use Rattle.crumbmap.specs.CrumbMap.{first_bucket, first_crumb}
use Rattle.search.specs.Steps.Searches.{search_of}
use Rattle.machine.specs.Images.{in_back}
use Rattle.image.specs.Steps.ImageReads.{BackRead}
use Rattle.image.proofs.ImageReadLaws.{back_in}
use Rattle.grouping.proofs.LoneLaws.{way-found, is-found, first_found, first-unsound, same-shared, shares, bars}
use Rattle.grouping.proofs.share.share_first.Goals.{After-find_at, In_ok-first}
use Rattle.grouping.proofs.share.share_first.Goals as goal

-- b0 was read
read : (c : In_ok-first) → let a = c.args in BackRead layout1 a.size (first_bucket a.front.0) a.image.now
read c = rw c.first_of.ensures.bucket at c.in_ok-first.ensures.1

-- where the key stands in b0 with its crumb, and what was found
abbrev standing : After-find_at → Option Found
standing c =
    let a = c.args in
    let f = a.front.0 in
    found_in (a.key * 16 + first_crumb f) (in_back layout1 a.size (first_bucket f) a.image.now)

found : (c : After-find_at) → c.find_at.result ≡ search_of (standing c)
found c = let a = c.args in way-found layout1 true c.first_of.ensures a.key a.image.now (rw c.in_ok-first.ensures.0 at c.find_at.ensures)

pub read_way-requires : goal.read_way-requires
read_way-requires c =
    let p = c.requires in
    let l = c.first_of.ensures in
    (back_in p.0.whole l.inside, l.small, p.1)

pub returns-in_err-first : goal.returns-in_err-first
returns-in_err-first c =
    let a = c.args in
    let p = err_from_is_err_and c.from_residual.result c.from_residual.ensures.1 in
    rw (p.1, p.2)
    (bars layout1 a.size a.front.0 a.key a.image.now 1
    (first-unsound layout1 a.size a.front.0 a.key a.image.now c.requires.2 (rw c.first_of.ensures.bucket at c.in_err-first.ensures)))

pub returns-then-coincide : goal.returns-then-coincide
returns-then-coincide c =
    let a = c.args in
    same-shared layout1 a.size a.front.0 a.key a.image.now c.requires.2 c.requires.0.front (sym c.coincide.ensures ∙ c.if-coincide.true)
    (read (goal.at.returns-then-coincide c).In_ok-first) (omega arith)

pub returns-then-is_some : goal.returns-then-is_some
returns-then-is_some c =
    let a = c.args in
    let p = goal.at.returns-then-is_some c in
    let s = is-found (standing p.After-find_at) (found p.After-find_at) c.is_some.ensures c.if-is_some.true in
    shares layout1 a.size a.front.0 a.key a.image.now
    (first_found layout1 a.size a.front.0 a.key a.image.now c.requires.2 (read p.In_ok-first) s.1) (omega arith)
