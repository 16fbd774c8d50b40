-- `grouping::share::share_again` meets its contract: the key is in b0, and the ask reads no more (`first_found`), or b1 is read.
use Rattle.std.proofs.Common.{◌≡◌, ◌+◌, ◌*◌, true, sym, ◌∙◌, arith}
use mathlib.Core.Option.{Option}
use Rattle.multiset.specs.Multisets.{Found, found_in}
use Rattle.crumbmap.specs.Layouts.{layout1}
use Rattle.crumbmap.specs.CrumbMap.{first_bucket, first_crumb}
use Rattle.search.specs.Steps.Searches.{search_of}
use Rattle.machine.specs.Images.{in_back}
use Rattle.grouping.proofs.LoneLaws.{way-found, is-found, first_found, same-shared, shares}
use Rattle.grouping.proofs.share.share_again.Goals.{After-seek_at}
use Rattle.grouping.proofs.share.share_again.Goals as goal

-- where the key stands in b0 with its crumb, and what was found
abbrev standing : After-seek_at → Option Found
standing c =
    let a = c.args in
    let f = a.front.0 in
    found_in (a.key * 16 + first_crumb f) (in_back layout1 a.size (first_bucket f) a.image.now)

found : (c : After-seek_at) → c.seek_at.result ≡ search_of (standing c)
found c = let a = c.args in way-found layout1 true c.first_of.ensures a.key a.image.now c.seek_at.ensures

pub returns-then-coincide : goal.returns-then-coincide
returns-then-coincide c =
    let a = c.args in
    same-shared layout1 a.size a.front.0 a.key a.image.now c.requires.2 c.requires.0.front (sym c.coincide.ensures ∙ c.if-coincide.true) c.requires.3
    (omega arith)

pub returns-then-is_some : goal.returns-then-is_some
returns-then-is_some c =
    let a = c.args in
    let q = (goal.at.returns-then-is_some c).After-seek_at in
    let s = is-found (standing q) (found q) c.is_some.ensures c.if-is_some.true in
    shares layout1 a.size a.front.0 a.key a.image.now
    (first_found layout1 a.size a.front.0 a.key a.image.now c.requires.2 c.requires.3 s.1) (omega arith)
