-- `paging::page::page_opened` meets its contract: 14 for another change count, 6 past the end; else the page of an image of that size.
use mathlib.Core.Path.{refl}
use native.Mathlib.Omega.{arith}
use lib.ListN.{length}
use borrow.Author.Tests.{lt-ltb}
use Rattle.crumbmap.specs.Layouts.{layout1, fronts}
use Rattle.machine.specs.Results.{Result}
use Rattle.machine.specs.Pages.{Run, page_from}
use Rattle.machine.specs.Calls.{page_of}
use Rattle.form.proofs.WalkLaws.{unchanged-same, unchanged-other}
use Rattle.image.proofs.ImageReadLaws.{whole-sized}
use Rattle.paging.proofs.page.page_opened.Goals.{Start}
use Rattle.paging.proofs.page.page_opened.Goals as goal

-- what is asked of the body
abbrev asked : Start → Result Run
asked s = page_of layout1 s.args.image.now s.args.start (length s.args.out.now)

pub returns-then-current-changes : goal.returns-then-current-changes
returns-then-current-changes c =
    let s = (goal.at.returns-then-current-changes c).Start in
    rw (unchanged-other c.args.opened.changes c.args.changes (asked s) (λ e. omega (arith, c.if-current-changes.true, e))) (record { answer = refl; bytes = refl })

pub returns-then-end-start : goal.returns-then-end-start
unfolding page_of page_from fronts
returns-then-end-start c =
    let s = (goal.at.returns-then-end-start c).Start in
    rw (
      unchanged-same c.args.opened.changes c.args.changes (asked s) (omega (arith, c.if-current-changes.false)),
      whole-sized c.requires,
      lt-ltb (fronts c.args.opened.size) c.args.start c.if-end-start.true,
    ) (record { answer = refl; bytes = refl })

pub page_from-requires : goal.page_from-requires
unfolding fronts
page_from-requires c = (c.requires, omega arith)

pub returns : goal.returns
unfolding page_of
returns c =
    let s = (goal.at.returns c).Start in
    rw (unchanged-same c.args.opened.changes c.args.changes (asked s) (omega (arith, c.if-current-changes.false)), whole-sized c.requires) c.page_from.ensures
