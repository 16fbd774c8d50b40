-- `print_from` meets its contract. The buckets are read; then 3, or 7, or the page.
use mathlib.Core.Path.{◌≡◌}
use Prim.Native.Nat.{ℕ, ◌*◌, ◌-◌}
use native.Mathlib.Omega.{arith}
use Rattle.std.proofs.lemmas.Result.{err_from_is_err_and}
use Rattle.crumbmap.specs.Layouts.{layout1, fronts, most_members}
use Rattle.machine.specs.Results.{accepted}
use Rattle.machine.specs.OccupancyPages.{page_lines, lines_from, lines_of}
use Rattle.printing.specs.Steps.Counts.{many_in, LinesRead}
use Rattle.printing.proofs.PageReads.{run-refused, ran-lines, lines-read, page-refused, page-short, page-printed}
use Rattle.printing.proofs.page.print_from.Goals.{In_ok-measure}
use Rattle.printing.proofs.page.print_from.Goals as goal

-- room for all members of a page
abbrev room : ℕ
room = page_lines * most_members layout1

-- the buckets of the page were read
all_read : (c : In_ok-measure) → let a = c.args in LinesRead layout1 a.size a.image.now page_lines a.start
all_read c =
    let e = c.end_of-end in
    ran-lines layout1 c.args.size c.args.image.now c.args.start page_lines e.result room _ e.ensures c.requires.1 (omega arith) c.in_ok-measure.ensures

lines : (c : In_ok-measure) → let a = c.args in
    lines_from layout1 a.size page_lines a.start a.image.now
    ≡ accepted (lines_of layout1 (many_in layout1 a.size a.image.now) (fronts a.size) page_lines a.start)
lines c = let a = c.args in lines-read layout1 a.size a.image.now page_lines a.start (all_read c)

pub returns-in_err-measure : goal.returns-in_err-measure
returns-in_err-measure c =
    let e = c.end_of-end in
    let p = err_from_is_err_and c.from_residual.result c.from_residual.ensures.1 in
    rw (p.1, p.2) (page-refused layout1 c.args.size c.args.start c.args.image.now c.args.out.now
    (run-refused layout1 c.args.size c.args.image.now (e.result - c.args.start) page_lines c.args.start room _
    (omega (arith, e.ensures)) (omega (arith, c.requires.1, e.ensures)) c.in_err-measure.ensures))

pub returns-then-out-lt-PAGE_BYTES : goal.returns-then-out-lt-PAGE_BYTES
returns-then-out-lt-PAGE_BYTES c =
    let a = c.args in
    page-short layout1 a.size a.start a.image.now a.out.now (lines (goal.at.returns-then-out-lt-PAGE_BYTES c).In_ok-measure) (omega arith)

pub print_all-requires : goal.print_all-requires
print_all-requires c =
    let p = c.requires in
    (p.0, p.1, all_read (goal.at.print_all-requires c).In_ok-measure, omega arith)

pub returns : goal.returns
returns c =
    let a = c.args in
    page-printed layout1 a.size a.start a.image.now a.out.now (lines (goal.at.returns c).In_ok-measure) (omega arith) c.print_all.ensures
