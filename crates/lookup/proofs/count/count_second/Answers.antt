-- `lookup::count::count_second` meets its contract: the copies in front, and those found in the one bucket behind it (`behind-same`).
use mathlib.Core.Path.{◌∙◌, ap}
use Prim.Native.Nat.{ℕ, ◌+◌}
use native.Mathlib.Omega.{arith}
use Rattle.std.specs.Prelude as S
use Rattle.std.proofs.lemmas.Result.{err_from_is_err_and}
use Rattle.machine.specs.Machine.{counted}
use Rattle.image.proofs.ImageReadLaws.{back_in}
use Rattle.lookup.proofs.CountSteps.{here-few, behind-same, sought-few}
use Rattle.lookup.proofs.count.count_second.Goals as goal

pub seek-requires : goal.seek-requires
seek-requires c =
    let p = c.requires.0.placed in
    let l = c.second_of.ensures in
    (back_in p.within.whole l.inside, l.small, p.key)

pub returns-in_err-seek : goal.returns-in_err-seek
returns-in_err-seek c =
    let p = err_from_is_err_and c.from_residual.result c.from_residual.ensures.1 in
    rw (p.1, p.2) (behind-same c.requires.0 c.requires.1 (S.Err c.in_err-seek.field-0.0) c.in_err-seek.ensures c.second_of.ensures)

pub overflow_add-result : goal.overflow_add-result
overflow_add-result c =
    omega (arith, here-few c.requires.0, sought-few c.requires.0 c.second_of.result c.in_ok-seek.field-0 c.in_ok-seek.ensures, c.copies_of-second.ensures)

pub returns : goal.returns
returns c =
    ap (λ (n : ℕ). counted 2 (c.args.here + n)) c.copies_of-second.ensures
    ∙ behind-same c.requires.0 c.requires.1 (S.Ok c.in_ok-seek.field-0) c.in_ok-seek.ensures c.second_of.ensures
