-- `words::select::approach` meets its contract: three steps lead to the byte of the rank, or to the last.
use mathlib.Core.Path.{◌≡◌, refl, ap}
use Prim.Native.Nat.{ℕ, ◌%◌, ◌/◌, ◌^◌, ◌-◌}
use native.Mathlib.Omega.{arith}
use lib.Count.{ones_in}
use lib.Dec.{lit<}
use Rattle.words.specs.Steps.Counts.{Near}
use Rattle.words.proofs.ByteLaws.{near-all, near_step, sums_at}
use Rattle.words.proofs.select.approach.Goals.{After-step-place}
use Rattle.words.proofs.select.approach.Goals as goal

near : (c : After-step-place) → Near c.args.word c.args.rank c.step-place.result 8
near c =
    let a = c.args in
    let s = c.sums-sums in
    let half = c.step-half in
    let quarter = c.step-quarter in
    let n1 = near_step a.word s.result a.rank 0 32 half.result s.ensures refl (lit< tt) (near-all a.word a.rank) half.ensures in
    let n2 = near_step a.word s.result a.rank half.result 16 quarter.result s.ensures refl (lit< tt) n1 quarter.ensures in
    near_step a.word s.result a.rank quarter.result 8 c.step-place.result s.ensures refl (lit< tt) n2 c.step-place.ensures

-- the ones passed by
passed : (c : After-step-place) → c.sums-sums.result / 2 ^ c.step-place.result % 256 ≡ ones_in c.step-place.result c.args.word
passed c = sums_at c.args.word c.sums-sums.result c.step-place.result c.sums-sums.ensures (near c).whole (omega (arith, (near c).room))

pub overflow_sub-result : goal.overflow_sub-result
overflow_sub-result c = rw (passed c) (near c).passed

pub returns : goal.returns
returns c = (near c, ap (λ (n : ℕ). c.args.rank - n) (passed c))
