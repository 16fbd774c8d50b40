-- `search::list::copies_in` meets its contract: the marks of the first halves that are the crumb (`marks-count`), which are 0 once the crumb is taken
-- away from each (`same-halves`).
use mathlib.Core.Path.{◌≡◌, ◌∙◌}
use Prim.Native.Nat.{ℕ, ◌*◌, ◌-◌, ◌%◌, ◌^◌, ◌≤◌}
use native.Mathlib.Omega.{arith}
use lib.Bits.{bit_and, and_le_l}
use lib.Count.{ones, ones-le}
use lib.Pow.{pow_pos}
use Rattle.multiset.specs.Digits.{digits}
use Rattle.multiset.proofs.DigitLaws.{length_digits}
use Rattle.search.specs.Steps.Searches.{half_marks}
use Rattle.search.proofs.HalfLaws.{repeated, same-halves, marks-count, mask_is}
use Rattle.search.proofs.list.copies_in.Goals.{After-zero_halves-same}
use Rattle.search.proofs.list.copies_in.Goals as goal

-- the marks of the halves that are the crumb
marks : (c : After-zero_halves-same) → let a = c.args in c.zero_halves-same.result ≡ half_marks a.crumb (digits 16 16 a.halves)
marks c =
    let a = c.args in
    let e : a.crumb * 1229782938247303441 ≡ repeated a.crumb 16 = omega arith in
    c.zero_halves-same.ensures ∙ rw e (same-halves 16 a.halves a.crumb c.requires.0)

few : (c : After-zero_halves-same) (mask : ℕ) → ones (bit_and c.zero_halves-same.result mask) ≤ 64
few c mask = ones-le 64 (bit_and c.zero_halves-same.result mask) (omega (arith, and_le_l c.zero_halves-same.result mask, c.zero_halves-same.type_inv))

pub overflow_sub-result : goal.overflow_sub-result
overflow_sub-result c = let n = c.args.n in omega (arith, mask_is n c.requires.1, pow_pos (4 * n))

pub overflow_cast-result : goal.overflow_cast-result
overflow_cast-result c = omega (arith, few c (1 * 2 ^ (4 * c.args.n) % 18446744073709551616 - 1))

pub returns : goal.returns
returns c =
    let a = c.args in
    let hs = digits 16 16 a.halves in
    rw (mask_is a.n c.requires.1, marks c) (marks-count a.crumb a.n hs (omega (arith, length_digits 16 16 a.halves, c.requires.1)))
