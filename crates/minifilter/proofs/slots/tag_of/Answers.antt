-- `minifilter::slots::tag_of` meets its contract: its two bytes are the tag of the slot, by `two_bytes`.
use mathlib.Core.Path.{◌∙◌, ap, ◌≡◌}
use Prim.Native.Nat.{◌+◌, ◌*◌, ℕ}
use native.Mathlib.Omega.{arith}
use lib.ListN.{take, drop}
use Rattle.multiset.specs.Digits.{value}
use Rattle.buckets.proofs.ElementLaws.{two_bytes}
use Rattle.minifilter.proofs.slots.tag_of.Goals as goal

pub overflow_cast-result : goal.overflow_cast-result
overflow_cast-result c = omega (arith, c.shared_slice_known-1.given (8 + 2 * c.args.slot))

pub overflow_cast-result-2 : goal.overflow_cast-result-2
overflow_cast-result-2 c = omega (arith, c.shared_slice_known-2-1.given (8 + 2 * c.args.slot + 1))

pub overflow_mul-result : goal.overflow_mul-result
overflow_mul-result c = omega (arith, c.shared_slice_known-2-1.given (8 + 2 * c.args.slot + 1))

pub overflow_add-result-2 : goal.overflow_add-result-2
overflow_add-result-2 c =
    let at = 8 + 2 * c.args.slot in
    omega (arith, c.shared_slice_known-2-1.given at, c.shared_slice_known-2-1.given (at + 1))

pub returns : goal.returns
returns c =
    let a = c.args in
    let at = 8 + 2 * a.slot in
    let same : at ≡ 8 + a.slot * 2 = omega arith in (
      two_bytes at a.b.now (omega arith) ∙ ap (λ (n : ℕ). value 256 (take 2 (drop n a.b.now))) same,
      omega (arith, c.shared_slice_known-2-1.given at, c.shared_slice_known-2-1.given (at + 1)),
    )

pub overflow_mul-at : goal.overflow_mul-at
overflow_mul-at c = omega arith

pub overflow_add-at : goal.overflow_add-at
overflow_add-at c = omega arith

pub bounds-b-at : goal.bounds-b-at
bounds-b-at c = omega arith

pub overflow_add-result : goal.overflow_add-result
overflow_add-result c = omega arith

pub bounds-b-at-2 : goal.bounds-b-at-2
bounds-b-at-2 c = omega arith
