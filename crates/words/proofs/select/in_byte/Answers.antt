-- `words::select::in_byte` meets its contract: the rank stands in the lower half, or past the ones of that in the upper one.
use mathlib.Core.Path.{◌≡◌, ap, ◌∙◌}
use Prim.Native.Nat.{ℕ, ◌+◌, ◌%◌, ◌/◌, ◌^◌, ◌<◌, ◌≤◌}
use native.Mathlib.Nat.{zero-add}
use native.Mathlib.Omega.{arith}
use lib.Count.{ones_in}
use Rattle.words.specs.Select.{select_in}
use Rattle.words.proofs.SelectLaws.{select-le}
use Rattle.words.proofs.HalfLaws.{half-ones, byte_low, byte_high}
use Rattle.words.proofs.select.in_byte.Goals.{Joined-here-rank, then-here-rank, else-here-rank}
use Rattle.words.proofs.select.in_byte.Goals as goal

-- what is taken of the byte: a half from bit `at` on, and a rank in it
pub record Half (byte rank at left : ℕ) : Type 0 where
  pub small : at ≤ 4
  pub has : left < ones_in 4 (byte / 2 ^ at % 16)
  pub place : at + select_in 4 (byte / 2 ^ at % 16) left ≡ select_in 8 byte rank

half : (c : Joined-here-rank) → let a = c.args in Half a.byte a.rank c.if-here-rank.at c.if-here-rank.left
half c =
    let a = c.args in
    let byte = a.byte in
    let low = byte % 16 in
    let ones = half-ones low (omega arith) in
    elim c.if-here-rank.branch [
      | then-here-rank w ↦
          let k = byte_high byte a.rank c.requires.0 (rw ones at w.if-here-rank.true) c.requires.1 in
          let up : byte / 2 ^ 4 % 16 ≡ byte / 16 = omega (arith, c.requires.0) in
          rw (w.at-is, w.left-is, ones) record { small = omega arith; has = rw up k.0; place = rw up k.1 }
      | else-here-rank w ↦
          let l : a.rank < ones_in 4 low = rw ones at w.if-here-rank.false in
          let down : byte / 2 ^ 0 % 16 ≡ low = omega arith in
          rw (w.at-is, w.left-is) record { small = omega arith; has = rw down l; place = rw down (zero-add _ ∙ byte_low byte a.rank l) }
    ]

pub in_half-requires : goal.in_half-requires
in_half-requires c = (omega arith, (half (goal.at.in_half-requires c).Joined-here-rank).has)

pub overflow_add-result : goal.overflow_add-result
overflow_add-result c =
    omega (arith, c.in_half.ensures, (half (goal.at.overflow_add-result c).Joined-here-rank).small, select-le 4 (c.args.byte / 2 ^ c.if-here-rank.at % 16) c.if-here-rank.left)

pub returns : goal.returns
returns c = ap (λ (x : ℕ). c.if-here-rank.at + x) c.in_half.ensures ∙ (half (goal.at.returns c).Joined-here-rank).place
