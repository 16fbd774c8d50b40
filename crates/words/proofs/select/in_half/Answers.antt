-- `words::select::in_half` meets its contract: the place stands in the constant of its half bytes (`half_place`).
use mathlib.Core.Path.{◌≡◌, ◌∙◌, ap}
use Prim.Native.Nat.{ℕ, ◌+◌, ◌*◌, ◌/◌, ◌%◌, ◌^◌, ◌<◌}
use native.Mathlib.Omega.{arith}
use borrow.Author.Tests.{lt-ltb, le-ltb}
use Rattle.words.proofs.SelectLaws.{ones-few}
use Rattle.words.proofs.HalfLaws.{places, half_place}
use Rattle.words.proofs.select.in_half.Goals.{Joined-half-lt8, then-half-lt8, else-half-lt8}
use Rattle.words.proofs.select.in_half.Goals as goal

few : (c : Joined-half-lt8) → c.args.rank < 4
few c = omega (arith, c.requires.1, ones-few 4 c.args.half)

-- the constant taken is that of the half byte
taken : (c : Joined-half-lt8) → c.if-half-lt8.places ≡ places c.args.half
taken c = elim c.if-half-lt8.branch [
  | then-half-lt8 w ↦ rw (lt-ltb _ _ w.if-half-lt8.true) w.places-is
  | else-half-lt8 w ↦ rw (le-ltb _ _ w.if-half-lt8.false) w.places-is
]

pub returns : goal.returns
returns c =
    let a = c.args in
    ap (λ (p : ℕ). p / 2 ^ (a.half % 8 * 8 + a.rank * 2) % 4) (taken (goal.at.returns c).Joined-half-lt8) ∙ half_place a.half a.rank c.requires.0 c.requires.1

pub overflow_mul-result-2 : goal.overflow_mul-result-2
overflow_mul-result-2 c = omega (arith, few c)

pub overflow_add-result : goal.overflow_add-result
overflow_add-result c = omega (arith, few c)

pub overflow_shr-result : goal.overflow_shr-result
overflow_shr-result c = omega (arith, few (goal.at.overflow_shr-result c).Joined-half-lt8)
