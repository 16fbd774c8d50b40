-- `minifilter::quick::tags_rise` meets its contract: what the marks say of all slots, or of those in use and the others (`rising-full`, `rising-some`).
use mathlib.Core.Path.{refl, sym, ◌∙◌}
use mathlib.Core.Bool.{false≢true}
use Prim.Native.Nat.{ℕ, ◌+◌, ◌*◌, ◌%◌, ◌^◌, ◌<◌}
use native.Mathlib.Omega.{arith}
use lib.Bits.{bit_or}
use borrow.Author.Tests.{eqb-true}
use Rattle.minifilter.proofs.MarkLaws.{two-shifted}
use Rattle.minifilter.proofs.RiseLaws.{rising-full, rising-some}
use Rattle.minifilter.proofs.quick.tags_rise.Goals as goal

-- all slots are in use
pub returns-then-members-eq-BACK_SLOTS : goal.returns-then-members-eq-BACK_SLOTS
returns-then-members-eq-BACK_SLOTS c e =
    let t = c.rises in
    let rising : ℕ = bit_or t.result (2 * c.args.bits) % 4194304 in
    rw c.if-members-eq-BACK_SLOTS.true (rising-full c.args.b.now c.args.bits t.result 21 t.ensures (eqb-true (rising + 2) 4194304 e) refl)

pub returns-then-tag_of-ne0 : goal.returns-then-tag_of-ne0
returns-then-tag_of-ne0 c e = absurd (false≢true e)

-- some are not
pub returns : goal.returns
returns c e =
    let n = c.args.members in
    let t = c.rises in
    let rising : ℕ = bit_or t.result (2 * c.args.bits) % 4194304 in
    let some : n < 22 = omega (arith, c.requires.2, c.if-members-eq-BACK_SLOTS.false) in
    rising-some c.args.b.now c.args.bits t.result n t.ensures (eqb-true (rising + 2) (2 * 2 ^ n % 4294967296) e ∙ two-shifted n (omega arith)) some
    (sym c.tag_of.ensures.0 ∙ c.if-tag_of-ne0.false)
