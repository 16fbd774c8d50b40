-- The taker of an overflow as the code names it, and the slot that it has left.
use mathlib.Core.Path.{◌≡◌, refl}
use Prim.Native.Nat.{ℕ, ◌≤◌, ◌<◌}
use mathlib.Core.Bool.{Bool, true, false, cond}
use mathlib.Core.Option.{Option, none, some}
use native.Mathlib.Omega.{arith}
use native.Mathlib.Decide.{dec_le}
use borrow.Author.Tests.{lt-ltb, le-ltb, eq-eqb}
use Rattle.std.specs.Prelude as S
use Rattle.crumbmap.specs.Layouts.{Layout}
use Rattle.machine.specs.Machine.{taker}
use Rattle.machine.proofs.TakeLaws.{room-first, room-second}
use Rattle.insertion.specs.Steps.Insertions.{taking_of}
use Rattle.insertion.specs.declared.Choice.TheVariants as C

-- what each answer says
pub taking-full : {o : Option Bool} → S.None ≡ taking_of o → o ≡ none
taking-full {o = none} e = refl
taking-full {o = some true} e = cc
taking-full {o = some false} e = cc

pub taking-first : {o : Option Bool} → S.Some C.First ≡ taking_of o → o ≡ some true
taking-first {o = none} e = cc
taking-first {o = some true} e = refl
taking-first {o = some false} e = cc

pub taking-second : {o : Option Bool} → S.Some C.Second ≡ taking_of o → o ≡ some false
taking-second {o = none} e = cc
taking-second {o = some true} e = cc
taking-second {o = some false} e = refl

-- by the member counts, each at most the slots
module _ (L : Layout) (n0 n1 : ℕ) (r0 : n0 ≤ L.back_slots) (r1 : n1 ≤ L.back_slots) where
  pub taker-first : n0 < n1 → taker L n0 n1 ≡ some true
  unfolding taker
  taker-first h = rw (room-first L.back_slots n0 n1 (λ e. omega arith), lt-ltb n0 n1 h)

  pub taker-second : n1 ≤ n0 → n1 < L.back_slots → taker L n0 n1 ≡ some false
  unfolding taker
  taker-second h l = rw (room-second L.back_slots n0 n1 (λ e. omega arith), le-ltb n0 n1 h)

  pub taker-full : n1 ≤ n0 → n1 ≡ L.back_slots → taker L n0 n1 ≡ none
  unfolding taker
  taker-full h e = rw (eq-eqb n0 L.back_slots (omega arith), eq-eqb n1 L.back_slots e)

  -- the bucket that takes it has a slot left
  pub taker-room : (t : Bool) → taker L n0 n1 ≡ some t → cond t n0 n1 < L.back_slots
  taker-room true e = elim (dec_le n1 n0) [ yes h ↦ other h | no h ↦ omega arith ]
    where
      other : n1 ≤ n0 → n0 < L.back_slots
      other h = elim (dec_le L.back_slots n1) [
        | yes g ↦ let q = taker-full h (omega arith) in let z : ◌≡◌ {A = ℕ} 0 1 = cc in absurd (omega arith)
        | no g ↦ let q = taker-second h (omega arith) in let z : ◌≡◌ {A = ℕ} 0 1 = cc in absurd (omega arith)
      ]
  taker-room false e = elim (dec_le n1 n0) [ yes h ↦ other h | no h ↦ let q = taker-first (omega arith) in let z : ◌≡◌ {A = ℕ} 0 1 = cc in absurd (omega arith) ]
    where
      other : n1 ≤ n0 → n1 < L.back_slots
      other h = elim (dec_le L.back_slots n1) [
        | yes g ↦ let q = taker-full h (omega arith) in let z : ◌≡◌ {A = ℕ} 0 1 = cc in absurd (omega arith)
        | no g ↦ omega arith
      ]
