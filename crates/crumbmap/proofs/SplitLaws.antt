-- A crumb taken apart into choice and digit: / 8 and % 8 do it, and however it is done, the way back goes by them.
-- Main results: `split`, `home-split`.
use mathlib.Core.Path.{◌≡◌, refl}
use Prim.Native.Nat.{ℕ, zero, suc, ◌-◌, ◌/◌, ◌%◌, ◌<◌, ◌≤◌}
use native.Mathlib.Omega.{arith}
use mathlib.Core.Option.{Option}
use borrow.Author.Tests.{lt-ltb, le-ltb}
use Rattle.crumbmap.specs.CrumbMap.{first_home, second_home, home}
use Rattle.crumbmap.specs.Steps.Places.{Splits}
use Rattle.crumbmap.specs.declared.Split.{Split}

pub split : (c : ℕ) → c < 16 → Splits c (record { 0 = c / 8; 1 = c % 8 })
split c l = omega arith

-- the way back of choice 0, and of choice 1
abbrev pub home_by : ℕ → ℕ → ℕ → ℕ → Option ℕ
home_by zero = first_home
home_by (suc k) = second_home

-- the specification's comparison of a crumb with 8 goes by its choice, with its digit
pub home-split : {c : ℕ} {r : Split} → Splits c r → (B j : ℕ) → home B j c ≡ home_by r.0 B j r.1
unfolding home
home-split {c = c} {r = r} s B j = go r.0 refl
  where
    go : (k : ℕ) → r.0 ≡ k → home B j c ≡ home_by k B j r.1
    go zero e =
        let d : c ≡ r.1 = omega (arith, s.value) in
        let l : c < 8 = omega (arith, s.digit) in
        rw (lt-ltb c 8 l, d)
    go (suc k) e =
        let d : c - 8 ≡ r.1 = omega (arith, s.value, s.choice) in
        let l : 8 ≤ c = omega (arith, s.value) in
        rw (le-ltb c 8 l, d)
