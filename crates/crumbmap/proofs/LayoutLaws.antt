-- The layouts that there are: a number that names one names layout 1, `known-one`.
use mathlib.Core.Path.{◌≡◌}
use Prim.Native.Nat.{ℕ}
use mathlib.Core.Bool.{Bool, true, false, cond}
use mathlib.Core.Option.{none, some}
use native.Mathlib.Omega.{arith}
use lib.Dec.{eqb}
use Rattle.crumbmap.specs.Layouts.{Layout, layout1, known}

pub known-one : (n : ℕ) (L : Layout) → known n ≡ some L → layout1 ≡ L
known-one n L e = go (eqb n 1) e
  where
    go : (b : Bool) → cond b (some layout1) none ≡ some L → layout1 ≡ L
    go true q = cc
    go false q = let z : ◌≡◌ {A = ℕ} 0 1 = cc in absurd (omega arith)
