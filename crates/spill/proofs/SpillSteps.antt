-- A target that took all keys or was full on the way: `reached-all` and `reached-full`, and what comes after it: `then-on` and `then-full`.
use mathlib.Core.Path.{◌≡◌, sym}
use mathlib.Core.Bool.{Bool, true, false}
use mathlib.Core.List.{List}
use Prim.Native.Nat.{ℕ}
use Rattle.machine.specs.Results.{Result, accepted, refused, and_then}
use Rattle.spill.specs.Steps.Settling.{reached}

pub reached-all : {R : Result (List ℕ)} (r : Bool) (t : List ℕ) → reached r t ≡ R → r ≡ true → R ≡ accepted t
reached-all r t e p = rw (sym e, p)

pub reached-full : {R : Result (List ℕ)} (r : Bool) (t : List ℕ) → reached r t ≡ R → r ≡ false → R ≡ refused 4 0
reached-full r t e p = rw (sym e, p)

-- what comes after a target that took all, and after one that did not
module _ {R : Result (List ℕ)} (r : Bool) (t : List ℕ) (k : List ℕ → Result (List ℕ)) (e : reached r t ≡ R) where
  pub then-on : r ≡ true → and_then R k ≡ k t
  then-on p = rw (sym e, p)

  pub then-full : r ≡ false → and_then R k ≡ refused 4 0
  then-full p = rw (sym e, p)
