-- The numbers of an occupancy page's line, read back. Main results: `aligned-shown`, `line-shown`.
use mathlib.Core.Path.{◌≡◌, refl}
use Prim.Native.Nat.{ℕ, zero, suc, ◌+◌, ◌*◌, ◌-◌, ◌/◌, ◌%◌, ◌^◌, ◌<◌, min}
use mathlib.Core.Bool.{Bool, true, false, cond}
use mathlib.Core.List.{List, [], ◌∷◌, ◌++◌, append_assoc}
use native.Mathlib.Omega.{arith}
use native.Mathlib.Nat.{pow-suc}
use lib.ListN.{take, drop, replicate}
use lib.Seq.{take_at, drop_at, drop-drop}
use lib.Dec.{ltb, eqb}
use borrow.Author.Tests.{ltb-true, ne_eqb}
use Rattle.crumbmap.specs.Layouts.{Layout}
use Rattle.machine.specs.OccupancyPages.{aligned, column, bar, line, line_with}
use Rattle.machine.proofs.OccupancyLaws.{length-aligned, length-column}
use Rattle.history.specs.Occupancies.{shown, Shows}

-- ---- a number

-- a digit behind what was read
shown-digit : (v d : ℕ) (xs : List ℕ) → shown v (xs ++ ((48 + d) ∷ [])) ≡ shown v xs * 10 + d
unfolding shown
shown-digit v d [] = let k : 48 + d - 48 ≡ d = omega arith in rw (ne_eqb (48 + d) 32 (λ e. omega arith), k)
shown-digit v d (x ∷ xs) = shown-digit (cond (eqb x 32) v (v * 10 + (x - 48))) d xs

shown-blanks : (v n : ℕ) → shown v (replicate {A = ℕ} n 32) ≡ v
unfolding shown
shown-blanks v zero = refl
shown-blanks v (suc n) = shown-blanks v n

pub aligned-shown : (w n : ℕ) → n < 10 ^ w → shown 0 (aligned w n) ≡ n
unfolding aligned
aligned-shown zero n h = unfold shown in omega arith
aligned-shown (suc w) n h = go (ltb n 10) refl (aligned-shown w (n / 10))
  where
    go : (b : Bool) → ltb n 10 ≡ b → (n / 10 < 10 ^ w → shown 0 (aligned w (n / 10)) ≡ n / 10)
        → shown 0 (cond b (replicate {A = ℕ} w 32) (aligned w (n / 10)) ++ ((48 + n % 10) ∷ [])) ≡ n
    go true e r = rw (shown-digit 0 (n % 10) (replicate {A = ℕ} w 32), shown-blanks 0 w) (omega (arith, ltb-true n 10 e))
    go false e r =
        let k : n / 10 < 10 ^ w = omega (arith, h, pow-suc 10 w) in
        rw (shown-digit 0 (n % 10) (aligned w (n / 10)), r k) (omega arith)

-- ---- a line

column-shown : (w n : ℕ) (r : List ℕ) → n < 10 ^ w → shown 0 (take w (column w n ++ r)) ≡ n
unfolding column
column-shown w n r h =
    rw (append_assoc (aligned w n) (32 ∷ []) r, take_at (aligned w n) ((32 ∷ []) ++ r) w (length-aligned w n)) (aligned-shown w n h)

pub line-shown : (L : Layout) (f n : ℕ) → f < 10 ^ 6 → L.front_slots < 10 ^ 2 → n - L.front_slots < 10 ^ 2 → Shows L f n (line_with L f n)
unfolding line
line-shown L f n h k l =
    let a : ℕ = min n L.front_slots in
    let b : ℕ = n - L.front_slots in
    let r : List ℕ = bar L a ++ (10 ∷ []) in
    let behind : drop 7 (column 6 f ++ (column 2 a ++ (column 2 b ++ r))) ≡ column 2 a ++ (column 2 b ++ r) =
    drop_at (column 6 f) (column 2 a ++ (column 2 b ++ r)) 7 (length-column 6 f) in
    record {
      number = column-shown 6 f (column 2 a ++ (column 2 b ++ r)) h;
      front = rw behind (column-shown 2 a (column 2 b ++ r) (omega arith));
      behind =
          rw (
            ← drop-drop 3 7 (column 6 f ++ (column 2 a ++ (column 2 b ++ r))),
            behind,
            drop_at (column 2 a) (column 2 b ++ r) 3 (length-column 2 a),
          )
          (column-shown 2 b r l);
    }
