-- Lines of an occupancy page, computed beside the text that they print; and how long they are with 28 front slots and with 51.
use mathlib.Core.Path.{◌≡◌, refl}
use Prim.Native.Nat.{ℕ}
use mathlib.Core.List.{[], ◌∷◌, ◌++◌}
use lib.ListN.{replicate}
use Rattle.crumbmap.specs.Layouts.{Layout, layout1}
use Rattle.machine.specs.OccupancyPages.{aligned, column, line_bytes, page_bytes, bar, line}

-- "    13 28  2 ", 28 times #, newline
pub line-13 : line layout1 13 28 2
    ≡ 32 ∷ 32 ∷ 32 ∷ 32 ∷ 49 ∷ 51 ∷ 32 ∷ 50 ∷ 56 ∷ 32 ∷ 32 ∷ 50 ∷ 32 ∷ (replicate {A = ℕ} 28 35 ++ (10 ∷ []))
unfolding line column bar aligned
line-13 = refl

-- "524287  3  0 ", 3 times #, 25 dots, newline
pub line-524287 : line layout1 524287 3 0
    ≡ 53 ∷ 50 ∷ 52 ∷ 50 ∷ 56 ∷ 55 ∷ 32 ∷ 32 ∷ 51 ∷ 32 ∷ 32 ∷ 48 ∷ 32 ∷ 35 ∷ 35 ∷ 35 ∷ (replicate {A = ℕ} 25 46 ++ (10 ∷ []))
unfolding line column bar aligned
line-524287 = refl

-- 42 and 1,008 bytes; 65 and 1,560
pub lengths-28 : (line_bytes layout1 ≡ 42) × (page_bytes layout1 ≡ 1008)
lengths-28 = (refl, refl)

pub lengths-51 : (L : Layout) → L.front_slots ≡ 51 → (line_bytes L ≡ 65) × (page_bytes L ≡ 1560)
lengths-51 L e = rw e (refl, refl)
