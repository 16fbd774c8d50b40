-- Select in a byte by its two halves: the constants that select.rt packs hold what they should, every case computed.
-- Main results: `half_place`, `half-ones`, `byte_low`, `byte_high`.
use mathlib.Core.Path.{◌≡◌, refl, sym, ap, ◌∙◌}
use Prim.Native.Nat.{ℕ, ◌+◌, ◌*◌, ◌-◌, ◌/◌, ◌%◌, ◌^◌, ◌<◌, ◌≤◌}
use mathlib.Core.Bool.{cond}
use mathlib.Core.List.{List}
use native.Mathlib.Nat.{zero-add}
use native.Mathlib.Omega.{arith}
use lib.ListN.{get_or}
use lib.Count.{ones_in}
use lib.Dec.{ltb}
use borrow.Author.Tests.{lt-ltb}
use Rattle.words.specs.Select.{select_in, listed}
use Rattle.words.proofs.SelectLaws.{listed_at, select-hit, select-pass, select-low, ones_low, ones-few}
use Rattle.words.proofs.ByteLaws.{ones_split}

-- two functions that give the same list agree wherever it was computed
agree : (f g : ℕ → ℕ) (n : ℕ) → listed f 0 n ≡ listed g 0 n → (i : ℕ) → i < n → f (0 + i) ≡ g (0 + i)
agree f g n e i l = sym (listed_at f 0 n i l) ∙ ap (λ (t : List ℕ). get_or t i 0) e ∙ listed_at g 0 n i l

-- the places of the ones of a half byte by rank, two bits each: a byte each of half bytes 0 to 7, and of 8 to 15
abbrev pub places : ℕ → ℕ
places half = cond (ltb half 8) 2596615464905932800 16445237147974044675

-- one of them, where the half byte has that rank
abbrev placed : (ℕ → ℕ → ℕ) → ℕ → ℕ
placed at i = cond (ltb (i % 4) (ones_in 4 (i / 4))) (at (i / 4) (i % 4)) 0

packed : ℕ → ℕ → ℕ
packed half rank = places half / 2 ^ (half % 8 * 8 + rank * 2) % 4

half-places : listed (placed packed) 0 64 ≡ listed (placed (select_in 4)) 0 64
unfolding packed select_in ones_in
half-places = refl

half-counts : listed (λ (i : ℕ). 4841987667533046032 / 2 ^ (i * 4) % 16) 0 16 ≡ listed (ones_in 4) 0 16
unfolding ones_in
half-counts = refl

placed_at : (at : ℕ → ℕ → ℕ) (half rank : ℕ) → rank < 4 → rank < ones_in 4 half → placed at (0 + (4 * half + rank)) ≡ at half rank
placed_at at half rank l h =
    let a : (0 + (4 * half + rank)) / 4 ≡ half = omega arith in
    let b : (0 + (4 * half + rank)) % 4 ≡ rank = omega arith in
    rw (a, b, lt-ltb rank (ones_in 4 half) h)

-- the place of a rank that a half byte has
pub half_place : (half rank : ℕ) → half < 16 → rank < ones_in 4 half → places half / 2 ^ (half % 8 * 8 + rank * 2) % 4 ≡ select_in 4 half rank
unfolding packed
half_place half rank l h =
    let few : rank < 4 = omega (arith, ones-few 4 half) in
    sym (placed_at packed half rank few h)
    ∙ agree (placed packed) (placed (select_in 4)) 64 half-places (4 * half + rank) (omega arith)
    ∙ placed_at (select_in 4) half rank few h

-- how many ones a half byte has, four bits each
pub half-ones : (half : ℕ) → half < 16 → 4841987667533046032 / 2 ^ (half * 4) % 16 ≡ ones_in 4 half
half-ones half l = rw (zero-add half) at (agree (λ (i : ℕ). 4841987667533046032 / 2 ^ (i * 4) % 16) (ones_in 4) 16 half-counts half l)

-- ---- a byte: a rank in its lower half, and one past the ones of that

ones_half : (byte : ℕ) → ones_in 4 (byte % 16) ≡ ones_in 4 byte
ones_half byte = let e : byte % 16 % 16 ≡ byte % 16 = omega arith in sym (ones_low 4 (byte % 16)) ∙ rw e (ones_low 4 byte)

pub byte_low : (byte rank : ℕ) → rank < ones_in 4 (byte % 16) → select_in 4 (byte % 16) rank ≡ select_in 8 byte rank
byte_low byte rank h = select-low 4 byte rank ∙ sym (select-hit 4 4 byte rank (rw (ones_half byte) at h))

pub byte_high : (byte rank : ℕ) → byte < 256 → ones_in 4 (byte % 16) ≤ rank → rank < ones_in 8 byte
    → (rank - ones_in 4 (byte % 16) < ones_in 4 (byte / 16)) × (4 + select_in 4 (byte / 16) (rank - ones_in 4 (byte % 16)) ≡ select_in 8 byte rank)
byte_high byte rank l h k = (
  omega (arith, ones_half byte, ones_split 4 4 byte),
  rw (ones_half byte) (sym (select-pass 4 4 byte rank (rw (ones_half byte) at h))),
)
