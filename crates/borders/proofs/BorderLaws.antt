-- The zeros of a word's lowest bits, and which of them stand right below a one: counts and bits of two parts are put together (`zeros-split`,
-- `ends-split`, `borders-split`), and eight bits say all of seven places (`zeros-byte`, `ends-byte`).
use mathlib.Core.Path.{◌≡◌, refl, sym}
use Prim.Native.Nat.{ℕ, zero, suc, ◌+◌, ◌-◌, ◌*◌, ◌/◌, ◌%◌, ◌^◌, ◌≤◌, ◌<◌}
use native.Mathlib.Nat.{zero-add, suc-add, pow-suc}
use native.Mathlib.Omega.{arith}
use lib.Pow.{pow-add, pow_mono}
use lib.Count.{ones_in}
use Rattle.borders.specs.Steps.Borders.{zeros_in, ends_by, ends_in, borders_in}
use Rattle.buckets.proofs.BitLaws.{shr-suc}
use Rattle.words.proofs.SelectLaws.{half-low, odd_low}

-- ---- how many

-- each bit is a zero or a one
pub zeros-ones : (d w : ℕ) → zeros_in d w + ones_in d w ≡ d
unfolding zeros_in ones_in
zeros-ones zero w = refl
zeros-ones (suc d) w = omega (arith, zeros-ones d (w / 2))

pub zeros-le : (d w : ℕ) → zeros_in d w ≤ d
zeros-le d w = omega (arith, zeros-ones d w)

ends-by-lt : (b next rest z : ℕ) → b < 2 → next < 2 → rest < 2 ^ z → ends_by b next rest < 2 ^ ((1 - b) + z)
ends-by-lt zero next rest z l m h = let e : 1 + z ≡ suc z = omega arith in rw (e, pow-suc 2 z) (omega arith)
ends-by-lt (suc b) next rest z l m h = let e : (1 - suc b) + z ≡ z = omega arith in rw e h

-- a bit for each zero
pub ends-lt : (d w : ℕ) → ends_in d w < 2 ^ zeros_in d w
unfolding zeros_in ends_in
ends-lt zero w = omega arith
ends-lt (suc d) w = ends-by-lt (w % 2) (w / 2 % 2) (ends_in d (w / 2)) (zeros_in d (w / 2)) (omega arith) (omega arith) (ends-lt d (w / 2))

-- up to 63 zeros: their bits and a leading one fit a word
pub borders-lt : (d w : ℕ) → d ≤ 63 → borders_in d w < 2 ^ 64
borders-lt d w h =
    let z = zeros_in d w in
    let m : suc z ≤ 64 = omega (arith, zeros-le d w) in
    omega (arith, ends-lt d w, rw (pow-suc 2 z) at (pow_mono m))

-- ---- the a lowest bits, and the b above them

pub zeros-split : (a b w : ℕ) → zeros_in (a + b) w ≡ zeros_in a w + zeros_in b (w / 2 ^ a)
unfolding zeros_in
zeros-split zero b w = let e : w / 1 ≡ w = omega arith in rw (zero-add b, e) (sym (zero-add (zeros_in b w)))
zeros-split (suc a) b w = rw (suc-add a b, shr-suc a w) (omega (arith, zeros-split a b (w / 2)))

ends-by-split : (b next low z high : ℕ) → b < 2 → ends_by b next (low + 2 ^ z * high) ≡ ends_by b next low + 2 ^ ((1 - b) + z) * high
ends-by-split zero next low z high l = let e : 1 + z ≡ suc z = omega arith in rw (e, pow-suc 2 z) (omega arith)
ends-by-split (suc b) next low z high l = let e : (1 - suc b) + z ≡ z = omega arith in rw e

pub ends-split : (a b w : ℕ) → ends_in (a + b) w ≡ ends_in a w + 2 ^ zeros_in a w * ends_in b (w / 2 ^ a)
unfolding zeros_in ends_in
ends-split zero b w = let e : w / 1 ≡ w = omega arith in rw (zero-add b, e) (omega arith)
ends-split (suc a) b w =
    let v = w / 2 in
    rw (suc-add a b, shr-suc a w, ends-split a b v)
    (ends-by-split (w % 2) (v % 2) (ends_in a v) (zeros_in a v) (ends_in b (v / 2 ^ a)) (omega arith))

-- the bits of the upper part are moved up past those of the lower one
pub borders-split : (a b w : ℕ) → borders_in (a + b) w ≡ borders_in b (w / 2 ^ a) * 2 ^ zeros_in a w + ends_in a w
borders-split a b w = rw (zeros-split a b w, ends-split a b w, pow-add 2 (zeros_in a w) (zeros_in b (w / 2 ^ a))) (omega arith)

-- ---- of d places, d bits and the one above them say all

zeros-low : (d w : ℕ) → zeros_in d (w % 2 ^ suc d) ≡ zeros_in d w
unfolding zeros_in
zeros-low zero w = refl
zeros-low (suc d) w = rw (half-low (suc d) w, odd_low (suc d) w, zeros-low d (w / 2))

ends_low : (d w : ℕ) → ends_in d (w % 2 ^ suc d) ≡ ends_in d w
unfolding ends_in
ends_low zero w = refl
ends_low (suc d) w = rw (half-low (suc d) w, odd_low (suc d) w, odd_low d (w / 2), ends_low d (w / 2))

pub zeros-byte : (w : ℕ) → zeros_in 7 (w % 256) ≡ zeros_in 7 w
zeros-byte w = zeros-low 7 w

pub ends-byte : (w : ℕ) → ends_in 7 (w % 256) ≡ ends_in 7 w
ends-byte w = ends_low 7 w

-- ---- a step of seven places

-- the number of zeros and their bits, packed for a byte, put below the bits of what stands above the seven places
pub borders-next : (b bits here w : ℕ) → 7 + b ≤ 63 → bits ≡ borders_in b (w / 2 ^ 7) → here ≡ zeros_in 7 (w % 256) + 8 * ends_in 7 (w % 256)
    → bits * 2 ^ (here % 8) % 2 ^ 64 + here / 8 ≡ borders_in (7 + b) w
borders-next b bits here w l e h =
    let few = zeros-le 7 w in
    let low : here % 8 ≡ zeros_in 7 w = omega (arith, zeros-byte w) in
    let high : here / 8 ≡ ends_in 7 w = omega (arith, zeros-byte w, ends-byte w) in
    let all = borders-split 7 b w in
    let small : bits * 2 ^ zeros_in 7 w < 2 ^ 64 = rw e (omega (arith, borders-lt (7 + b) w l)) in
    rw (low, high) (omega (arith, rw (← e) at all))
