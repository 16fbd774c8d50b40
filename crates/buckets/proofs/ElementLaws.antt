-- The element at a place of a list of digits that is grouped into numbers, of numbers that are spread into digits, or of two lists joined.
-- Main results: `grouped-at`, `spread_at`, `joined_at`, and of bytes `two_bytes`, `half_of`.
use mathlib.Core.Path.{◌≡◌, refl, sym, ◌∙◌}
use Prim.Native.Nat.{ℕ, zero, suc, ◌+◌, ◌*◌, ◌/◌, ◌%◌, ◌^◌, ◌<◌}
use mathlib.Core.List.{List, [], ◌∷◌}
use native.Mathlib.Nat.{suc-mul, zero-mul, zero-add, add_comm, add-zero, div-one}
use native.Mathlib.Numerals.{add-one}
use native.Mathlib.Omega.{arith}
use lib.ListN.{length, take, drop, get_or, length-drop, get_or-append}
use lib.Seq.{drop-cons, drop-drop, get_or-drop, get_or-append-add}
use mir.Syntax.{w8}
use mir.Val.{Fits}
use Rattle.multiset.specs.Multisets.{Below}
use Rattle.multiset.specs.Digits.{digits, value, spread, grouped, joined}
use Rattle.multiset.proofs.DigitLaws.{length_digits}

-- the bytes of a slice
pub below-bytes : (b : List ℕ) → ((i : ℕ) → Fits w8 (get_or b i 0)) → Below 256 b
below-bytes [] h = tt
below-bytes (x ∷ xs) h = ((h 0).fits, below-bytes xs (λ i. h (suc i)))

pub grouped-at : (base size n : ℕ) (ds : List ℕ) (slot : ℕ) → slot < n
    → get_or (grouped base size n ds) slot 0 ≡ value base (take size (drop (slot * size) ds))
unfolding grouped
grouped-at base size zero ds slot h = absurd (omega arith)
grouped-at base size (suc n) ds zero h = rw (zero-mul size)
grouped-at base size (suc n) ds (suc slot) h =
    grouped-at base size n (drop size ds) slot (omega arith) ∙ rw (drop-drop, suc-mul slot size, add_comm size (slot * size))

pub spread_at : (base size : ℕ) (vs : List ℕ) (k i : ℕ) → k < length vs → i < size
    → get_or (spread base size vs) (k * size + i) 0 ≡ get_or (digits base size (get_or vs k 0)) i 0
unfolding spread
spread_at base size [] k i h l = absurd (omega arith)
spread_at base size (v ∷ vs) zero i h l =
    rw (zero-mul size, zero-add i) (get_or-append (digits base size v) (spread base size vs) 0 i (rw length_digits l))
spread_at base size (v ∷ vs) (suc k) i h l =
    let e : suc k * size + i ≡ length (digits base size v) + (k * size + i) = rw (length_digits, suc-mul k size) (omega arith) in
    rw e (get_or-append-add (digits base size v) (spread base size vs) (k * size + i) 0 ∙ spread_at base size vs k i (omega arith) l)

-- the half of a byte
half_at : (v i : ℕ) → i < 2 → v / 2 ^ (i * 4) % 16 ≡ get_or (digits 16 2 v) i 0
unfolding digits
half_at v zero h = rw (div-one v)
half_at v (suc zero) h = refl
half_at v (suc (suc i)) h = absurd (omega arith)

-- the half at a slot of the halves behind byte `from`, as code finds it
pub half_of : (from slot : ℕ) (b : List ℕ) → from + slot / 2 < length b
    → get_or b (from + slot / 2) 0 / 2 ^ (slot % 2 * 4) % 16 ≡ get_or (spread 16 2 (drop from b)) slot 0
half_of from slot b h =
    let e : slot / 2 * 2 + slot % 2 ≡ slot = omega arith in
    let at = spread_at 16 2 (drop from b) (slot / 2) (slot % 2) (omega (arith, length-drop from b)) (omega arith) in
    half_at (get_or b (from + slot / 2) 0) (slot % 2) (omega arith) ∙ sym (rw (e, get_or-drop from b (slot / 2) 0) at at)

-- two bytes as one number
pub two_bytes : (at : ℕ) (b : List ℕ) → at + 1 < length b → get_or b at 0 + 256 * get_or b (at + 1) 0 ≡ value 256 (take 2 (drop at b))
unfolding value
two_bytes at b h =
    let k : suc at < length b = omega arith in
    sym (rw (drop-cons b at 0 (omega arith), drop-cons b (suc at) 0 k, add-one at, add-zero (get_or b (suc at) 0)))

-- ---- lists of parts

pub joined_at : (k : ℕ) (ms rs : List ℕ) (s : ℕ) → s < length ms → s < length rs → get_or (joined k ms rs) s 0 ≡ get_or ms s 0 * k + get_or rs s 0
unfolding joined
joined_at k [] rs s h l = absurd (omega arith)
joined_at k (m ∷ ms) [] s h l = absurd (omega arith)
joined_at k (m ∷ ms) (r ∷ rs) zero h l = refl
joined_at k (m ∷ ms) (r ∷ rs) (suc s) h l = joined_at k ms rs s (omega arith) (omega arith)

pub below-get_d : (k i : ℕ) (l : List ℕ) → 0 < k → Below k l → get_or l i 0 < k
below-get_d k i [] p b = p
below-get_d k zero (x ∷ xs) p b = b.0
below-get_d k (suc i) (x ∷ xs) p b = below-get_d k i xs p b.1
