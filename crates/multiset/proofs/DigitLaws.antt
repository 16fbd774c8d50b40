-- Digits: a number and its digits, a list of numbers and its digits, padding, and pairs as numbers undo each other.
-- One set of laws serves the bytes of words and tags (base 256) and the halves of crumbs (base 16).
-- Main results: `value-digits`, `digits_value`, `grouped-spread`, `spread-grouped`, `joined-padded`, `padded-joined`.
use mathlib.Core.Path.{◌≡◌, refl, sym, ap, ap₂, ◌∙◌}
use Prim.Native.Nat.{ℕ, zero, suc, ◌+◌, ◌*◌, ◌/◌, ◌%◌, ◌-◌, ◌^◌, ◌≤◌, ◌<◌, min}
use mathlib.Core.List.{List, [], ◌∷◌, ◌++◌, append_assoc}
use native.Mathlib.Nat.{pow-zero, pow-suc, pow-succ', zero-mul, mod-lt, mod-add-div, mod-eq_of_lt, div-eq_of_lt, div-lt_iff_lt-mul, le-div_iff_mul-le, div-mul-le_self, add-mul-mod_self_left, add-mul-div_left, mul-le-mul_left, div-add-mod'}
use native.Mathlib.Omega.{arith}
use lib.ListN.{length, take, drop, replicate, length-append, length-replicate, length-drop, take-append-drop}
use lib.Seq.{length-take-le, take_at, drop_at, take-add, take-append_seam}
use lib.Arith.{digits_div, digits_mod, digits_lt}
use lib.Dec.{T, eqb, leb, eqb→eq, le→leb}
use mir.Facts.{and_yes, yes_and}
use Rattle.multiset.specs.Multisets.{all_zero, at_least, ascending, Below}
use Rattle.multiset.specs.Digits.{digits, value, spread, grouped, padded, joined, highs, lows}
use Rattle.multiset.proofs.MultisetLaws.{below-append, below-take, below-drop, below-replicate}
use Rattle.multiset.proofs.OrderLaws.{ascending-tail, ascending-le}

-- ---- a number

pub length_digits : (base n v : ℕ) → length (digits base n v) ≡ n
unfolding digits
length_digits base zero v = refl
length_digits base (suc n) v = ap suc (length_digits base n (v / base))

pub value-digits : (base n v : ℕ) → 0 < base → v < base ^ n → value base (digits base n v) ≡ v
unfolding digits value
value-digits base zero v p h = omega (arith, pow-zero base)
value-digits base (suc n) v p h =
    rw (value-digits base n (v / base) p ((div-lt_iff_lt-mul p).1 (rw (pow-suc base n) at h))) (mod-add-div v base)

pub digits_value : (base : ℕ) (ds : List ℕ) → Below base ds → digits base (length ds) (value base ds) ≡ ds
unfolding digits value
digits_value base [] b = refl
digits_value base (d ∷ ds) b =
    let low : (d + base * value base ds) % base ≡ d = add-mul-mod_self_left d base (value base ds) ∙ mod-eq_of_lt b.0 in
    let high : (d + base * value base ds) / base ≡ value base ds =
    omega (arith, add-mul-div_left d (value base ds) {y = base} (omega (arith, b.0)), div-eq_of_lt b.0) in
    rw (low, high, digits_value base ds b.1)

pub value-lt : (base : ℕ) (ds : List ℕ) → Below base ds → value base ds < base ^ length ds
unfolding value
value-lt base [] b = omega (arith, pow-zero base)
value-lt base (d ∷ ds) b = omega (arith, b.0, mul-le-mul_left base (value-lt base ds b.1), pow-succ' base (length ds))

pub below-digits : (base n v : ℕ) → 0 < base → Below base (digits base n v)
unfolding digits
below-digits base zero v p = tt
below-digits base (suc n) v p = (mod-lt v p, below-digits base n (v / base) p)

-- ---- a list of numbers

pub length-spread : (base size : ℕ) (vs : List ℕ) → length (spread base size vs) ≡ length vs * size
unfolding spread
length-spread base size [] = omega arith
length-spread base size (v ∷ vs) =
    omega (arith, length-append (digits base size v) (spread base size vs), length_digits base size v, length-spread base size vs)

pub length-grouped : (base size n : ℕ) (ds : List ℕ) → length (grouped base size n ds) ≡ n
unfolding grouped
length-grouped base size zero ds = refl
length-grouped base size (suc n) ds = ap suc (length-grouped base size n (drop size ds))

pub below-spread : (base size : ℕ) (vs : List ℕ) → 0 < base → Below base (spread base size vs)
unfolding spread
below-spread base size [] p = tt
below-spread base size (v ∷ vs) p =
    below-append base (digits base size v) (spread base size vs) (below-digits base size v p) (below-spread base size vs p)

pub grouped-spread : (base size : ℕ) (vs rest : List ℕ) → 0 < base → Below (base ^ size) vs
    → grouped base size (length vs) (spread base size vs ++ rest) ≡ vs
unfolding grouped spread
grouped-spread base size [] rest p b = refl
grouped-spread base size (v ∷ vs) rest p b =
    rw (
      append_assoc (digits base size v) (spread base size vs) rest,
      take_at (digits base size v) (spread base size vs ++ rest) size (length_digits base size v),
      drop_at (digits base size v) (spread base size vs ++ rest) size (length_digits base size v),
      value-digits base size v p b.0,
      grouped-spread base size vs rest p b.1,
    )

pub spread-grouped : (base size n : ℕ) (ds : List ℕ) → Below base ds → n * size ≤ length ds
    → spread base size (grouped base size n ds) ≡ take (n * size) ds
unfolding grouped spread
spread-grouped base size zero ds b h = rw (zero-mul size)
spread-grouped base size (suc n) ds b h =
    let all : suc n * size ≡ size + n * size = omega arith in
    let here : digits base size (value base (take size ds)) ≡ take size ds =
    rw (length-take-le size ds (omega arith)) at (digits_value base (take size ds) (below-take base size ds b)) in
    rw (
      all,
      take-add size (n * size) ds,
      here,
      spread-grouped base size n (drop size ds) (below-drop base size ds b) (omega (arith, length-drop size ds)),
    )

pub below-grouped : (base size n : ℕ) (ds : List ℕ) → Below base ds → n * size ≤ length ds → Below (base ^ size) (grouped base size n ds)
unfolding grouped
below-grouped base size zero ds b h = tt
below-grouped base size (suc n) ds b h = (
  rw (length-take-le size ds (omega arith)) at (value-lt base (take size ds) (below-take base size ds b)),
  below-grouped base size n (drop size ds) (below-drop base size ds b) (omega (arith, length-drop size ds)),
)

-- ---- padding

pub zeros-all_zero : (l : List ℕ) → T (all_zero l) → l ≡ replicate {A = ℕ} (length l) 0
unfolding all_zero
zeros-all_zero [] z = refl
zeros-all_zero (x ∷ xs) z =
    let both : T (eqb x 0) × T (all_zero xs) = and_yes (eqb x 0) (all_zero xs) z in
    ap₂ ◌∷◌ (eqb→eq x 0 both.0) (zeros-all_zero xs both.1)

pub all_zero-zeros : (n : ℕ) → T (all_zero (replicate {A = ℕ} n 0))
unfolding all_zero
all_zero-zeros zero = tt
all_zero-zeros (suc n) = all_zero-zeros n

pub length-padded : (n : ℕ) (l : List ℕ) → length l ≤ n → length (padded n l) ≡ n
unfolding padded
length-padded n l h = omega (arith, length-append l (replicate {A = ℕ} (n - length l) 0), length-replicate {A = ℕ} (n - length l) 0)

-- what stands in front of the padding, and that the padding is zeros
pub take-padded : (n : ℕ) (l : List ℕ) → take (length l) (padded n l) ≡ l
unfolding padded
take-padded n l = take-append_seam l (replicate {A = ℕ} (n - length l) 0)

pub padded-rest : (n p : ℕ) (l : List ℕ) → length l ≡ p → T (all_zero (drop p (padded n l)))
unfolding padded
padded-rest n p l e = rw (drop_at l (replicate {A = ℕ} (n - length l) 0) p e) (all_zero-zeros (n - length l))

-- a list that is zeros from place p on is its first p places, padded
pub padded-take : (n p : ℕ) (l : List ℕ) → length l ≡ n → p ≤ n → T (all_zero (drop p l)) → padded n (take p l) ≡ l
unfolding padded
padded-take n p l e h z =
    let rest : length (drop p l) ≡ n - length (take p l) = omega (arith, length-drop p l, length-take-le p l (omega arith)) in
    rw (← rest, ← zeros-all_zero (drop p l) z) (take-append-drop p l)

pub below-padded : (k n : ℕ) (l : List ℕ) → 0 < k → Below k l → Below k (padded n l)
unfolding padded
below-padded k n l p b = below-append k l (replicate {A = ℕ} (n - length l) 0) b (below-replicate k (n - length l) p)

-- ---- pairs as numbers

pub length-highs : (k : ℕ) (xs : List ℕ) → length (highs k xs) ≡ length xs
length-highs k [] = refl
length-highs k (x ∷ xs) = ap suc (length-highs k xs)

pub length-lows : (k : ℕ) (xs : List ℕ) → length (lows k xs) ≡ length xs
length-lows k [] = refl
length-lows k (x ∷ xs) = ap suc (length-lows k xs)

pub below-highs : (n k : ℕ) (xs : List ℕ) → 0 < k → Below (n * k) xs → Below n (highs k xs)
below-highs n k [] p b = tt
below-highs n k (x ∷ xs) p b = ((div-lt_iff_lt-mul p).1 b.0, below-highs n k xs p b.1)

pub below-lows : (k : ℕ) (xs : List ℕ) → 0 < k → Below k (lows k xs)
below-lows k [] p = tt
below-lows k (x ∷ xs) p = (mod-lt x p, below-lows k xs p)

pub ascending-highs : (k : ℕ) (xs : List ℕ) → 0 < k → T (ascending xs) → T (ascending (highs k xs))
unfolding ascending at_least
ascending-highs k [] p a = tt
ascending-highs k (x ∷ []) p a = tt
ascending-highs k (x ∷ y ∷ ys) p a =
    let step : x / k ≤ y / k = (le-div_iff_mul-le p).1 (omega (arith, div-mul-le_self x k, ascending-le x y ys a)) in
    yes_and (leb (x / k) (y / k)) (ascending (highs k (y ∷ ys))) (le→leb (x / k) (y / k) step)
    (ascending-highs k (y ∷ ys) p (ascending-tail x (y ∷ ys) a))

pub joined-parts : (k : ℕ) (xs : List ℕ) → 0 < k → joined k (highs k xs) (lows k xs) ≡ xs
unfolding joined
joined-parts k [] p = refl
joined-parts k (x ∷ xs) p = ap₂ ◌∷◌ (div-add-mod' x k) (joined-parts k xs p)

-- the second list may go on
pub joined-take : (k : ℕ) (ms rs : List ℕ) → joined k ms rs ≡ joined k ms (take (length ms) rs)
unfolding joined
joined-take k [] rs = refl
joined-take k (m ∷ ms) [] = refl
joined-take k (m ∷ ms) (r ∷ rs) = ap {B = List ℕ} (λ l. (m * k + r) ∷ l) (joined-take k ms rs)

pub length-joined-min : (k : ℕ) (ms rs : List ℕ) → length (joined k ms rs) ≡ min (length ms) (length rs)
unfolding joined
length-joined-min k [] rs = omega arith
length-joined-min k (m ∷ ms) [] = omega arith
length-joined-min k (m ∷ ms) (r ∷ rs) = omega (arith, length-joined-min k ms rs)

pub length-joined : (k : ℕ) (ms rs : List ℕ) → length ms ≤ length rs → length (joined k ms rs) ≡ length ms
length-joined k ms rs h = omega (arith, length-joined-min k ms rs)

pub highs-joined : (k : ℕ) (ms rs : List ℕ) → length ms ≤ length rs → Below k rs → highs k (joined k ms rs) ≡ ms
unfolding joined
highs-joined k [] rs h b = refl
highs-joined k (m ∷ ms) [] h b = absurd (omega arith)
highs-joined k (m ∷ ms) (r ∷ rs) h b = ap₂ ◌∷◌ (digits_div m b.0) (highs-joined k ms rs (omega arith) b.1)

pub lows-joined : (k : ℕ) (ms rs : List ℕ) → length ms ≤ length rs → Below k rs → lows k (joined k ms rs) ≡ take (length ms) rs
unfolding joined
lows-joined k [] rs h b = refl
lows-joined k (m ∷ ms) [] h b = absurd (omega arith)
lows-joined k (m ∷ ms) (r ∷ rs) h b = ap₂ ◌∷◌ (digits_mod m b.0) (lows-joined k ms rs (omega arith) b.1)

pub below-joined : (n k : ℕ) (ms rs : List ℕ) → Below n ms → Below k rs → Below (n * k) (joined k ms rs)
unfolding joined
below-joined n k [] rs a b = tt
below-joined n k (m ∷ ms) [] a b = tt
below-joined n k (m ∷ ms) (r ∷ rs) a b = (digits_lt a.0 b.0, below-joined n k ms rs a.1 b.1)

-- pairs whose second parts are padded, both ways: the slots in use, and zeros up to n
pub joined-padded : (k n : ℕ) (xs : List ℕ) → 0 < k → joined k (highs k xs) (padded n (lows k xs)) ≡ xs
joined-padded k n xs p =
    let same : length (highs k xs) ≡ length (lows k xs) = length-highs k xs ∙ sym (length-lows k xs) in
    rw (joined-take k (highs k xs) (padded n (lows k xs)), same, take-padded n (lows k xs)) (joined-parts k xs p)

pub padded-unused : (k n : ℕ) (xs : List ℕ) → T (all_zero (drop (length (highs k xs)) (padded n (lows k xs))))
padded-unused k n xs = padded-rest n (length (highs k xs)) (lows k xs) (length-lows k xs ∙ sym (length-highs k xs))

pub padded-joined : (k n : ℕ) (ms rs : List ℕ) → length rs ≡ n → length ms ≤ n → Below k rs → T (all_zero (drop (length ms) rs))
    → padded n (lows k (joined k ms rs)) ≡ rs
padded-joined k n ms rs e h b z = rw (lows-joined k ms rs (omega arith) b) (padded-take n (length ms) rs e h z)
