-- Lanes of a word: digits of any base, the lowest ones of one number under the others of another, and lists mixed the same way, part by part.
-- Main results: `digits-blend`, `bytes-blend`, `mixed-part`, `word-digits`, `word-stored`.
use Rattle.std.proofs.Common.{◌≡◌, ℕ, zero, suc, ◌+◌, ◌-◌, ◌*◌, ◌/◌, ◌%◌, ◌^◌, ◌<◌, ◌≤◌, min, List, [], ◌∷◌, ◌++◌, length, take, drop, replicate, sym, refl, ap, ◌∙◌, append-nil, le_refl, add-zero, mul-le-mul_right, mod-lt, mod-eq_of_lt, mul_comm, div-lt_iff_lt-mul, add-mul, suc-add, pow-suc, mul-zero, div-add-mod', zero-add, mul-suc, mul_right_comm, arith, lit<, length-drop, drop_of_length-le, length-take-le, take_all, drop-drop, pow-add}
use native.Mathlib.Nat.{pow-zero, pow-le-pow_right, div-div-eq-div-mul, zero-mod, sub-zero, suc-sub-suc, zero-sub}
use lib.Seq.{take-nil, drop-nil}
use lib.Arith.{mod-mul, digits_lt, digits_div, digits_mod}
use lib.Bits.{bit_and, and_mask}
use Rattle.multiset.specs.Multisets.{Below}
use Rattle.multiset.specs.Digits.{digits, value}
use Rattle.multiset.proofs.MultisetLaws.{below-take, below-drop}
use Rattle.multiset.proofs.DigitLaws.{length_digits, digits_value}
use Rattle.crumbmap.proofs.MarkLaws.{one_shl}
use Rattle.buckets.proofs.PieceLaws.{digits-zero}
use Rattle.shifts.specs.Steps.Shifts.{mixed}

-- ---- powers

pub pow-pow : (b k n : ℕ) → b ^ (k * n) ≡ (b ^ k) ^ n
pow-pow b k zero = rw (mul-zero k) (pow-zero b ∙ sym (pow-zero (b ^ k)))
pow-pow b k (suc n) = rw (mul-suc k n, pow-add b (k * n) k, pow-pow b k n) (sym (pow-suc (b ^ k) n))

pub power_pos : (b n : ℕ) → 0 < b → 0 < b ^ n
power_pos b zero p = rw (pow-zero b) (omega arith)
power_pos b (suc n) p = rw (pow-suc b n) (omega (arith, mul-le-mul_right b (power_pos b n p)))

-- ---- digits

pub digits-take : (b n m v : ℕ) → take n (digits b (n + m) v) ≡ digits b n v
unfolding digits
digits-take b zero m v = refl
digits-take b (suc n) m v = rw (suc-add n m) (ap (λ (l : List ℕ). v % b ∷ l) (digits-take b n m (v / b)))

pub digits-drop : (b n m v : ℕ) → drop n (digits b (n + m) v) ≡ digits b m (v / b ^ n)
unfolding digits
digits-drop b zero m v = rw (zero-add m, pow-zero b) (ap (digits b m) (omega arith))
digits-drop b (suc n) m v =
    let far : v / b / b ^ n ≡ v / b ^ suc n = div-div-eq-div-mul v b (b ^ n) ∙ ap (λ (k : ℕ). v / k) (mul_comm b (b ^ n) ∙ sym (pow-suc b n)) in
    rw (suc-add n m) (digits-drop b n m (v / b) ∙ ap (digits b m) far)

-- the n lowest digits of x, and above them those of y
pub digits-cat : (b n m x y : ℕ) → 0 < b → digits b (n + m) (x % b ^ n + b ^ n * y) ≡ digits b n x ++ digits b m y
unfolding digits
digits-cat b zero m x y p = rw (zero-add m, pow-zero b) (ap (digits b m) (omega arith))
digits-cat b (suc n) m x y p =
    let q : ℕ = x / b % b ^ n + b ^ n * y in
    let e : x % b ^ suc n + b ^ suc n * y ≡ q * b + x % b =
    rw (pow-suc b n, mod-mul x {m = b ^ n} {c = b} (power_pos b n p) p) (omega (arith, add-mul (x / b % b ^ n) (b ^ n * y) b, mul_right_comm (b ^ n) b y)) in
    rw (suc-add n m, e, digits_mod q {m = b} {r = x % b} (mod-lt x p), digits_div q {m = b} {r = x % b} (mod-lt x p))
    (ap (λ (l : List ℕ). x % b ∷ l) (digits-cat b n m (x / b) y p))

pub digits_low : (b n v : ℕ) → 0 < b → digits b n (v % b ^ n) ≡ digits b n v
unfolding digits
digits_low b n v p = rw (add-zero n, mul-zero (b ^ n), add-zero (v % b ^ n), append-nil (digits b n v)) at (digits-cat b n 0 v 0 p)

-- zeros above a number that fits, and below one that was shifted
pub digits_more : (b n m v : ℕ) → 0 < b → v < b ^ n → digits b (n + m) v ≡ digits b n v ++ replicate {A = ℕ} m 0
digits_more b n m v p h = rw (mod-eq_of_lt h, mul-zero (b ^ n), add-zero v, digits-zero b m) at (digits-cat b n m v 0 p)

pub digits_up : (b n m v : ℕ) → 0 < b → digits b (n + m) (v * b ^ n % b ^ (n + m)) ≡ replicate {A = ℕ} n 0 ++ digits b m v
digits_up b n m v p =
    let none : 0 % b ^ n + b ^ n * v ≡ v * b ^ n = rw (zero-mod (b ^ n), zero-add (b ^ n * v)) (mul_comm (b ^ n) v) in
    digits_low b (n + m) (v * b ^ n) p ∙ rw (none, digits-zero b n) at (digits-cat b n m 0 v p)

-- the lowest digits of one number under the others of another
digits-mixed : (b n m x y : ℕ) → 0 < b → digits b (n + m) (x % b ^ n + y / b ^ n * b ^ n) ≡ mixed n (digits b (n + m) x) (digits b (n + m) y)
digits-mixed b n m x y p =
    rw (mul_comm (y / b ^ n) (b ^ n), digits-take b n m x, digits-drop b n m y) (digits-cat b n m x (y / b ^ n) p)

-- ---- lists

-- behind the end of both lists nothing is mixed
mixed-min : (k : ℕ) (xs ys : List ℕ) → length xs ≡ length ys → mixed (min k (length xs)) xs ys ≡ mixed k xs ys
mixed-min zero xs ys e = let none : min 0 (length xs) ≡ 0 = omega arith in rw none
mixed-min (suc k) [] [] e = let none : min (suc k) 0 ≡ 0 = omega arith in rw none
mixed-min (suc k) [] (y ∷ ys) e = absurd (omega arith)
mixed-min (suc k) (x ∷ xs) [] e = absurd (omega arith)
mixed-min (suc k) (x ∷ xs) (y ∷ ys) e =
    let on : min (suc k) (suc (length xs)) ≡ suc (min k (length xs)) = omega arith in
    rw on (ap (λ (l : List ℕ). x ∷ l) (mixed-min k xs ys (omega arith)))

pub length-mixed : (k : ℕ) (xs ys : List ℕ) → length xs ≡ length ys → length (mixed k xs ys) ≡ length xs
length-mixed zero xs ys e = sym e
length-mixed (suc k) [] [] e = refl
length-mixed (suc k) [] (y ∷ ys) e = absurd (omega arith)
length-mixed (suc k) (x ∷ xs) [] e = absurd (omega arith)
length-mixed (suc k) (x ∷ xs) (y ∷ ys) e = ap suc (length-mixed k xs ys (omega arith))

drop-mixed : (o k : ℕ) (xs ys : List ℕ) → length xs ≡ length ys → drop o (mixed k xs ys) ≡ mixed (k - o) (drop o xs) (drop o ys)
drop-mixed zero k xs ys e = rw (sub-zero k)
drop-mixed (suc o) zero xs ys e = rw (zero-sub (suc o))
drop-mixed (suc o) (suc k) [] [] e = sym (rw (take-nil {A = ℕ} (suc k - suc o)) (drop-nil {A = ℕ} (suc k - suc o)))
drop-mixed (suc o) (suc k) [] (y ∷ ys) e = absurd (omega arith)
drop-mixed (suc o) (suc k) (x ∷ xs) [] e = absurd (omega arith)
drop-mixed (suc o) (suc k) (x ∷ xs) (y ∷ ys) e = rw (suc-sub-suc k o) (drop-mixed o k xs ys (omega arith))

take-mixed : (n k : ℕ) (xs ys : List ℕ) → length xs ≡ length ys → take n (mixed k xs ys) ≡ mixed k (take n xs) (take n ys)
take-mixed zero k xs ys e = sym (rw (take-nil {A = ℕ} k) (drop-nil {A = ℕ} k))
take-mixed (suc n) zero xs ys e = refl
take-mixed (suc n) (suc k) [] [] e = refl
take-mixed (suc n) (suc k) [] (y ∷ ys) e = absurd (omega arith)
take-mixed (suc n) (suc k) (x ∷ xs) [] e = absurd (omega arith)
take-mixed (suc n) (suc k) (x ∷ xs) (y ∷ ys) e = ap (λ (l : List ℕ). x ∷ l) (take-mixed n k xs ys (omega arith))

-- any stretch of a mixed list is mixed of the same stretches
pub mixed-part : (n o k : ℕ) (xs ys : List ℕ) → length xs ≡ length ys
    → take n (drop o (mixed k xs ys)) ≡ mixed (k - o) (take n (drop o xs)) (take n (drop o ys))
mixed-part n o k xs ys e =
    rw (drop-mixed o k xs ys e) (take-mixed n (k - o) (drop o xs) (drop o ys) (length-drop o xs ∙ ap (λ (l : ℕ). l - o) e ∙ sym (length-drop o ys)))

-- ---- words

-- a mask of 2 × half bits, though the number that is one above it may have wrapped
pub mask-bits : (r half : ℕ) → half ≤ 32 → r < 2 ^ 64 → (r + 1) % 2 ^ 64 ≡ (1 * 2 ^ half) % 2 ^ 64 * 2 ^ half % 2 ^ 64 → r ≡ 4 ^ half - 1
mask-bits r half h l e =
    let two : 2 * half ≡ half + half = omega arith in
    let square : 2 ^ half * 2 ^ half ≡ 4 ^ half = sym (pow-add 2 half half) ∙ ap (λ (k : ℕ). 2 ^ k) (sym two) ∙ pow-pow 2 2 half in
    let small : 4 ^ half ≤ 4 ^ 32 = pow-le-pow_right (lit< tt) h in
    omega (arith, rw (one_shl 64 half (omega arith), square) at e, power_pos 4 half (lit< tt), small)

pub kept-bits : (v half : ℕ) → bit_and v (4 ^ half - 1) ≡ v % 4 ^ half
kept-bits v half = rw (pow-pow 2 2 half) at (and_mask v (2 * half))

-- the bits above the mask
pub high_bits : (v u : ℕ) → v - v % u ≡ v / u * u
high_bits v u = omega (arith, div-add-mod' v u)

pub blend-fits : (x y half : ℕ) → half ≤ 32 → y < 2 ^ 64 → x % 4 ^ half + (y - y % 4 ^ half) < 2 ^ 64
blend-fits x y half h l =
    let u : ℕ = 4 ^ half in
    let w : ℕ = 4 ^ (32 - half) in
    let rest : 32 - half + half ≡ 32 = omega arith in
    let whole : w * u ≡ 2 ^ 64 = sym (pow-add 4 (32 - half) half) ∙ ap (λ (k : ℕ). 4 ^ k) rest in
    let p : 0 < u = power_pos 4 half (lit< tt) in
    rw (high_bits y u) (omega (arith, whole, digits_lt {q = y / u} {m = w} {r = x % u} {c = u} ((div-lt_iff_lt-mul p).1 (rw whole l)) (mod-lt x p)))

-- the lowest k of n digits of one number, and the others of another
pub digits-blend : (b n k x y : ℕ) → 0 < b
    → digits b n (x % b ^ min k n + y / b ^ min k n * b ^ min k n) ≡ mixed k (digits b n x) (digits b n y)
digits-blend b n k x y p =
    let j : ℕ = min k n in
    let all : j + (n - j) ≡ n = omega arith in
    let long : length (digits b n x) ≡ length (digits b n y) = length_digits b n x ∙ sym (length_digits b n y) in
    rw all at (digits-mixed b j (n - j) x y p) ∙ rw (length_digits b n x) at (mixed-min k (digits b n x) (digits b n y) long)

-- a byte is 4^4
pub bytes-blend : (k n x y r : ℕ) → n ≡ min k 8 → r ≡ x % 4 ^ (4 * n) + y / 4 ^ (4 * n) * 4 ^ (4 * n)
    → digits 256 8 r ≡ mixed k (digits 256 8 x) (digits 256 8 y)
bytes-blend k n x y r m e = ap (digits 256 8) (rw (pow-pow 4 4 n, m) at e) ∙ digits-blend 256 8 k x y (lit< tt)

-- ---- words of a stretch of bytes

part-all : (from : ℕ) (l : List ℕ) → take (length l - from) (drop from l) ≡ drop from l
part-all from l = take_all (length l - from) (drop from l) (rw (length-drop from l) (le_refl (length l - from)))

pub word-digits : (from r : ℕ) (l : List ℕ) → from + 8 ≤ length l → Below 256 l → r ≡ value 256 (take 8 (take (length l - from) (drop from l)))
    → digits 256 8 r ≡ take 8 (drop from l)
word-digits from r l h b e =
    let long : length (take 8 (drop from l)) ≡ 8 = length-take-le 8 (drop from l) (rw (length-drop from l) (omega arith)) in
    rw (e, part-all from l) (rw long at (digits_value 256 (take 8 (drop from l)) (below-take 256 8 (drop from l) (below-drop 256 from l b))))

pub word-stored : (from w : ℕ) (l new : List ℕ) → from + 8 ≤ length l → new ≡ digits 256 8 w ++ drop 8 (take (length l - from) (drop from l))
    → take from l ++ (new ++ drop (length l - from) (drop from l)) ≡ take from l ++ (digits 256 8 w ++ drop (from + 8) l)
word-stored from w l new h e =
    let none : drop (length l - from) (drop from l) ≡ [] =
    drop_of_length-le (drop from l) {i = length l - from} (rw (length-drop from l) (le_refl (length l - from))) in
    rw (none, append-nil new, e, part-all from l, drop-drop 8 from l)
