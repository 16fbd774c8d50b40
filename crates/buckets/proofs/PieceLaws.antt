-- Lists in pieces: their digits, groups and joined lists in front of a place and behind it, zeros at the end, one element more.
-- Main results: `spread-append`, `spread-take`, `spread-drop`, `grouped-take`, `joined-append`, `all_zero-split`, `store`.
use mathlib.Core.Path.{◌≡◌, refl, sym, ap, ap₂, ◌∙◌}
use Prim.Native.Nat.{ℕ, zero, suc, ◌+◌, ◌*◌, ◌-◌, ◌≤◌, ◌<◌, zero-le}
use mathlib.Core.Bool.{Bool, ◌&&◌, and_assoc}
use mathlib.Core.List.{List, [], ◌∷◌, ◌++◌, append_assoc}
use native.Mathlib.Nat.{zero-div, zero-mod, zero-mul, suc-mul, add_comm, suc-add, zero-add, sub-zero, suc-sub-suc}
use native.Mathlib.Numerals.{add-one}
use native.Mathlib.Omega.{arith}
use lib.ListN.{length, take, drop, set, get_or, replicate}
use lib.Seq.{take-nil, drop-nil, drop-cons, take-append-add, drop-append-add, take-take, set_at, append_snoc}
use lib.Dec.{eqb}
use Rattle.multiset.specs.Multisets.{all_zero}
use Rattle.multiset.specs.Digits.{digits, value, spread, grouped, joined}
use Rattle.multiset.proofs.DigitLaws.{length_digits}

-- ---- any lists

-- a value stored where a stretch that was written ends
pub store : (ws o : List ℕ) (i v : ℕ) → length ws ≡ i → i < length o → set (ws ++ drop i o) i v ≡ (ws ++ (v ∷ [])) ++ drop (i + 1) o
store ws o i v e h = rw (add-one i, drop-cons o i 0 h) (set_at ws (get_or o i 0) (drop (suc i) o) v i e ∙ sym (append_snoc ws v (drop (suc i) o)))

pub take-over : (n : ℕ) (w z : List ℕ) → length w ≤ n → take n (w ++ z) ≡ w ++ take (n - length w) z
take-over n [] z h = rw (sub-zero n)
take-over zero (y ∷ w) z h = absurd (omega arith)
take-over (suc n) (y ∷ w) z h = rw (suc-sub-suc n (length w)) (ap (λ (l : List ℕ). y ∷ l) (take-over n w z (omega arith)))

pub take-replicate : (m k : ℕ) → m ≤ k → take m (replicate {A = ℕ} k 0) ≡ replicate {A = ℕ} m 0
take-replicate zero k h = refl
take-replicate (suc m) zero h = absurd (omega arith)
take-replicate (suc m) (suc k) h = ap (λ (l : List ℕ). 0 ∷ l) (take-replicate m k (omega arith))

drop-take : (n m : ℕ) (l : List ℕ) → drop n (take (n + m) l) ≡ take m (drop n l)
drop-take zero m l = rw (zero-add m)
drop-take (suc n) m [] = rw (suc-add n m) (sym (take-nil m))
drop-take (suc n) m (x ∷ l) = rw (suc-add n m) (drop-take n m l)

pub all_zero-split : (n k : ℕ) (cs : List ℕ) → n ≤ k → all_zero (drop n cs) ≡ all_zero (drop n (take k cs)) && all_zero (drop k cs)
unfolding all_zero
all_zero-split zero zero cs h = refl
all_zero-split zero (suc k) [] h = refl
all_zero-split zero (suc k) (c ∷ cs) h =
    ap (λ (x : Bool). eqb c 0 && x) (all_zero-split zero k cs zero-le) ∙ sym (and_assoc (eqb c 0) (all_zero (take k cs)) (all_zero (drop k cs)))
all_zero-split (suc n) zero cs h = absurd (omega arith)
all_zero-split (suc n) (suc k) [] h = refl
all_zero-split (suc n) (suc k) (c ∷ cs) h = all_zero-split n k cs (omega arith)

-- ---- digits of numbers

pub digits-zero : (base n : ℕ) → digits base n 0 ≡ replicate {A = ℕ} n 0
unfolding digits
digits-zero base zero = refl
digits-zero base (suc n) = rw (zero-mod base, zero-div base) (ap (λ (l : List ℕ). 0 ∷ l) (digits-zero base n))

pub spread-append : (base size : ℕ) (xs ys : List ℕ) → spread base size (xs ++ ys) ≡ spread base size xs ++ spread base size ys
unfolding spread
spread-append base size [] ys = refl
spread-append base size (x ∷ xs) ys = ap (λ (l : List ℕ). digits base size x ++ l) (spread-append base size xs ys)
    ∙ sym (append_assoc (digits base size x) (spread base size xs) (spread base size ys))

pub spread-take : (base size n : ℕ) (vs : List ℕ) → spread base size (take n vs) ≡ take (n * size) (spread base size vs)
unfolding spread
spread-take base size zero vs = rw (zero-mul size)
spread-take base size (suc n) [] = sym (take-nil (suc n * size))
spread-take base size (suc n) (v ∷ vs) =
    let ds : List ℕ = digits base size v in
    let k : suc n * size ≡ length ds + n * size = omega (arith, suc-mul n size, length_digits base size v) in
    rw k (ap (λ (l : List ℕ). ds ++ l) (spread-take base size n vs) ∙ sym (take-append-add ds (spread base size vs) (n * size)))

pub spread-drop : (base size n : ℕ) (vs : List ℕ) → spread base size (drop n vs) ≡ drop (n * size) (spread base size vs)
unfolding spread
spread-drop base size zero vs = rw (zero-mul size)
spread-drop base size (suc n) [] = sym (drop-nil (suc n * size))
spread-drop base size (suc n) (v ∷ vs) =
    let ds : List ℕ = digits base size v in
    let k : suc n * size ≡ length ds + n * size = omega (arith, suc-mul n size, length_digits base size v) in
    rw k (spread-drop base size n vs ∙ sym (drop-append-add ds (spread base size vs) (n * size)))

pub grouped-take : (base size n : ℕ) (ds : List ℕ) → grouped base size n (take (n * size) ds) ≡ grouped base size n ds
unfolding grouped
grouped-take base size zero ds = refl
grouped-take base size (suc n) ds =
    let k : suc n * size ≡ size + n * size = suc-mul n size ∙ add_comm (n * size) size in
    rw k (ap₂ ◌∷◌ (ap (value base) (take-take size (size + n * size) ds (omega arith)))
    (ap (grouped base size n) (drop-take size (n * size) ds) ∙ grouped-take base size n (drop size ds)))

-- ---- two lists joined

pub joined-append : (k : ℕ) (ms ns rs : List ℕ) → length ms ≤ length rs → joined k (ms ++ ns) rs ≡ joined k ms rs ++ joined k ns (drop (length ms) rs)
unfolding joined
joined-append k [] ns rs h = refl
joined-append k (m ∷ ms) ns [] h = absurd (omega arith)
joined-append k (m ∷ ms) ns (r ∷ rs) h = ap (λ (l : List ℕ). (m * k + r) ∷ l) (joined-append k ms ns rs (omega arith))
