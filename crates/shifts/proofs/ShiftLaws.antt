-- A list that something is put into or taken out of, at any place: what becomes of a function of its members, of its zeros at the end and of
-- its digits. Main results: `map-inserted`, `padded-inserted`, `spread-inserted`, and the same for what is taken out.
use Rattle.std.proofs.Common.{◌≡◌, ℕ, zero, suc, ◌+◌, ◌-◌, ◌*◌, ◌<◌, ◌≤◌, List, [], ◌∷◌, ◌++◌, map, length, take, drop, replicate, sym, refl, ap, ◌∙◌, ap₂, append_assoc, append-nil, add-mul, one-mul, add-one, arith}
use lib.ListN.{replicate-append-replicate}
use lib.Seq.{take-append-le, drop-append-le}
use Rattle.multiset.specs.Digits.{digits, spread, padded}
use Rattle.shifts.specs.Steps.Shifts.{inserted, taken_out}
use Rattle.buckets.proofs.PieceLaws.{take-over, take-replicate, digits-zero, spread-append, spread-take, spread-drop}

-- ---- a member put in or taken out of a list

pub map-inserted : (f : ℕ → ℕ) (p x : ℕ) (xs : List ℕ) → map f (take p xs ++ (x ∷ drop p xs)) ≡ take p (map f xs) ++ (f x ∷ drop p (map f xs))
map-inserted f zero x xs = refl
map-inserted f (suc p) x [] = refl
map-inserted f (suc p) x (y ∷ ys) = ap (λ (l : List ℕ). f y ∷ l) (map-inserted f p x ys)

pub map-removed : (f : ℕ → ℕ) (p : ℕ) (xs : List ℕ) → map f (take p xs ++ drop (suc p) xs) ≡ take p (map f xs) ++ drop (suc p) (map f xs)
map-removed f zero [] = refl
map-removed f zero (y ∷ ys) = refl
map-removed f (suc p) [] = refl
map-removed f (suc p) (y ∷ ys) = ap (λ (l : List ℕ). f y ∷ l) (map-removed f p ys)

length_inserted : (p x : ℕ) (l : List ℕ) → length (take p l ++ (x ∷ drop p l)) ≡ suc (length l)
length_inserted zero x l = refl
length_inserted (suc p) x [] = refl
length_inserted (suc p) x (y ∷ ys) = ap suc (length_inserted p x ys)

length-removed-at : (p : ℕ) (l : List ℕ) → p < length l → suc (length (take p l ++ drop (suc p) l)) ≡ length l
length-removed-at p [] h = absurd (omega arith)
length-removed-at zero (y ∷ ys) h = refl
length-removed-at (suc p) (y ∷ ys) h = ap suc (length-removed-at p ys (omega arith))

-- ---- zeros at the end

pub padded-inserted : (n p x : ℕ) (l : List ℕ) → length l < n → p ≤ length l
    → padded n (take p l ++ (x ∷ drop p l)) ≡ take n (inserted p (x ∷ []) (padded n l))
unfolding padded
padded-inserted n p x l h k =
    let z : List ℕ = replicate {A = ℕ} (n - length l) 0 in
    let w : List ℕ = take p l ++ (x ∷ drop p l) in
    let len : length w ≡ suc (length l) = length_inserted p x l in
    rw (
      take-append-le p l z k,
      drop-append-le p l z k,
      sym (append_assoc (take p l) (x ∷ drop p l) z),
      take-over n w z (omega arith),
      take-replicate (n - length w) (n - length l) (omega arith),
    )

pub padded-removed : (n p : ℕ) (l : List ℕ) → p < length l → length l ≤ n → padded n (take p l ++ drop (suc p) l) ≡ taken_out p 1 (padded n l)
unfolding padded
padded-removed n p l h k =
    let z : List ℕ = replicate {A = ℕ} (n - length l) 0 in
    let w : List ℕ = take p l ++ drop (suc p) l in
    let more : n - length w ≡ n - length l + 1 = omega (arith, length-removed-at p l h) in
    rw (
      add-one p,
      take-append-le p l z (omega arith),
      drop-append-le (suc p) l z h,
      append_assoc (drop (suc p) l) z (replicate {A = ℕ} 1 0),
      replicate-append-replicate {A = ℕ} (n - length l) 1 0,
      sym (append_assoc (take p l) (drop (suc p) l) (replicate {A = ℕ} (n - length l + 1) 0)),
      sym more,
    )

-- ---- digits

pub spread-inserted : (base size p x : ℕ) (vs : List ℕ)
    → spread base size (inserted p (x ∷ []) vs) ≡ inserted (p * size) (digits base size x) (spread base size vs)
unfolding spread
spread-inserted base size p x vs = spread-append base size (take p vs) (x ∷ drop p vs)
    ∙ ap₂ ◌++◌ (spread-take base size p vs) (ap (λ (l : List ℕ). digits base size x ++ l) (spread-drop base size p vs))

pub spread-taken_out : (base size p : ℕ) (vs : List ℕ) → spread base size (taken_out p 1 vs) ≡ taken_out (p * size) size (spread base size vs)
unfolding spread
spread-taken_out base size p vs =
    let k : (p + 1) * size ≡ p * size + size = rw (add-mul p 1 size, one-mul size) in
    spread-append base size (take p vs) (drop (p + 1) vs ++ replicate {A = ℕ} 1 0)
    ∙ ap₂ ◌++◌ (spread-take base size p vs) (spread-append base size (drop (p + 1) vs) (replicate {A = ℕ} 1 0)
    ∙ ap₂ ◌++◌ (spread-drop base size (p + 1) vs ∙ ap (λ (n : ℕ). drop n (spread base size vs)) k)
    (append-nil (digits base size 0) ∙ digits-zero base size))
