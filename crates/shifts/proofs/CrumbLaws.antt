-- Crumbs, half a byte each, as the lanes of a word and of the four bytes behind it: one put in, and one taken out.
-- Main results: `open-digits`, `crumb-inserted`, `crumb-removed`, `crumbs-stored`, `crumbs-written`.
use Rattle.std.proofs.Common.{◌≡◌, ℕ, zero, suc, ◌+◌, ◌-◌, ◌*◌, ◌/◌, ◌%◌, ◌^◌, ◌<◌, ◌≤◌, min, List, [], ◌∷◌, ◌++◌, length, get_or, take, drop, replicate, sym, refl, ap, ◌∙◌, ap₂, ⊎_elim, append_assoc, append-nil, mul-le-mul_right, mul_comm, eq-or-lt_of_le, mul-zero, mul-add, mul_right_comm, arith, lit<, lit≤, length-append, length-drop, take-append-drop, drop_of_length-le, length-take-le, take_all, take-take, drop-drop, take_at, drop_at}
use native.Mathlib.Nat.{sub-zero, suc-sub-suc, zero-sub, pow-le-pow_right}
use lib.Seq.{take-nil, drop-nil, drop-append-le}
use lib.Arith.{digits_div, digits_mod}
use lib.Pow.{field}
use Rattle.multiset.specs.Multisets.{Below}
use Rattle.multiset.specs.Digits.{digits, spread, grouped}
use Rattle.multiset.proofs.MultisetLaws.{below-append}
use Rattle.multiset.proofs.DigitLaws.{length_digits, below-digits, grouped-spread}
use Rattle.buckets.proofs.PieceLaws.{take-over, spread-append, grouped-take}
use Rattle.shifts.specs.Steps.Shifts.{inserted, taken_out, mixed}
use Rattle.shifts.proofs.LaneLaws.{pow-pow, power_pos, digits-take, digits-drop, digits-cat, digits_low, digits_more, digits_up, digits-blend, high_bits}
use Rattle.shifts.proofs.MoveLaws.{down-whole}

-- ---- a lane opened

-- a digit put in at lane n of n + suc m, the last falling off
opened-digits : (b n m put x : ℕ) → put < b
    → digits b (n + suc m) (x % b ^ n + b ^ n * (x / b ^ n * b + put)) ≡ take (n + suc m) (inserted n (put ∷ []) (digits b (n + suc m) x))
unfolding digits
opened-digits b n m put x p =
    let q : ℕ = x / b ^ n in
    let xs : List ℕ = digits b (n + suc m) x in
    let front : length (take n xs) ≡ n = length-take-le n xs (omega (arith, length_digits b (n + suc m) x)) in
    let room : n + suc m - n ≡ suc m = omega arith in
    let more : m + 1 ≡ suc m = omega arith in
    let low : digits b m q ≡ take m (drop n xs) = rw more at (sym (digits-take b m 1 q)) ∙ ap (take m) (sym (digits-drop b n (suc m) x)) in
    digits-cat b n (suc m) x (q * b + put) (omega arith)
    ∙ rw (digits_mod q {m = b} {r = put} p, digits_div q {m = b} {r = put} p, low)
    (ap (λ (l : List ℕ). l ++ (put ∷ take m (drop n xs))) (sym (digits-take b n (suc m) x)))
    ∙ sym (rw (front, room) at (take-over (n + suc m) (take n xs) (put ∷ drop n xs) (omega arith)))

module _ (lane put u : ℕ) (h : lane ≤ 16) (p : put < 16) (e : u ≡ (4 ^ (2 * lane) - 1 + 1) % 2 ^ 64) where
  -- past the last lane the unit is nothing, below it a power
  past : lane ≡ 16 → u ≡ 0
  past s = rw s at e

  power : lane < 16 → (u ≡ 4 ^ (2 * lane)) × (u * 16 ≤ 2 ^ 64)
  power l =
      let few : 2 * lane ≤ 30 = omega arith in
      let small : 4 ^ (2 * lane) ≤ 4 ^ 30 = pow-le-pow_right (lit< tt) few in
      let some = power_pos 4 (2 * lane) (lit< tt) in
      (omega (arith, e, small, some), omega (arith, e, small, some))

  pub open-unit : put * u + 4 ^ (2 * lane) ≤ 2 ^ 64
  open-unit =
      let few : put ≤ 15 = omega arith in
      let most : put * u ≤ 15 * u = mul-le-mul_right u few in
      ⊎_elim
      (λ s. rw (past s, s, mul-zero put) (lit≤ tt))
      (λ l. omega (arith, (power l).0, (power l).1, most))
      (eq-or-lt_of_le h)

  module _ (x r : ℕ) (small : x < 2 ^ 64) (f : r ≡ (x % 4 ^ (2 * lane) + put * u + (x - x % 4 ^ (2 * lane)) * 2 ^ 4 % 2 ^ 64) % 2 ^ 64) where
    -- the sum before it wraps
    sum : ℕ
    sum = x % 4 ^ (2 * lane) + put * u + (x - x % 4 ^ (2 * lane)) * 16

    low-digits : digits 16 16 r ≡ digits 16 16 sum
    unfolding sum
    low-digits = let wrapped : r ≡ sum % 2 ^ 64 = omega (arith, f) in ap (digits 16 16) wrapped ∙ digits_low 16 16 sum (lit< tt)

    open-past : lane ≡ 16 → digits 16 16 r ≡ take 16 (inserted lane (put ∷ []) (digits 16 16 x))
    unfolding sum
    open-past s =
        let ds : List ℕ = digits 16 16 x in
        let same : sum ≡ x = rw (past s, s, mul-zero put) (omega (arith, small)) in
        let long : length ds ≡ 16 = length_digits 16 16 x in
        low-digits ∙ ap (digits 16 16) same
        ∙ rw s (sym (take_at (take 16 ds) (put ∷ drop 16 ds) 16 (length-take-le 16 ds (omega arith)) ∙ take_all 16 ds (omega arith)))

    open-below : lane < 16 → digits 16 16 r ≡ take 16 (inserted lane (put ∷ []) (digits 16 16 x))
    unfolding sum
    open-below l =
        let b : ℕ = 16 ^ lane in
        let q : ℕ = x / b in
        let all : lane + suc (15 - lane) ≡ 16 = omega arith in
        let unit : u ≡ b = (power l).0 ∙ pow-pow 4 2 lane in
        let parts : sum ≡ x % b + b * (q * 16 + put) =
        rw (unit, pow-pow 4 2 lane, high_bits x b) (omega (arith, mul-add b (q * 16) put, mul_comm b put, mul_comm b (q * 16), mul_right_comm q 16 b)) in
        low-digits ∙ ap (digits 16 16) parts ∙ rw all at (opened-digits 16 lane (15 - lane) put x p)

    pub open-digits : digits 16 16 r ≡ take 16 (inserted lane (put ∷ []) (digits 16 16 x))
    open-digits = ⊎_elim open-past open-below (eq-or-lt_of_le h)

-- ---- halves of bytes

spread-digits : (n v : ℕ) → spread 16 2 (digits 256 n v) ≡ digits 16 (n * 2) v
unfolding spread digits
spread-digits zero v = refl
spread-digits (suc n) v =
    let two : suc n * 2 ≡ suc (suc (n * 2)) = omega arith in
    let low : v % 256 % 16 ≡ v % 16 = omega arith in
    let high : v % 256 / 16 % 16 ≡ v / 16 % 16 = ap (λ (k : ℕ). k % 16) (field v 4 4) ∙ omega arith in
    let rest : v / 256 ≡ v / 16 / 16 = omega arith in
    rw (two, low, high) (ap (λ (l : List ℕ). v % 16 ∷ v / 16 % 16 ∷ l) (spread-digits n (v / 256) ∙ ap (digits 16 (n * 2)) rest))

-- ---- one put in

append-take : (k j : ℕ) (vs l : List ℕ) → k ≤ j → take k (vs ++ take j l) ≡ take k (vs ++ l)
append-take k j [] l h = take-take k j l h
append-take zero j (v ∷ vs) l h = refl
append-take (suc k) j (v ∷ vs) l h = ap (λ (r : List ℕ). v ∷ r) (append-take k j vs l (omega arith))

take_inserted : (k j m : ℕ) (vs l : List ℕ) → k ≤ j → take k (inserted m vs (take j l)) ≡ take k (inserted m vs l)
take_inserted k j zero vs l h = append-take k j vs l h
take_inserted zero j (suc m) vs l h = refl
take_inserted (suc k) zero (suc m) vs l h = absurd (omega arith)
take_inserted (suc k) (suc j) (suc m) vs [] h = refl
take_inserted (suc k) (suc j) (suc m) vs (x ∷ l) h = ap (λ (r : List ℕ). x ∷ r) (take_inserted k j m vs l (omega arith))

drop-inserted : (k p c : ℕ) (l : List ℕ) → p ≤ k → drop (suc k) (inserted p (c ∷ []) l) ≡ drop k l
drop-inserted k zero c l h = refl
drop-inserted zero (suc p) c l h = absurd (omega arith)
drop-inserted (suc k) (suc p) c [] h = refl
drop-inserted (suc k) (suc p) c (x ∷ l) h = drop-inserted k p c l (omega arith)

-- the crumb that falls off 16 lanes, or the new one behind them
pub fallen : (n crumb low : ℕ) → n < 16 → low < 2 ^ 64 → drop 16 (inserted n (crumb ∷ []) (digits 16 16 low)) ≡ low / 2 ^ 60 ∷ []
unfolding digits
fallen n crumb low l h =
    let top : low / 2 ^ 60 % 16 ≡ low / 2 ^ 60 = omega arith in
    drop-inserted 15 n crumb (digits 16 16 low) (omega arith) ∙ digits-drop 16 15 1 low ∙ ap (λ (d : ℕ). d ∷ []) top

pub behind : (n crumb low : ℕ) → n ≡ 16 → drop 16 (inserted n (crumb ∷ []) (digits 16 16 low)) ≡ crumb ∷ []
behind n crumb low e =
    let ds : List ℕ = digits 16 16 low in
    rw e (drop_at (take 16 ds) (crumb ∷ drop 16 ds) 16 (length-take-le 16 ds (omega (arith, length_digits 16 16 low)))
    ∙ ap (λ (l : List ℕ). crumb ∷ l) (drop_of_length-le ds {i = 16} (omega (arith, length_digits 16 16 low))))

-- what falls off the first stretch is put in at the second one's start, or the new one later on
crumb-in : (slot crumb carry : ℕ) (xs ys : List ℕ) → drop (length xs) (inserted (min slot (length xs)) (crumb ∷ []) xs) ≡ carry ∷ []
    → inserted slot (crumb ∷ []) (xs ++ ys)
    ≡ take (length xs) (inserted (min slot (length xs)) (crumb ∷ []) xs) ++ inserted (slot - min slot (length xs)) (carry ∷ []) ys
crumb-in slot crumb carry [] ys e =
    let none : min slot 0 ≡ 0 = omega arith in
    let same : crumb ≡ carry = ap (λ (l : List ℕ). get_or l 0 0) (rw none at e) in
    rw (none, sub-zero slot, same)
crumb-in zero crumb carry (x ∷ xs) ys e =
    let k : ℕ = suc (length xs) in
    let none : min 0 k ≡ 0 = omega arith in
    let all : List ℕ = crumb ∷ x ∷ xs in
    let off : drop k all ≡ carry ∷ [] = rw none at e in
    rw none
    (ap (λ (l : List ℕ). l ++ ys) (sym (take-append-drop k all) ∙ ap (λ (l : List ℕ). take k all ++ l) off) ∙ append_assoc (take k all) (carry ∷ []) ys)
crumb-in (suc slot) crumb carry (x ∷ xs) ys e =
    let on : min (suc slot) (suc (length xs)) ≡ suc (min slot (length xs)) = omega arith in
    rw (on, suc-sub-suc slot (min slot (length xs))) (ap (λ (l : List ℕ). x ∷ l) (crumb-in slot crumb carry xs ys (rw on at e)))

-- ---- one taken out

mixed-append : (k : ℕ) (xs ys us vs : List ℕ) → length xs ≡ length us → mixed k (xs ++ ys) (us ++ vs) ≡ mixed k xs us ++ mixed (k - length xs) ys vs
mixed-append k [] ys [] vs e = rw (take-nil {A = ℕ} k, drop-nil {A = ℕ} k, sub-zero k)
mixed-append k [] ys (u ∷ us) vs e = absurd (omega arith)
mixed-append k (x ∷ xs) ys [] vs e = absurd (omega arith)
mixed-append zero (x ∷ xs) ys (u ∷ us) vs e = rw (zero-sub (suc (length xs)))
mixed-append (suc k) (x ∷ xs) ys (u ∷ us) vs e = rw (suc-sub-suc k (length xs)) (ap (λ (l : List ℕ). x ∷ l) (mixed-append k xs ys us vs (omega arith)))

moved-append : (xs ys z : List ℕ) → 1 ≤ length xs → 1 ≤ length ys → drop 1 (xs ++ ys) ++ z ≡ (drop 1 xs ++ take 1 ys) ++ (drop 1 ys ++ z)
moved-append [] ys z h l = absurd (omega arith)
moved-append (x ∷ xs) [] z h l = absurd (omega arith)
moved-append (x ∷ xs) (y ∷ ys) z h l = append_assoc xs (y ∷ ys) z ∙ sym (append_assoc xs (y ∷ []) (ys ++ z))

crumb-out : (k : ℕ) (xs ys : List ℕ) → 1 ≤ length xs → 1 ≤ length ys → k + 1 ≤ length xs + length ys
    → taken_out k 1 (xs ++ ys) ≡ mixed k xs (drop 1 xs ++ take 1 ys) ++ mixed (k - length xs) ys (drop 1 ys ++ (0 ∷ []))
crumb-out k xs ys h l r =
    let one : length (take 1 ys) ≡ 1 = length-take-le 1 ys l in
    let long : length xs ≡ length (drop 1 xs ++ take 1 ys) = omega (arith, length-append (drop 1 xs) (take 1 ys), length-drop 1 xs, one) in
    sym (down-whole 1 (xs ++ ys) (omega (arith, length-append xs ys)) k (omega (arith, length-append xs ys)))
    ∙ ap (mixed k (xs ++ ys)) (moved-append xs ys (0 ∷ []) h l) ∙ mixed-append k xs ys (drop 1 xs ++ take 1 ys) (drop 1 ys ++ (0 ∷ [])) long

-- 16 lanes shifted down by one, the lowest of v coming in, and 8 of them with a zero
carry-in : (low v : ℕ) → low < 2 ^ 64 → digits 16 16 (low / 2 ^ 4 + v * 2 ^ 60 % 2 ^ 64) ≡ drop 1 (digits 16 16 low) ++ take 1 (digits 16 8 v)
unfolding digits
carry-in low v h =
    let z : ℕ = low / 16 % 16 ^ 15 + 16 ^ 15 * v in
    let wrapped : low / 2 ^ 4 + v * 2 ^ 60 % 2 ^ 64 ≡ z % 16 ^ 16 = omega arith in
    ap (digits 16 16) wrapped ∙ digits_low 16 16 z (lit< tt) ∙ digits-cat 16 15 1 (low / 16) v (lit< tt)

zero_in : (v : ℕ) → v < 2 ^ 32 → digits 16 8 (v / 2 ^ 4) ≡ drop 1 (digits 16 8 v) ++ (0 ∷ [])
zero_in v h =
    let ds : List ℕ = digits 16 8 v in
    sym (digits-drop 16 1 8 v) ∙ ap (drop 1) (digits_more 16 8 1 v (lit< tt) h) ∙ drop-append-le 1 ds (0 ∷ []) (omega (arith, length_digits 16 8 v))

-- ---- the twelve bytes

-- both words stored, the one behind first
pub crumbs-stored : (low high : ℕ) (s s1 s2 : List ℕ) → length s ≡ 12 → s1 ≡ take 4 s ++ (digits 256 8 (high * 2 ^ 32 % 2 ^ 64) ++ drop (4 + 8) s)
    → s2 ≡ take 0 s1 ++ (digits 256 8 low ++ drop (0 + 8) s1) → s2 ≡ digits 256 8 low ++ digits 256 4 high
crumbs-stored low high s s1 s2 h e f =
    let d : List ℕ = digits 256 4 high in
    let none : drop 12 s ≡ [] = drop_of_length-le s {i = 12} (omega arith) in
    let four : drop 4 s1 ≡ digits 256 8 (high * 2 ^ 32 % 2 ^ 64) ++ drop 12 s =
    ap (drop 4) e ∙ drop_at (take 4 s) (digits 256 8 (high * 2 ^ 32 % 2 ^ 64) ++ drop 12 s) 4 (length-take-le 4 s (omega arith)) in
    let back : drop 8 s1 ≡ d =
    sym (drop-drop 4 4 s1) ∙ ap (drop 4) (four ∙ ap₂ ◌++◌ (digits_up 256 4 4 high (lit< tt)) none ∙ append-nil (replicate {A = ℕ} 4 0 ++ d)) in
    f ∙ ap (λ (l : List ℕ). digits 256 8 low ++ l) back

pub crumbs-written : (low high : ℕ) (s hs : List ℕ) → s ≡ digits 256 8 low ++ digits 256 4 high → digits 16 16 low ++ digits 16 8 high ≡ take 24 hs
    → s ≡ grouped 16 2 12 hs
crumbs-written low high s hs e f =
    let ds : List ℕ = digits 256 8 low ++ digits 256 4 high in
    let long : length ds ≡ 12 = length-append (digits 256 8 low) (digits 256 4 high) ∙ ap₂ ◌+◌ (length_digits 256 8 low) (length_digits 256 4 high) in
    let bytes : Below 256 ds =
    below-append 256 (digits 256 8 low) (digits 256 4 high) (below-digits 256 8 low (lit< tt)) (below-digits 256 4 high (lit< tt)) in
    let halves : spread 16 2 ds ≡ take 24 hs =
    spread-append 16 2 (digits 256 8 low) (digits 256 4 high) ∙ ap₂ ◌++◌ (spread-digits 8 low) (spread-digits 4 high) ∙ f in
    e ∙ sym (rw (append-nil (spread 16 2 ds), long, halves) at (grouped-spread 16 2 ds [] (lit< tt) bytes)) ∙ grouped-take 16 2 12 hs

module _ (s : List ℕ) (low w : ℕ) (h : length s ≡ 12) (e : digits 256 8 low ≡ take 8 s) (g : digits 256 8 w ≡ take 8 (drop 4 s)) where
  -- the halves are those of the word and those of the four bytes behind it
  halves : spread 16 2 s ≡ digits 16 16 low ++ digits 16 8 (w / 2 ^ 32)
  halves =
      let whole : take 8 (drop 4 s) ≡ drop 4 s = take_all 8 (drop 4 s) (rw (length-drop 4 s) (omega arith)) in
      let four : digits 256 4 (w / 2 ^ 32) ≡ drop 8 s = sym (digits-drop 256 4 4 w) ∙ ap (drop 4) (g ∙ whole) ∙ drop-drop 4 4 s in
      sym (ap (spread 16 2) (ap₂ ◌++◌ e four ∙ take-append-drop 8 s)) ∙ spread-append 16 2 (digits 256 8 low) (digits 256 4 (w / 2 ^ 32))
      ∙ ap₂ ◌++◌ (spread-digits 8 low) (spread-digits 4 (w / 2 ^ 32))

  pub crumb-inserted : (slot crumb carry n newLow newHigh : ℕ) → n ≡ min slot 16 → drop 16 (inserted n (crumb ∷ []) (digits 16 16 low)) ≡ carry ∷ []
      → digits 16 16 newLow ≡ take 16 (inserted n (crumb ∷ []) (digits 16 16 low))
      → digits 16 16 newHigh ≡ take 16 (inserted (slot - n) (carry ∷ []) (digits 16 16 (w / 2 ^ 32)))
      → digits 16 16 newLow ++ digits 16 8 newHigh ≡ take 24 (inserted slot (crumb ∷ []) (spread 16 2 s))
  crumb-inserted slot crumb carry n newLow newHigh m off f k =
      let v : ℕ = w / 2 ^ 32 in
      let xs : List ℕ = digits 16 16 low in
      let ys : List ℕ = digits 16 8 v in
      let front : List ℕ = take 16 (inserted n (crumb ∷ []) xs) in
      let back : List ℕ = inserted (slot - n) (carry ∷ []) ys in
      let long : length front ≡ 16 = sym (ap length f) ∙ length_digits 16 16 newLow in
      let high : digits 16 8 newHigh ≡ take 8 back =
      sym (digits-take 16 8 8 newHigh) ∙ ap (take 8) k ∙ take-take 8 16 (inserted (slot - n) (carry ∷ []) (digits 16 16 v)) (lit≤ tt)
      ∙ sym (take_inserted 8 8 (slot - n) (carry ∷ []) (digits 16 16 v) (lit≤ tt))
      ∙ ap (λ (l : List ℕ). take 8 (inserted (slot - n) (carry ∷ []) l)) (digits-take 16 8 8 v) in
      let split : inserted slot (crumb ∷ []) (xs ++ ys) ≡ front ++ back =
      rw (length_digits 16 16 low, sym m) at (crumb-in slot crumb carry xs ys (rw (length_digits 16 16 low, sym m) off)) in
      ap₂ ◌++◌ f high ∙ sym (rw long at (take-over 24 front back (omega arith))) ∙ ap (take 24) (sym split)
      ∙ ap (λ (l : List ℕ). take 24 (inserted slot (crumb ∷ []) l)) (sym halves)

  pub crumb-removed : (slot n newLow newHigh : ℕ) → slot < 24 → n ≡ min slot 16 → low < 2 ^ 64 → w < 2 ^ 64
      → let y : ℕ = low / 2 ^ 4 + w / 2 ^ 32 * 2 ^ 60 % 2 ^ 64 in newLow ≡ low % 4 ^ (2 * n) + y / 4 ^ (2 * n) * 4 ^ (2 * n)
      → let v : ℕ = w / 2 ^ 32 in newHigh ≡ v % 4 ^ (2 * (slot - n)) + v / 2 ^ 4 / 4 ^ (2 * (slot - n)) * 4 ^ (2 * (slot - n))
      → digits 16 16 newLow ++ digits 16 8 newHigh ≡ take 24 (taken_out slot 1 (spread 16 2 s))
  crumb-removed slot n newLow newHigh l m less small f k =
      let v : ℕ = w / 2 ^ 32 in
      let xs : List ℕ = digits 16 16 low in
      let ys : List ℕ = digits 16 8 v in
      let front : digits 16 16 newLow ≡ mixed slot xs (drop 1 xs ++ take 1 ys) =
      ap (digits 16 16) (rw (pow-pow 4 2 n, m) at f) ∙ digits-blend 16 16 slot low (low / 2 ^ 4 + v * 2 ^ 60 % 2 ^ 64) (lit< tt)
      ∙ ap (mixed slot xs) (carry-in low v less) in
      let rest : slot - n ≡ min (slot - 16) 8 = omega arith in
      let back : digits 16 8 newHigh ≡ mixed (slot - 16) ys (drop 1 ys ++ (0 ∷ [])) =
      ap (digits 16 8) (rw (pow-pow 4 2 (slot - n), rest) at k) ∙ digits-blend 16 8 (slot - 16) v (v / 2 ^ 4) (lit< tt)
      ∙ ap (mixed (slot - 16) ys) (zero_in v (omega arith)) in
      let out : taken_out slot 1 (xs ++ ys) ≡ mixed slot xs (drop 1 xs ++ take 1 ys) ++ mixed (slot - 16) ys (drop 1 ys ++ (0 ∷ [])) =
      rw (length_digits 16 16 low) at (crumb-out slot xs ys (omega (arith, length_digits 16 16 low)) (omega (arith, length_digits 16 8 v))
      (omega (arith, length_digits 16 16 low, length_digits 16 8 v))) in
      let long : length (taken_out slot 1 (xs ++ ys)) ≡ 24 = sym (ap length (ap₂ ◌++◌ front back ∙ sym out))
      ∙ length-append (digits 16 16 newLow) (digits 16 8 newHigh) ∙ ap₂ ◌+◌ (length_digits 16 16 newLow) (length_digits 16 8 newHigh) in
      ap₂ ◌++◌ front back ∙ sym out ∙ sym (take_all 24 (taken_out slot 1 (xs ++ ys)) (omega arith))
      ∙ ap (λ (r : List ℕ). take 24 (taken_out slot 1 r)) (sym halves)
