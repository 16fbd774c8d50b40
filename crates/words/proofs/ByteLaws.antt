-- The ones of a word's bytes, all at once: a stage of the count over all bytes (`byte-ones-stage`, `byte-ones-word`), and the ones below each byte
-- (`added-word`, `sums_word`). Three steps by these sums lead to the byte of a rank (`near_step`, `select-found`, `select-none`).
use mathlib.Core.Path.{◌≡◌, refl, sym, ap, ◌∙◌}
use mathlib.Core.Logic.{⊎_elim}
use Prim.Native.Nat.{ℕ, zero, suc, ◌+◌, ◌-◌, ◌*◌, ◌/◌, ◌%◌, ◌^◌, ◌≤◌, ◌<◌}
use native.Mathlib.Nat.{zero-add, add-zero, suc-add, add_assoc, mul-add, mul_comm, mul_left_comm, pow-suc, mul-div_cancel_left, div-add-mod', div-lt_iff_lt-mul, eq-or-lt_of_le}
use native.Mathlib.Omega.{arith}
use lib.ListN.{get_or}
use lib.Pow.{shr-shr, pow_pos}
use lib.Count.{ones, ones_in}
use lib.Bits.{bit_and, and_block, and_mod, and_zero_l, and_zero_r, and_le_r}
use lib.Dec.{lit<}
use Rattle.words.specs.Select.{select_in, listed}
use Rattle.words.specs.Steps.Counts.{Near, bytewise, Sums, Stepped}
use Rattle.buckets.proofs.BitLaws.{shr-suc}
use Rattle.words.proofs.SelectLaws.{select-pass, select-low, select-byte-hit, ones_low, ones-byte, listed_at}

-- ---- byte by byte

bytewise-ext : (f g : ℕ → ℕ) (n w : ℕ) → ((x : ℕ) → x < 256 → f x ≡ g x) → bytewise f n w ≡ bytewise g n w
bytewise-ext f g zero w e = refl
bytewise-ext f g (suc n) w e = rw (e (w % 256) (omega arith), bytewise-ext f g n (w / 256) e)

bytewise-id : (n w : ℕ) → w < 256 ^ n → bytewise (λ (x : ℕ). x) n w ≡ w
bytewise-id zero w l = omega arith
bytewise-id (suc n) w l = rw (bytewise-id n (w / 256) ((div-lt_iff_lt-mul (lit< tt)).1 (rw (pow-suc 256 n) at l))) (omega arith)

bytewise-add : (f g : ℕ → ℕ) (n w : ℕ) → bytewise f n w + bytewise g n w ≡ bytewise (λ (x : ℕ). f x + g x) n w
bytewise-add f g zero w = refl
bytewise-add f g (suc n) w = omega (arith, bytewise-add f g n (w / 256))

bytewise-times : (d : ℕ) (f : ℕ → ℕ) (n w : ℕ) → bytewise (λ (x : ℕ). d * f x) n w ≡ d * bytewise f n w
bytewise-times d f zero w = omega arith
bytewise-times d f (suc n) w =
    let r = bytewise f n (w / 256) in
    rw (bytewise-times d f n (w / 256), mul-add d (f (w % 256)) (256 * r), mul_left_comm 256 d r)

bytewise-and : (f : ℕ → ℕ) (m n w v : ℕ) → ((x : ℕ) → x < 256 → f x < 256) → m < 256
    → bit_and (bytewise f n w) (bytewise (λ (x : ℕ). m) n v) ≡ bytewise (λ (x : ℕ). bit_and (f x) m) n w
bytewise-and f m zero w v b l = and_zero_l 0
bytewise-and f m (suc n) w v b l =
    let x = f (w % 256) in
    let r = bytewise f n (w / 256) in
    let t = bytewise (λ (y : ℕ). m) n (v / 256) in
    let e : x + 256 * r ≡ r * 2 ^ 8 + x = omega arith in
    let g : m + 256 * t ≡ t * 2 ^ 8 + m = omega arith in
    rw (e, g, and_block 8 r t x m (b (w % 256) (omega arith)) l, bytewise-and f m n (w / 256) (v / 256) b l) (omega arith)

-- a mask whose k lowest bits are 0
mask-even : (k m x : ℕ) → m % 2 ^ k ≡ 0 → bit_and x m % 2 ^ k ≡ 0
mask-even k m x e = and_mod x m k ∙ rw e (and_zero_r (x % 2 ^ k))

-- what two masks pick out, added up
pub byte-ones-stage : (f : ℕ → ℕ) (low high k n w : ℕ) → ((x : ℕ) → x < 256 → f x < 256) → low < 256 → high < 256 → high % 2 ^ k ≡ 0
    → bit_and (bytewise f n w) (bytewise (λ (x : ℕ). low) n 0) + bit_and (bytewise f n w) (bytewise (λ (x : ℕ). high) n 0) / 2 ^ k
    ≡ bytewise (λ (x : ℕ). bit_and (f x) low + bit_and (f x) high / 2 ^ k) n w
byte-ones-stage f low high k n w b l h e =
    let d = 2 ^ k in
    let half : ℕ → ℕ = λ x. bit_and (f x) high / d in
    let whole : (x : ℕ) → x < 256 → bit_and (f x) high ≡ d * half x = λ x i.
    sym (div-add-mod' (bit_and (f x) high) d) ∙ rw (mask-even k high (f x) e) (add-zero _ ∙ mul_comm _ _) in
    rw (
      bytewise-and f low n w 0 b l,
      bytewise-and f high n w 0 b h,
      bytewise-ext (λ (x : ℕ). bit_and (f x) high) (λ (x : ℕ). d * half x) n w whole,
      bytewise-times d half n w,
      mul-div_cancel_left (bytewise half n w) (pow_pos k),
    ) (bytewise-add (λ (x : ℕ). bit_and (f x) low) half n w)

-- ---- the ones of each byte

-- the ones of a byte's pairs, fours and eight bits
abbrev in_pairs : ℕ → ℕ
in_pairs x = bit_and x 85 + bit_and x 170 / 2

abbrev in_fours : ℕ → ℕ
in_fours x = bit_and (in_pairs x) 51 + bit_and (in_pairs x) 204 / 4

abbrev in_eight : ℕ → ℕ
in_eight x = bit_and (in_fours x) 15 + bit_and (in_fours x) 240 / 16

-- all 256 byte values, computed
in-eight : (x : ℕ) → x < 256 → in_eight x ≡ ones x
unfolding ones
in-eight x l =
    let table : listed in_eight 0 256 ≡ listed ones 0 256 = refl in
    rw (zero-add x) at (sym (listed_at in_eight 0 256 x l) ∙ ap (λ t. get_or t x 0) table ∙ listed_at ones 0 256 x l)

pub byte-ones-word : (w p q : ℕ) → w < 2 ^ 64 → p ≡ bit_and w 6148914691236517205 + bit_and w 12297829382473034410 / 2
    → q ≡ bit_and p 3689348814741910323 + bit_and p 14757395258967641292 / 4
    → bit_and q 1085102592571150095 + bit_and q 17361641481138401520 / 16 ≡ bytewise ones 8 w
byte-ones-word w p q l e g =
    let pairs : p ≡ bytewise in_pairs 8 w =
    e ∙ ap (λ (v : ℕ). bit_and v 6148914691236517205 + bit_and v 12297829382473034410 / 2) (sym (bytewise-id 8 w l))
    ∙ byte-ones-stage (λ (x : ℕ). x) 85 170 1 8 w (λ x i. i) (lit< tt) (lit< tt) refl in
    let fours : q ≡ bytewise in_fours 8 w =
    g ∙ ap (λ (v : ℕ). bit_and v 3689348814741910323 + bit_and v 14757395258967641292 / 4) pairs
    ∙ byte-ones-stage in_pairs 51 204 2 8 w (λ x i. omega (arith, and_le_r x 85, and_le_r x 170)) (lit< tt) (lit< tt) refl in
    ap (λ (v : ℕ). bit_and v 1085102592571150095 + bit_and v 17361641481138401520 / 16) fours
    ∙ byte-ones-stage in_fours 15 240 4 8 w (λ x i. omega (arith, and_le_r (in_pairs x) 51, and_le_r (in_pairs x) 204)) (lit< tt) (lit< tt) refl
    ∙ bytewise-ext in_eight ones 8 w in-eight

-- ---- the ones below each byte

-- a number whose bytes are a, a + the ones of w's byte 0, a + those of its bytes 0 and 1, .., n of them
abbrev running : ℕ → ℕ → ℕ → ℕ
running a zero w = 0
running a (suc n) w = a + 256 * running (a + ones (w % 256)) n (w / 256)

pub ones_split : (k d w : ℕ) → ones_in (k + d) w ≡ ones_in k w + ones_in d (w / 2 ^ k)
unfolding ones_in
ones_split zero d w = let e : w / 1 ≡ w = omega arith in rw (zero-add d, e) (sym (zero-add (ones_in d w)))
ones_split (suc k) d w = rw (suc-add k d, shr-suc k w) (omega (arith, ones_split k d (w / 2)))

running-at : (a n j w : ℕ) → j < n → a + 8 * n < 256 → running a n w / 2 ^ (8 * j) % 256 ≡ a + ones_in (8 * j) w
unfolding ones_in
running-at a zero j w l h = absurd (omega arith)
running-at a (suc n) zero w l h = omega arith
running-at a (suc n) (suc j) w l h =
    let s = a + ones (w % 256) in
    let x = running s n (w / 256) in
    let e : 8 * suc j ≡ 8 + 8 * j = omega arith in
    let q : (a + 256 * x) / 2 ^ 8 ≡ x = omega arith in
    rw (e, ← shr-shr (a + 256 * x) 8 (8 * j), q)
    (omega (arith, running-at s n j (w / 256) (omega arith) (omega (arith, ones-byte w)), ones_split 8 (8 * j) w, ones_low 8 w))

-- eight bytes as one number
abbrev eight : ℕ → ℕ → ℕ → ℕ → ℕ → ℕ → ℕ → ℕ → ℕ
eight a b c d e f g h = a + 256 * (b + 256 * (c + 256 * (d + 256 * (e + 256 * (f + 256 * (g + 256 * (h + 256 * 0)))))))

-- moved up by a byte
moved : (a b c d e f g h : ℕ) → a < 256 → b < 256 → c < 256 → d < 256 → e < 256 → f < 256 → g < 256
    → eight a b c d e f g h * 2 ^ 8 % 2 ^ 64 ≡ eight 0 a b c d e f g
moved a b c d e f g h la lb lc ld le lf lg =
    let low = a + 256 * (b + 256 * (c + 256 * (d + 256 * (e + 256 * (f + 256 * g))))) in
    let l : low < 72057594037927936 = omega arith in
    let r : eight a b c d e f g h * 2 ^ 8 ≡ low * 256 + 18446744073709551616 * h = omega arith in
    rw r (omega (arith, l))

-- bytes of at most 8, with those below them added in three steps
module _ (a b c d e f g h : ℕ) (la : a ≤ 8) (lb : b ≤ 8) (lc : c ≤ 8) (ld : d ≤ 8)
    (le : e ≤ 8) (lf : f ≤ 8) (lg : g ≤ 8) (lh : h ≤ 8) where
  by_two : eight a b c d e f g h + eight a b c d e f g h * 2 ^ 8 % 2 ^ 64
      ≡ eight a (a + b) (b + c) (c + d) (d + e) (e + f) (f + g) (g + h)
  by_two = omega arith

  two-lt : eight a (a + b) (b + c) (c + d) (d + e) (e + f) (f + g) (g + h) < 2 ^ 64
  two-lt = omega arith

  by-four : let x = eight a (a + b) (b + c) (c + d) (d + e) (e + f) (f + g) (g + h) in
      x + x * 2 ^ 16 % 2 ^ 64
      ≡ eight a (a + b) (a + b + c) (a + b + c + d) (b + c + d + e) (c + d + e + f) (d + e + f + g) (e + f + g + h)
  by-four = omega arith

  four-lt : eight a (a + b) (a + b + c) (a + b + c + d) (b + c + d + e) (c + d + e + f) (d + e + f + g) (e + f + g + h) < 2 ^ 64
  four-lt = omega arith

  by-eight : let x = eight a (a + b) (a + b + c) (a + b + c + d) (b + c + d + e) (c + d + e + f) (d + e + f + g) (e + f + g + h) in
      x + x * 2 ^ 32 % 2 ^ 64
      ≡ eight a (a + b) (a + b + c) (a + b + c + d) (a + b + c + d + e) (a + b + c + d + e + f) (a + b + c + d + e + f + g)
      (a + b + c + d + e + f + g + h)
  by-eight = omega arith

  eight-lt : eight a (a + b) (a + b + c) (a + b + c + d) (a + b + c + d + e) (a + b + c + d + e + f) (a + b + c + d + e + f + g)
      (a + b + c + d + e + f + g + h) < 2 ^ 64
  eight-lt = omega arith

  by_move : eight a (a + b) (a + b + c) (a + b + c + d) (a + b + c + d + e) (a + b + c + d + e + f) (a + b + c + d + e + f + g)
      (a + b + c + d + e + f + g + h) * 2 ^ 8 % 2 ^ 64
      ≡ eight 0 a (a + b) (a + b + c) (a + b + c + d) (a + b + c + d + e) (a + b + c + d + e + f) (a + b + c + d + e + f + g)
  by_move =
      moved a (a + b) (a + b + c) (a + b + c + d) (a + b + c + d + e) (a + b + c + d + e + f) (a + b + c + d + e + f + g)
      (a + b + c + d + e + f + g + h) (omega arith) (omega arith) (omega arith) (omega arith) (omega arith) (omega arith) (omega arith)

added : (a b c d e f g h t u v : ℕ) → a ≤ 8 → b ≤ 8 → c ≤ 8 → d ≤ 8 → e ≤ 8 → f ≤ 8 → g ≤ 8 → h ≤ 8
    → t ≡ eight a b c d e f g h + eight a b c d e f g h * 2 ^ 8 % 2 ^ 64 → u ≡ t + t * 2 ^ 16 % 2 ^ 64 → v ≡ u + u * 2 ^ 32 % 2 ^ 64
    → (t < 2 ^ 64) × (u < 2 ^ 64) × (v < 2 ^ 64)
    × (v * 2 ^ 8 % 2 ^ 64 ≡ eight 0 a (a + b) (a + b + c) (a + b + c + d) (a + b + c + d + e) (a + b + c + d + e + f) (a + b + c + d + e + f + g))
added a b c d e f g h t u v la lb lc ld le lf lg lh et eu ev =
    let ti = et ∙ by_two a b c d e f g h la lb lc ld le lf lg lh in
    let ui = eu ∙ ap (λ (x : ℕ). x + x * 2 ^ 16 % 2 ^ 64) ti ∙ by-four a b c d e f g h la lb lc ld le lf lg lh in
    let vi = ev ∙ ap (λ (x : ℕ). x + x * 2 ^ 32 % 2 ^ 64) ui ∙ by-eight a b c d e f g h la lb lc ld le lf lg lh in (
      rw ti (two-lt a b c d e f g h la lb lc ld le lf lg lh),
      rw ui (four-lt a b c d e f g h la lb lc ld le lf lg lh),
      rw vi (eight-lt a b c d e f g h la lb lc ld le lf lg lh),
      rw vi (by_move a b c d e f g h la lb lc ld le lf lg lh),
    )

-- from 0 on
running-eight : (w : ℕ) → let w1 = w / 256 in let w2 = w1 / 256 in let w3 = w2 / 256 in let w4 = w3 / 256 in let w5 = w4 / 256 in
    let a = ones (w % 256) in let b = ones (w1 % 256) in let c = ones (w2 % 256) in let d = ones (w3 % 256) in let e = ones (w4 % 256) in
    let f = ones (w5 % 256) in let g = ones (w5 / 256 % 256) in
    eight 0 a (a + b) (a + b + c) (a + b + c + d) (a + b + c + d + e) (a + b + c + d + e + f) (a + b + c + d + e + f + g) ≡ running 0 8 w
running-eight w = rw (zero-add (ones (w % 256)))

-- the three steps over the ones of a word's bytes: they fit, and moved up by a byte they are the ones below each byte
abbrev spread_by : ℕ → ℕ → ℕ
spread_by k x = x + x * 2 ^ k % 2 ^ 64

pub record Added (w x : ℕ) : Type 0 where
  pub twos : spread_by 8 x < 2 ^ 64
  pub fours : spread_by 16 (spread_by 8 x) < 2 ^ 64
  pub eights : spread_by 32 (spread_by 16 (spread_by 8 x)) < 2 ^ 64
  pub moved : spread_by 32 (spread_by 16 (spread_by 8 x)) * 2 ^ 8 % 2 ^ 64 ≡ running 0 8 w

pub added-word : (w x : ℕ) → x ≡ bytewise ones 8 w → Added w x
added-word w x i =
    let w1 = w / 256 in
    let w2 = w1 / 256 in
    let w3 = w2 / 256 in
    let w4 = w3 / 256 in
    let w5 = w4 / 256 in
    let w6 = w5 / 256 in
    let w7 = w6 / 256 in
    let r = added (ones (w % 256)) (ones (w1 % 256)) (ones (w2 % 256)) (ones (w3 % 256)) (ones (w4 % 256)) (ones (w5 % 256)) (ones (w6 % 256))
    (ones (w7 % 256)) (spread_by 8 x) (spread_by 16 (spread_by 8 x)) (spread_by 32 (spread_by 16 (spread_by 8 x))) (ones-byte w) (ones-byte w1)
    (ones-byte w2) (ones-byte w3) (ones-byte w4) (ones-byte w5) (ones-byte w6) (ones-byte w7) (ap (spread_by 8) i) refl refl in
    record { twos = r.0; fours = r.1; eights = r.2; moved = r.3 ∙ running-eight w }

pub sums_word : (w s : ℕ) → s ≡ running 0 8 w → Sums w s
sums_word w s e j l = rw e (running-at 0 8 j w l (lit< tt) ∙ zero-add (ones_in (8 * j) w))

-- ---- three steps to the byte of a rank

pub near-all : (w rank : ℕ) → Near w rank 0 64
unfolding ones_in
near-all w rank = record { whole = refl; room = omega arith; passed = omega arith; ahead = λ l. absurd (omega arith) }

pub sums_at : (w s p : ℕ) → Sums w s → p % 8 ≡ 0 → p < 64 → s / 2 ^ p % 256 ≡ ones_in p w
sums_at w s p t e l = let j : 8 * (p / 8) ≡ p = omega arith in rw j at (t (p / 8) (omega arith))

pub near_step : (w s rank place width r : ℕ) → Sums w s → width % 8 ≡ 0 → 0 < width → Near w rank place (width + width)
    → Stepped (s / 2 ^ (place + width) % 256) rank place width r → Near w rank r width
near_step w s rank place width r t e l n =
    let at = sums_at w s (place + width) t (omega (arith, n.whole)) (omega (arith, n.room)) in
    ⊎_elim
    (λ h. rw h.1 record {
      whole = omega (arith, n.whole);
      room = omega (arith, n.room);
      passed = rw at at h.0;
      ahead = λ g. rw (sym (add_assoc place width width)) at (n.ahead (omega arith));
    })
    (λ h. rw h.1 record { whole = n.whole; room = omega (arith, n.room); passed = n.passed; ahead = λ g. rw at at h.0 })

-- the byte found has the rank's bit, or is the last
pub select-near : (w rank place : ℕ) → Near w rank place 8
    → select_in 64 w rank ≡ place + select_in 8 (w / 2 ^ place % 256) (rank - ones_in place w)
select-near w rank place n =
    let x = w / 2 ^ place in
    let left = rank - ones_in place w in
    let d : 64 ≡ place + (64 - place) = omega (arith, n.room) in
    rw d (select-pass place (64 - place) w rank n.passed
    ∙ ap (λ (y : ℕ). place + y)
    (⊎_elim
    (λ (e : place + 8 ≡ 64). let k : 64 - place ≡ 8 = omega arith in rw k (sym (select-low 8 x left)))
    (λ (l : place + 8 < 64).
    select-byte-hit place x left (omega arith) n.whole
    (omega (arith, n.ahead l, n.passed, ones_split place 8 w, ones_low 8 x)))
    (eq-or-lt_of_le n.room)))

-- its place in the word, by that in the byte
pub select-found : (w rank place left at : ℕ) → Near w rank place 8 → left ≡ rank - ones_in place w → at ≡ select_in 8 (w / 2 ^ place % 256) left
    → place + at ≡ select_in 64 w rank
select-found w rank place left at n l e = rw (e, l) (sym (select-near w rank place n))

pub select-none : (w rank place : ℕ) → Near w rank place 8 → 8 ≤ rank - ones_in place w → select_in 64 w rank ≡ 64
unfolding select_in
select-none w rank place n h =
    let x = w / 2 ^ place in
    let left = rank - ones_in place w in
    ⊎_elim
    (λ (e : place + 8 ≡ 64).
    select-near w rank place n
    ∙ ap (λ (y : ℕ). place + y) (select-low 8 x left ∙ select-pass 8 0 x left (omega (arith, ones-byte x, ones_low 8 x))) ∙ e)
    (λ (l : place + 8 < 64). absurd (omega (arith, n.ahead l, n.passed, ones_split place 8 w, ones_low 8 x, ones-byte x)))
    (eq-or-lt_of_le n.room)

-- a rank that the word has stands in the byte found
pub near-left : (w rank place : ℕ) → Near w rank place 8 → w < 2 ^ 64 → rank < ones w → rank - ones_in place w < ones_in 8 (w / 2 ^ place % 256)
near-left w rank place n small h =
    let x = w / 2 ^ place in
    let same : ones_in 8 (x % 256) ≡ ones_in 8 x = let e : x % 256 % 256 ≡ x % 256 = omega arith in sym (ones_low 8 (x % 256)) ∙ rw e (ones_low 8 x) in
    let all : ones w ≡ ones_in 64 w = let e : w % 2 ^ 64 ≡ w = omega arith in rw e at (ones_low 64 w) in
    rw same
    (⊎_elim
    (λ (e : place + 8 ≡ 64). omega (arith, n.passed, all, rw e at (ones_split place 8 w)))
    (λ (l : place + 8 < 64). omega (arith, n.passed, n.ahead l, ones_split place 8 w))
    (eq-or-lt_of_le n.room))
