-- Halves of a number compared with a crumb all at once, for any number of halves: `zero-halves` marks those that are 0, `same-halves` those that are the
-- crumb, and `marks-count` counts the marks of the first ones. Then `halves-counted`: the members of a bucket that carry a crumb, by the two numbers that
-- hold its crumbs.
use mathlib.Core.Path.{◌≡◌, refl, sym, ap, ◌∙◌}
use mathlib.Core.Logic.{◌⊎◌, inl, inr}
use Prim.Native.Nat.{ℕ, zero, suc, ◌+◌, ◌*◌, ◌-◌, ◌/◌, ◌%◌, ◌^◌, ◌≤◌, ◌<◌, max}
use mathlib.Core.Bool.{cond}
use mathlib.Core.List.{List, [], ◌∷◌}
use native.Mathlib.Nat.{pow-succ', mul_comm, mul_assoc, div-div-eq-div-mul, add-mul-mod_self_left, mod-eq_of_lt}
use native.Mathlib.Decide.{ℕ_discrete, dec_le}
use native.Mathlib.Omega.{arith}
use lib.ListN.{length, take, drop, get_or, length-drop}
use lib.Seq.{length-take-le, drop-nil, drop-drop, take_all, take-suc, take-add}
use lib.Pow.{pow-lt}
use lib.Bits.{bit_and, bit_or, bit_xor, and_mask, and_block, and_zero_r, or_step, or_shr, xor_mod, xor_shr, xor_add_and, xor_self, and_le_l, and_le_r}
use lib.Count.{ones, ones_cat}
use lib.Dec.{eqb}
use borrow.Author.Tests.{eq-eqb, ne_eqb}
use Rattle.multiset.specs.Multisets.{copies, Below}
use Rattle.multiset.specs.Digits.{digits, value, spread}
use Rattle.multiset.proofs.MultisetLaws.{hit, hit-equal, hit_other, copies-cons, copies-append, below-take, below-drop}
use Rattle.multiset.proofs.DigitLaws.{length-spread}
use Rattle.buckets.specs.Buckets.{carrying}
use Rattle.buckets.proofs.CarryLaws.{carrying-on}
use Rattle.search.specs.Steps.Searches.{half_marks}

-- c in each of n halves
abbrev pub repeated : ℕ → ℕ → ℕ
repeated c zero = 0
repeated c (suc n) = repeated c n * 16 + c

-- ---- halves that are 0

-- the bits of each half gathered in its lowest one
abbrev pub gathered : ℕ → ℕ
gathered x = bit_or (bit_or x (x / 2 ^ 2)) (bit_or x (x / 2 ^ 2) / 2 ^ 1)

or-low : (a b : ℕ) → bit_or a b % 2 ≡ max (a % 2) (b % 2)
or-low a b = let e = or_step a b in omega (arith, e)

div-swap : (x a b : ℕ) → x / a / b ≡ x / b / a
div-swap x a b = div-div-eq-div-mul x a b ∙ ap (λ (k : ℕ). x / k) (mul_comm a b) ∙ sym (div-div-eq-div-mul x b a)

gathered-high : (x : ℕ) → gathered x / 2 ^ 4 ≡ gathered (x / 2 ^ 4)
gathered-high x =
    let pairs : bit_or x (x / 2 ^ 2) / 2 ^ 4 ≡ bit_or (x / 2 ^ 4) (x / 2 ^ 4 / 2 ^ 2) = or_shr x (x / 2 ^ 2) 4 ∙ ap (bit_or (x / 2 ^ 4)) (div-swap x (2 ^ 2) (2 ^ 4)) in
    or_shr (bit_or x (x / 2 ^ 2)) (bit_or x (x / 2 ^ 2) / 2 ^ 1) 4
    ∙ ap (bit_or (bit_or x (x / 2 ^ 2) / 2 ^ 4)) (div-swap (bit_or x (x / 2 ^ 2)) (2 ^ 1) (2 ^ 4)) ∙ rw pairs

-- the four bits of a half
half-bits : (x : ℕ) → x % 16 ≡ x % 2 + 2 * (x / 2 % 2) + 4 * (x / 4 % 2) + 8 * (x / 4 / 2 % 2)
half-bits x =
    let a : x / 2 / 2 ≡ x / 4 = omega arith in
    let b : x / 4 / 2 / 2 ≡ x / 16 = omega arith in
    omega (arith, a, b)

-- their maximum
any-bit : (m g x0 x1 x2 x3 : ℕ) → x0 < 2 → x1 < 2 → x2 < 2 → x3 < 2 → m ≡ x0 + 2 * x1 + 4 * x2 + 8 * x3 → g ≡ max (max x0 x2) (max x1 x3)
    → (m ≡ 0 → g ≡ 0) × ((m ≡ 0 → ⊥) → g ≡ 1)
any-bit m g x0 x1 x2 x3 a b c d e f = (λ z. omega arith, λ z. omega arith)

half-odd : (g : ℕ) → g % 2 ≡ 0 → (15 - g % 16) % 2 ≡ 1
half-odd g e =
    let a : g % 16 ≡ 2 * (g % 16 / 2) = omega arith in
    let b : 15 - g % 16 ≡ 1 + 2 * (7 - g % 16 / 2) = omega (arith, a) in
    omega (arith, b)

half-even : (g : ℕ) → g % 2 ≡ 1 → (15 - g % 16) % 2 ≡ 0
half-even g e =
    let a : g % 16 ≡ 1 + 2 * (g % 16 / 2) = omega arith in
    let b : 15 - g % 16 ≡ 2 * (7 - g % 16 / 2) = omega (arith, a) in
    omega (arith, b)

gathered-low : (x : ℕ) → (15 - gathered x % 16) % 2 ≡ cond (eqb (x % 16) 0) 1 0
gathered-low x =
    let pairs = bit_or x (x / 2 ^ 2) in
    let a : gathered x % 2 ≡ max (pairs % 2) (pairs / 2 ^ 1 % 2) = or-low pairs (pairs / 2 ^ 1) in
    let b : pairs % 2 ≡ max (x % 2) (x / 2 ^ 2 % 2) = or-low x (x / 2 ^ 2) in
    let c : pairs / 2 ^ 1 % 2 ≡ max (x / 2 ^ 1 % 2) (x / 2 ^ 2 / 2 ^ 1 % 2) =
    ap (λ (k : ℕ). k % 2) (or_shr x (x / 2 ^ 2) 1) ∙ or-low (x / 2 ^ 1) (x / 2 ^ 2 / 2 ^ 1) in
    let bits = any-bit (x % 16) (gathered x % 2) (x % 2) (x / 2 % 2) (x / 4 % 2) (x / 4 / 2 % 2) (omega arith) (omega arith) (omega arith) (omega arith)
    (half-bits x) (a ∙ rw (b, c)) in
    elim (ℕ_discrete (x % 16) 0) [
      | yes e ↦ rw (eq-eqb (x % 16) 0 e) (half-odd (gathered x) (bits.0 e))
      | no e ↦ rw (ne_eqb (x % 16) 0 e) (half-even (gathered x) (bits.1 e))
    ]

-- all halves of a number at once
gathered-lt : (n x : ℕ) → x < 16 ^ n → gathered x < 16 ^ n
gathered-lt zero x h = let z : x ≡ 0 = omega arith in rw z (omega arith)
gathered-lt (suc n) x h =
    let up : x / 2 ^ 4 < 16 ^ n = omega (arith, pow-succ' 16 n) in
    omega (arith, pow-succ' 16 n, gathered-high x, gathered-lt n (x / 2 ^ 4) up)

pub zero-halves : (n x : ℕ) → x < 16 ^ n → bit_and (16 ^ n - 1 - gathered x) (repeated 1 n) ≡ half_marks 0 (digits 16 n x)
unfolding half_marks digits
zero-halves zero x h = and_zero_r (0 - gathered x)
zero-halves (suc n) x h =
    let up : x / 2 ^ 4 < 16 ^ n = omega (arith, pow-succ' 16 n) in
    let less = gathered-lt n (x / 2 ^ 4) up in
    let r = 15 - gathered x % 16 in
    let parts : 16 ^ suc n - 1 - gathered x ≡ (16 ^ n - 1 - gathered (x / 2 ^ 4)) * 2 ^ 4 + r = omega (arith, pow-succ' 16 n, gathered-high x, less) in
    let low : bit_and r 1 ≡ cond (eqb (x % 16) 0) 1 0 = and_mask r 1 ∙ gathered-low x in
    rw parts (and_block 4 (16 ^ n - 1 - gathered (x / 2 ^ 4)) (repeated 1 n) r 1 (omega arith) (omega arith)
    ∙ rw (low, zero-halves n (x / 2 ^ 4) up) (omega arith))

-- ---- halves that are a crumb

xor-zero : (a b : ℕ) → bit_xor a b ≡ 0 → a ≡ b
xor-zero a b e = omega (arith, xor_add_and a b, and_le_l a b, and_le_r a b)

same_half : (a c : ℕ) → eqb (bit_xor a c) 0 ≡ eqb a c
same_half a c = elim (ℕ_discrete a c) [
  | yes e ↦ rw (eq-eqb a c e) (eq-eqb (bit_xor a c) 0 (rw e (xor_self c)))
  | no e ↦ rw (ne_eqb a c e) (ne_eqb (bit_xor a c) 0 (λ z. e (xor-zero a c z)))
]

pub same-halves : (n x c : ℕ) → c < 16 → half_marks 0 (digits 16 n (bit_xor x (repeated c n))) ≡ half_marks c (digits 16 n x)
unfolding half_marks digits
same-halves zero x c h = refl
same-halves (suc n) x c h =
    let r = repeated c n * 16 + c in
    let low : bit_xor x r % 16 ≡ bit_xor (x % 16) c =
    xor_mod x r 4 ∙ ap (bit_xor (x % 16)) (omega arith) in
    let high : bit_xor x r / 16 ≡ bit_xor (x / 16) (repeated c n) =
    xor_shr x r 4 ∙ ap (bit_xor (x / 16)) (omega arith) in
    rw (low, high, same_half (x % 16) c, same-halves n (x / 16) c h)

-- ---- marks counted

mark-le : (h c : ℕ) → cond (eqb h c) 1 0 ≤ 1
mark-le h c = elim (ℕ_discrete h c) [ yes e ↦ rw (eq-eqb h c e) (omega arith) | no e ↦ rw (ne_eqb h c e) (omega arith) ]

marks-lt : (c : ℕ) (hs : List ℕ) → half_marks c hs < 16 ^ length hs
unfolding half_marks
marks-lt c [] = omega arith
marks-lt c (h ∷ hs) = omega (arith, mark-le h c, marks-lt c hs, pow-succ' 16 (length hs))

marks-split : (c n : ℕ) (hs : List ℕ) → n ≤ length hs → half_marks c hs ≡ half_marks c (take n hs) + 16 ^ n * half_marks c (drop n hs)
unfolding half_marks
marks-split c zero hs l = omega arith
marks-split c (suc n) [] l = absurd (omega arith)
marks-split c (suc n) (h ∷ hs) l =
    let m = half_marks c (drop n hs) in
    omega (arith, marks-split c n hs (omega arith), ap (λ (k : ℕ). k * m) (pow-succ' 16 n), mul_assoc 16 (16 ^ n) m)

marks-ones : (c : ℕ) (hs : List ℕ) → ones (half_marks c hs) ≡ copies c hs
unfolding half_marks
marks-ones c [] = unfold copies in unfold ones in refl
marks-ones c (h ∷ hs) = elim (ℕ_discrete h c) [
  | yes e ↦ rw (eq-eqb h c e) (ap ones (omega arith) ∙ ones_cat 4 (half_marks c hs) 1 (omega arith)
      ∙ omega (arith, one, marks-ones c hs, copies-cons c h hs, hit-equal c h (sym e)))
  | no e ↦ rw (ne_eqb h c e) (ap ones (omega arith) ∙ ones_cat 4 (half_marks c hs) 0 (omega arith)
      ∙ omega (arith, none, marks-ones c hs, copies-cons c h hs, hit_other c h (λ q. e (sym q))))
]
  where
    one : ones 1 ≡ 1
    one = unfold ones in refl

    none : ones 0 ≡ 0
    none = unfold ones in refl

four-bits : (n : ℕ) → 2 ^ (4 * n) ≡ 16 ^ n
four-bits zero = refl
four-bits (suc n) =
    let e : 4 * suc n ≡ suc (suc (suc (suc (4 * n)))) = omega arith in
    rw e (omega (
      arith,
      pow-succ' 2 (suc (suc (suc (4 * n)))),
      pow-succ' 2 (suc (suc (4 * n))),
      pow-succ' 2 (suc (4 * n)),
      pow-succ' 2 (4 * n),
      pow-succ' 16 n,
      four-bits n,
    ))

-- the marks of the first n halves
pub marks-count : (c n : ℕ) (hs : List ℕ) → n ≤ length hs → ones (bit_and (half_marks c hs) (2 ^ (4 * n) - 1)) ≡ copies c (take n hs)
marks-count c n hs l =
    let small : half_marks c (take n hs) < 16 ^ n = rw (length-take-le n hs l) at (marks-lt c (take n hs)) in
    let low : half_marks c hs % 16 ^ n ≡ half_marks c (take n hs) =
    ap (λ (k : ℕ). k % 16 ^ n) (marks-split c n hs l) ∙ add-mul-mod_self_left (half_marks c (take n hs)) (16 ^ n) (half_marks c (drop n hs))
    ∙ mod-eq_of_lt small in
    ap ones (and_mask (half_marks c hs) (4 * n) ∙ rw (four-bits n) low) ∙ marks-ones c (take n hs)

-- the mask of n halves
pub mask_is : (n : ℕ) → n < 16 → 1 * 2 ^ (4 * n) % 2 ^ 64 ≡ 2 ^ (4 * n)
mask_is n h = let l : 2 ^ (4 * n) < 2 ^ 64 = pow-lt {i = 4 * n} {j = 64} (omega arith) in ap (λ (k : ℕ). k % 2 ^ 64) (omega arith) ∙ mod-eq_of_lt l

-- ---- bytes as halves

pub digits-bytes : (bs : List ℕ) → Below 256 bs → digits 16 (length bs * 2) (value 256 bs) ≡ spread 16 2 bs
unfolding digits value spread
digits-bytes [] b = refl
digits-bytes (d ∷ bs) b =
    let n : suc (length bs) * 2 ≡ suc (suc (length bs * 2)) = omega arith in
    let w = d + 256 * value 256 bs in
    let low : w % 16 ≡ d % 16 = omega arith in
    let up : w / 16 ≡ d / 16 + 16 * value 256 bs = omega arith in
    let high : w / 16 % 16 ≡ d / 16 % 16 = ap (λ (k : ℕ). k % 16) up ∙ add-mul-mod_self_left (d / 16) 16 (value 256 bs) in
    let rest : w / 16 / 16 ≡ value 256 bs = omega (arith, up, b.0) in
    rw (n, low, high, rest, digits-bytes bs b.1)

pub spread-take : (k n : ℕ) (bs : List ℕ) → k ≤ n * 2 → take k (spread 16 2 (take n bs)) ≡ take k (spread 16 2 bs)
unfolding spread digits
spread-take zero n bs h = refl
spread-take (suc k) zero bs h = absurd (omega arith)
spread-take (suc k) (suc n) [] h = refl
spread-take (suc zero) (suc n) (d ∷ bs) h = refl
spread-take (suc (suc k)) (suc n) (d ∷ bs) h =
    ap (λ (l : List ℕ). d % 16 ∷ d / 16 % 16 ∷ l) (spread-take k n bs (omega arith))

pub spread-drop : (n : ℕ) (bs : List ℕ) → spread 16 2 (drop n bs) ≡ drop (n * 2) (spread 16 2 bs)
unfolding spread digits
spread-drop zero bs = refl
spread-drop (suc n) [] = sym (drop-nil (suc n * 2))
spread-drop (suc n) (d ∷ bs) = let e : suc n * 2 ≡ suc (suc (n * 2)) = omega arith in rw e (spread-drop n bs)

-- ---- the crumbs of a bucket

-- the members of a list that carry a crumb, by the halves that hold their crumbs
pub carrying-halves : (c k : ℕ) (ys hs : List ℕ) → k ≤ length ys → k ≤ length hs → ((i : ℕ) → i < length ys → get_or hs i 0 ≡ get_or ys i 0 % 16)
    → length (carrying c (take k ys)) ≡ copies c (take k hs)
carrying-halves c zero ys hs l m same = unfold copies in unfold carrying in refl
carrying-halves c (suc k) ys hs l m same =
    let h : get_or hs k 0 ≡ get_or ys k 0 % 16 = same k (omega arith) in
    carrying-on c k ys (omega arith)
    ∙ rw (take-suc hs k 0 (omega arith), ← h)
    (omega (
      arith,
      carrying-halves c k ys hs (omega arith) (omega arith) same,
      copies-append c (take k hs) (get_or hs k 0 ∷ []),
      copies-cons c (get_or hs k 0) [],
      none,
      swap (get_or hs k 0) c,
    ))
  where
    none : copies c [] ≡ 0
    none = unfold copies in refl

    swap : (x y : ℕ) → hit x y ≡ hit y x
    swap x y = elim (ℕ_discrete x y) [
      | yes e ↦ hit-equal x y e ∙ sym (hit-equal y x (sym e))
      | no e ↦ hit_other x y e ∙ sym (hit_other y x (λ q. e (sym q)))
    ]

-- counted in two parts, the second from half m on
pub copies-parts : (c m n near : ℕ) (hs : List ℕ) → (near ≡ m) ⊎ (near ≡ n) → near ≤ n
    → copies c (take near hs) + copies c (take (n - near) (drop m hs)) ≡ copies c (take n hs)
copies-parts c m n near hs (inl e) l =
    let k : n ≡ near + (n - near) = omega arith in
    sym (ap (λ (i : ℕ). copies c (take i hs)) k ∙ ap (copies c) (take-add near (n - near) hs) ∙ copies-append c (take near hs) (take (n - near) (drop near hs))
    ∙ rw e)
copies-parts c m n near hs (inr e) l = let z : n - near ≡ 0 = omega arith in rw (z, e) (unfold copies in omega arith)

-- the first halves of eight bytes read as one number
word-halves : (from k : ℕ) (b : List ℕ) → Below 256 b → from + 8 ≤ length b → k ≤ 16
    → take k (digits 16 16 (value 256 (take 8 (take (length b - from) (drop from b))))) ≡ take k (spread 16 2 (drop from b))
word-halves from k b p h l =
    let all : take (length b - from) (drop from b) ≡ drop from b = take_all (length b - from) (drop from b) (omega (arith, length-drop from b)) in
    let long : length (take 8 (drop from b)) ≡ 8 = length-take-le 8 (drop from b) (omega (arith, length-drop from b)) in
    let e = digits-bytes (take 8 (drop from b)) (below-take 256 8 (drop from b) (below-drop 256 from b p)) in
    rw all (ap (take k) (rw long at e) ∙ spread-take k 8 (drop from b) l)

-- fewer of the others than a number has halves
pub far-few : (many near : ℕ) → many ≤ 22 → (8 ≤ many → near ≡ 8) → many - near < 16
far-few many near l full = elim (dec_le 8 many) [ yes m ↦ omega (arith, full m) | no m ↦ omega arith ]

-- the members that carry a crumb, by the two numbers that hold the crumbs of the first eight slots and of the others
pub halves-counted : (c near many from : ℕ) (b ys : List ℕ) → Below 256 b → from + 12 ≤ length b → many ≡ length ys → many ≤ 22
    → near ≤ 8 → near ≤ many → (many < 8 → near ≡ many) → (8 ≤ many → near ≡ 8)
    → ((i : ℕ) → i < length ys → get_or (spread 16 2 (drop from b)) i 0 ≡ get_or ys i 0 % 16)
    → {low high x y : ℕ} → low ≡ value 256 (take 8 (take (length b - from) (drop from b)))
    → high ≡ value 256 (take 8 (take (length b - (from + 4)) (drop (from + 4) b)))
    → x ≡ copies c (take near (digits 16 16 low)) → y ≡ copies c (take (many - near) (digits 16 16 high)) → x + y ≡ length (carrying c ys)
halves-counted c near many from b ys p h e l small less few full same u v x-is y-is =
    let hs = spread 16 2 (drop from b) in
    let far : spread 16 2 (drop (from + 4) b) ≡ drop 8 hs = ap (spread 16 2) (sym (drop-drop 4 from b)) ∙ spread-drop 4 (drop from b) in
    let near-far : (near ≡ 8) ⊎ (near ≡ many) = elim (dec_le 8 many) [ yes m ↦ inl (full m) | no m ↦ inr (few (omega arith)) ] in
    let long : length hs ≡ length (drop from b) * 2 = length-spread 16 2 (drop from b) in
    let all : take many ys ≡ ys = take_all many ys (omega arith) in
    rw (x-is, y-is, u, v, word-halves from near b p (omega arith) (omega arith), word-halves (from + 4) (many - near) b p (omega arith) (omega (arith, far-few many near l full)), far)
    (copies-parts c 8 many near hs near-far less
    ∙ sym (carrying-halves c many ys hs (omega arith) (omega (arith, long, length-drop from b)) same) ∙ rw all)
