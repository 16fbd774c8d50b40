-- Hex digits one by one: written from the last to the first, read from the first to the last.
use mathlib.Core.Path.{◌≡◌, refl, ◌∙◌}
use Prim.Native.Nat.{ℕ, zero, suc, ◌+◌, ◌*◌, ◌/◌, ◌%◌, ◌-◌, ◌^◌, ◌≤◌, ◌<◌}
use mathlib.Core.Bool.{Bool, true, false, cond, ◌&&◌}
use mathlib.Core.List.{List, [], ◌∷◌, ◌++◌, append_assoc}
use mathlib.Core.Option.{Option, none, some, bind}
use native.Mathlib.Omega.{arith}
use Rattle.std.specs.Prelude as S
use native.Mathlib.Nat.{pow-suc, pow-le-pow_right}
use native.Mathlib.Numerals.{add-one}
use lib.ListN.{length, drop, get_or, set, length-set}
use lib.Seq.{drop-cons, get_or-set_same, drop-set-lt}
use lib.Dec.{leb}
use borrow.Author.Tests.{leb-true}
use Rattle.text.specs.Texts.{letter, digit_of, hex, unhex}
use Rattle.text.specs.Lines.{digits_of}

-- a byte that is stored in front of those that stand, behind a text w that is still to write
pub stands-before : (w out : List ℕ) (i d : ℕ) → i < length out → (w ++ (d ∷ [])) ++ drop (suc i) out ≡ w ++ drop i (set out i d)
stands-before w out i d h =
    let l : i < length (set out i d) = rw (length-set out i d) h in
    append_assoc w (d ∷ []) (drop (suc i) out)
    ∙ rw (drop-cons (set out i d) i 0 l, get_or-set_same out i d 0 h, drop-set-lt (suc i) out i d (omega arith))

-- one digit more is written in front of those that stand
pub hex-written : (n number i v d : ℕ) (out : List ℕ) → 0 < i → i ≤ length out → d ≡ letter (v % 16) → hex n number ≡ hex i v ++ drop i out
    → hex n number ≡ hex (i - 1) (v / 16) ++ drop (i - 1) (set out (i - 1) d)
unfolding hex
hex-written n number zero v d out p h e q = absurd (omega arith)
hex-written n number (suc i) v d out p h e q =
    let j : suc i - 1 ≡ i = omega arith in
    q ∙ rw (j, e) (stands-before (hex i (v / 16)) out i (letter (v % 16)) (omega arith))

-- reading: the number of all is the number of what is left behind what is read
pub unhex-read : (i v d : ℕ) (text : List ℕ) → i < length text → digit_of (get_or text i 0) ≡ some d
    → unhex v (drop i text) ≡ unhex (v * 16 + d) (drop (i + 1) text)
unfolding unhex bind
unhex-read i v d text h e = rw (add-one, drop-cons text i 0 h, e)

pub unhex-stopped : (i v : ℕ) (text : List ℕ) → i < length text → digit_of (get_or text i 0) ≡ none → unhex v (drop i text) ≡ none
unfolding unhex bind
unhex-stopped i v text h e = rw (drop-cons text i 0 h, e)

-- a number of i digits with one digit behind it has one digit more
pub digit-fits : (i v d : ℕ) → v < 16 ^ i → d < 16 → v * 16 + d < 16 ^ (i + 1)
digit-fits i v d h l = rw (add-one, pow-suc 16 i) (omega arith)

pub digit_room : (i v d : ℕ) → i < 16 → v < 16 ^ i → d < 16 → v * 16 + d < 2 ^ 64
digit_room i v d l h k = let p : i + 1 ≤ 16 = omega arith in omega (arith, digit-fits i v d h k, pow-le-pow_right {n = 16} (omega arith) p)

-- what a byte's digit says
pub digit-some : (o : Option ℕ) (d : ℕ) → digits_of o ≡ S.Some d → o ≡ some d
digit-some none d e = let z : ◌≡◌ {A = ℕ} 0 1 = cc in absurd (omega arith)
digit-some (some v) d e = cc

pub digit-none : (o : Option ℕ) → digits_of o ≡ S.None → o ≡ none
digit-none none e = refl
digit-none (some v) e = let z : ◌≡◌ {A = ℕ} 0 1 = cc in absurd (omega arith)

pub digit_of-lt : (b d : ℕ) → digit_of b ≡ some d → d < 16
unfolding digit_of
digit_of-lt b d e = go (leb 48 b) (leb b 57) (leb 65 b) (leb b 70) (leb-true b 57) (leb-true b 70) e
  where
    go : (p q r s : Bool) → (q ≡ true → b ≤ 57) → (s ≡ true → b ≤ 70)
        → cond (p && q) (some (b - 48)) (cond (r && s) (some (b - 55)) none) ≡ some d → d < 16
    go true true r s h k g = let x : b - 48 ≡ d = cc in omega (arith, h refl)
    go true false true true h k g = let x : b - 55 ≡ d = cc in omega (arith, k refl)
    go true false true false h k g = let z : ◌≡◌ {A = ℕ} 0 1 = cc in absurd (omega arith)
    go true false false s h k g = let z : ◌≡◌ {A = ℕ} 0 1 = cc in absurd (omega arith)
    go false q true true h k g = let x : b - 55 ≡ d = cc in omega (arith, k refl)
    go false q true false h k g = let z : ◌≡◌ {A = ℕ} 0 1 = cc in absurd (omega arith)
    go false q false s h k g = let z : ◌≡◌ {A = ℕ} 0 1 = cc in absurd (omega arith)
