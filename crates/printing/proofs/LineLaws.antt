-- Lines as they are written: the columns of a number from the last to the first, and pieces one behind the other.
-- Main results: `aligned-more`, `aligned-last`, `blanks-before`, the turns of a number; `stands-next`, `stands-piece`, `stands-part`,
-- `stands_set`, one piece more; `stands-all`, an output that is covered.
use mathlib.Core.Path.{◌≡◌, refl, ◌∙◌}
use Prim.Native.Nat.{ℕ, zero, suc, ◌+◌, ◌/◌, ◌%◌, ◌-◌, ◌≤◌, ◌<◌}
use mathlib.Core.List.{List, [], ◌∷◌, ◌++◌, append_assoc}
use native.Mathlib.Omega.{arith}
use lib.ListN.{length, take, drop, set, replicate, length-append, length-replicate}
use lib.Seq.{length-take-le}
use borrow.Author.Tests.{lt-ltb, le-ltb}
use borrow.Rule.Slice.PartMut.{put_mid}
use Rattle.crumbmap.specs.Layouts.{Layout}
use Rattle.machine.specs.OccupancyPages.{aligned, column, line_bytes, bar, line}
use Rattle.machine.proofs.OccupancyLaws.{length-aligned, length-column, length-bar}
use Rattle.text.specs.Texts.{over}
use Rattle.text.proofs.TextLaws.{stands-before}
use Rattle.text.proofs.PrintLaws.{over-next, over-set, over-part, over-written, over-all, over_nothing, length_over}

-- ---- a number

-- one digit more in front of those that stand: with others to come, or the last
pub aligned-more : (n number i v : ℕ) (out : List ℕ) → 0 < i → i ≤ length out → 10 ≤ v → aligned n number ≡ aligned i v ++ drop i out
    → aligned n number ≡ aligned (i - 1) (v / 10) ++ drop (i - 1) (set out (i - 1) (48 + v % 10))
unfolding aligned
aligned-more n number zero v out p h l q = absurd (omega arith)
aligned-more n number (suc i) v out p h l q =
    let j : suc i - 1 ≡ i = omega arith in
    (rw (le-ltb v 10 l) at q) ∙ rw j (stands-before (aligned i (v / 10)) out i (48 + v % 10) (omega arith))

pub aligned-last : (n number i v : ℕ) (out : List ℕ) → 0 < i → i ≤ length out → v < 10 → aligned n number ≡ aligned i v ++ drop i out
    → aligned n number ≡ replicate {A = ℕ} (i - 1) 32 ++ drop (i - 1) (set out (i - 1) (48 + v % 10))
unfolding aligned
aligned-last n number zero v out p h l q = absurd (omega arith)
aligned-last n number (suc i) v out p h l q =
    let j : suc i - 1 ≡ i = omega arith in
    (rw (lt-ltb v 10 l) at q) ∙ rw j (stands-before (replicate {A = ℕ} i 32) out i (48 + v % 10) (omega arith))

-- blanks in front of what stands
pub blanks-before : (j : ℕ) (xs ys : List ℕ) → j ≤ length xs → ys ≡ replicate {A = ℕ} (length (take j xs)) 32
    → ys ++ drop j xs ≡ replicate {A = ℕ} j 32 ++ drop j xs
blanks-before j xs ys h e = rw (e, length-take-le j xs h)

-- ---- pieces

-- p stands at the start of the output that was xs, m bytes of it; the rest is as it was
pub record Stands (xs p : List ℕ) (m : ℕ) (ys : List ℕ) : Type 0 where
  pub long : length p ≡ m
  pub text : ys ≡ over 0 p xs

pub stands-none : (xs : List ℕ) → Stands xs [] 0 xs
stands-none xs = record { long = refl; text = over_nothing 0 xs }

module _ {xs p ys : List ℕ} {m : ℕ} (s : Stands xs p m ys) where
  pub stands-length : m ≤ length xs → length ys ≡ length xs
  stands-length h = rw s.text (length_over 0 p xs (omega (arith, s.long)))

  -- a piece behind it, as it was written; in a part of its length; into the whole of a part; one byte
  pub stands-next : (q zs : List ℕ) (d : ℕ) → length q ≡ d → zs ≡ over m q ys → Stands xs (p ++ q) (m + d) zs
  stands-next q zs d e f = record {
    long = rw (length-append p q, s.long, e);
    text = f ∙ rw s.text (over-next 0 m p q xs (omega (arith, s.long)) (omega arith));
  }

  pub stands-piece : (q r : List ℕ) (d : ℕ) → length q ≡ d → r ≡ q → Stands xs (p ++ q) (m + d) (put_mid m d ys r)
  stands-piece q r d e f = stands-next q _ d e (rw f (over-part m d q ys e))

  pub stands-part : (w : ℕ → List ℕ) → ((n : ℕ) → length (w n) ≡ n) → (d : ℕ) (q : List ℕ) → m + d ≤ length xs
      → q ≡ w (length (take d (drop m ys))) → Stands xs (p ++ w d) (m + d) (put_mid m d ys q)
  stands-part w long d q h e =
      stands-next (w d) _ d (long d) (over-written w long m d ys q (omega (arith, stands-length (omega arith))) e)

  pub stands_set : (v : ℕ) → m < length xs → Stands xs (p ++ (v ∷ [])) (m + 1) (set ys m v)
  stands_set v h = stands-next (v ∷ []) _ 1 refl (over-set m v ys (omega (arith, stands-length (omega arith))))

  pub stands-all : m ≡ length xs → ys ≡ p
  stands-all e = s.text ∙ over-all p xs (s.long ∙ e)

-- a number in a part of the output, and the blank behind it
pub over-column : (at w v : ℕ) (xs ys : List ℕ) → at + w < length xs → ys ≡ aligned (length (take (at + w - at) (drop at xs))) v
    → set (put_mid at (at + w - at) xs ys) (at + w) 32 ≡ over at (column w v) xs
unfolding column
over-column at w v xs ys h e =
    let k : at + w - at ≡ w = omega arith in
    let p : put_mid at w xs ys ≡ over at (aligned w v) xs =
    over-written (λ (n : ℕ). aligned n v) (λ n. length-aligned n v) at w xs ys (omega arith) (rw k at e) in
    let l : length (aligned w v) ≡ w = length-aligned w v in
    let i : at + w < length (over at (aligned w v) xs) = rw (length_over at (aligned w v) xs (omega arith)) h in
    rw (k, p) (over-set (at + w) 32 (over at (aligned w v) xs) i ∙ over-next at (at + w) (aligned w v) (32 ∷ []) xs (omega arith) (omega arith))

-- the two parts of a bar
module _ (L : Layout) (n : ℕ) (xs : List ℕ) (l : length xs ≡ L.front_slots) (h : n ≤ L.front_slots) where
  dots : (ys b : List ℕ) → Stands xs (replicate {A = ℕ} n 35) n ys → b ≡ replicate {A = ℕ} (length (take (length ys - n) (drop n ys))) 46
      → put_mid n (length ys - n) ys b ≡ bar L n
  unfolding bar
  dots ys b s e =
      let d : length ys - n ≡ L.front_slots - n = omega (arith, stands-length s (omega arith)) in
      rw d
      (stands-all
      (stands-part s (λ (m : ℕ). replicate {A = ℕ} m 46) (λ m. length-replicate {A = ℕ} m 46) (L.front_slots - n) b (omega arith) (rw d at e))
      (omega arith))

  pub bar-filled : (a b : List ℕ) → a ≡ replicate {A = ℕ} (length (take n xs)) 35
      → let ys = a ++ drop n xs in b ≡ replicate {A = ℕ} (length (take (length ys - n) (drop n ys))) 46
      → put_mid n (length ys - n) ys b ≡ bar L n
  bar-filled a b e f =
      let z : 0 + n ≡ n = omega arith in
      let s = stands-part (stands-none xs) (λ (m : ℕ). replicate {A = ℕ} m 35) (λ m. length-replicate {A = ℕ} m 35) n a (omega arith) e in
      dots (a ++ drop n xs) b (rw z at s) f

-- the pieces of a line
pub line-written : (L : Layout) (f n far : ℕ) (xs ys zs ws r : List ℕ) → length xs ≡ line_bytes L → n ≤ L.front_slots → ys ≡ over 0 (column 6 f) xs
    → zs ≡ over 7 (column 2 n) ys → ws ≡ over 10 (column 2 far) zs → r ≡ bar L n
    → set (put_mid 13 L.front_slots ws r) (13 + L.front_slots) 10 ≡ line L f n far
unfolding line
line-written L f n far xs ys zs ws r l h d e g k =
    let a = stands-next (stands-none xs) (column 6 f) ys 7 (length-column 6 f) d in
    let b = stands-next a (column 2 n) zs 3 (length-column 2 n) e in
    let c = stands-next b (column 2 far) ws 3 (length-column 2 far) g in
    let t = stands-piece c (bar L n) r L.front_slots (length-bar L n h) k in
    stands-all (stands_set t 10 (omega arith)) (omega arith) ∙ simp append_assoc
