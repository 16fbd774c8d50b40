-- A 64-byte stretch of an image written: it is read back, every other one is as it was, the length stays; one written twice, one written
-- as it was, and two written in either order. Main results: `bucket_at-put`, `bucket_at-put-other`, `put-put`, `put_same`, `put-commute`.
use mathlib.Core.Path.{◌≡◌, refl, sym, ap, ◌∙◌}
use mathlib.Core.Bool.{Bool, true, false}
use Prim.Native.Nat.{ℕ, suc, ◌+◌, ◌*◌, ◌-◌, ◌≤◌, ◌<◌}
use mathlib.Core.List.{List, ◌++◌, append_assoc}
use native.Mathlib.Omega.{arith}
use lib.ListN.{length, take, drop, length-append, length-take, length-drop, take-append-drop}
use lib.Seq.{length-take-le, take_at, drop_at, drop-drop, take-append-le, drop-append-le, drop-append-add}
use lib.Dec.{ltb}
use borrow.Author.Tests.{ltb-true, ltb-false}
use Rattle.machine.specs.Images.{bucket_at, put}

-- a bucket of a list's first part, and one past it
pub bucket_at-head : (k : ℕ) (p q : List ℕ) → 64 * k + 64 ≤ length p → bucket_at k (p ++ q) ≡ bucket_at k p
unfolding bucket_at
bucket_at-head k p q h =
    let d : 64 ≤ length (drop (64 * k) p) = simp length-drop (omega arith) in
    rw (drop-append-le (64 * k) p q (omega arith)) (take-append-le 64 (drop (64 * k) p) q d)

pub bucket_at-past : (k i : ℕ) (p q : List ℕ) → length p + 64 * i ≡ 64 * k → bucket_at k (p ++ q) ≡ bucket_at i q
unfolding bucket_at
bucket_at-past k i p q e = rw (← e, drop-append-add p q (64 * i))

pub length-put : (i : ℕ) (b img : List ℕ) → length b ≡ 64 → 64 * i + 64 ≤ length img → length (put i b img) ≡ length img
unfolding put
length-put i b img h l = simp (length-append, length-take, length-drop) (omega arith)

pub bucket_at-put : (i : ℕ) (b img : List ℕ) → length b ≡ 64 → 64 * i + 64 ≤ length img → bucket_at i (put i b img) ≡ b
unfolding bucket_at put
bucket_at-put i b img h l =
    rw (drop_at (take (64 * i) img) (b ++ drop (64 * i + 64) img) (64 * i) (length-take-le (64 * i) img (omega arith)))
    (take_at b (drop (64 * i + 64) img) 64 h)

pub bucket_at-put-other : (i k : ℕ) (b img : List ℕ) → length b ≡ 64 → 64 * i + 64 ≤ length img → (i ≡ k → ⊥)
    → bucket_at k (put i b img) ≡ bucket_at k img
unfolding put
bucket_at-put-other i k b img h l n = go (ltb k i) refl
  where
    head : List ℕ
    head = take (64 * i) img

    left : length head ≡ 64 * i
    left = length-take-le (64 * i) img (omega arith)

    go : (t : Bool) → ltb k i ≡ t → bucket_at k (put i b img) ≡ bucket_at k img
    go true e =
        let c : 64 * k + 64 ≤ length head = omega (arith, left, ltb-true k i e) in
        bucket_at-head k head (b ++ drop (64 * i + 64) img) c ∙ sym (bucket_at-head k head (drop (64 * i) img) c)
        ∙ rw (take-append-drop (64 * i) img)
    go false e =
        let c : i < k = omega (arith, ltb-false k i e) in
        let m : ℕ = k - suc i in
        let d : 64 * i + 64 + 64 * m ≡ 64 * k = omega arith in
        ap (bucket_at k) (sym (append_assoc head b (drop (64 * i + 64) img)))
        ∙ bucket_at-past k m (head ++ b) (drop (64 * i + 64) img) (rw (length-append head b) (omega (arith, left)))
        ∙ sym (bucket_at-past k m (take (64 * i + 64) img) (drop (64 * i + 64) img) (omega (arith, length-take-le (64 * i + 64) img l)))
        ∙ rw (take-append-drop (64 * i + 64) img)

pub put-put : (i : ℕ) (a b img : List ℕ) → length b ≡ 64 → 64 * i + 64 ≤ length img → put i a (put i b img) ≡ put i a img
unfolding put
put-put i a b img h l =
    let n : length (take (64 * i) img) ≡ 64 * i = length-take-le (64 * i) img (omega arith) in
    let q = drop (64 * i + 64) img in
    rw (
      take_at (take (64 * i) img) (b ++ q) (64 * i) n,
      sym (drop-drop 64 (64 * i) (take (64 * i) img ++ (b ++ q))),
      drop_at (take (64 * i) img) (b ++ q) (64 * i) n,
      drop_at b q 64 h,
    )

pub put_same : (i : ℕ) (img : List ℕ) → put i (bucket_at i img) img ≡ img
unfolding put bucket_at
put_same i img = rw (sym (drop-drop 64 (64 * i) img), take-append-drop 64 (drop (64 * i) img)) (take-append-drop (64 * i) img)

-- ---- two buckets written in either order

module _ (p x z : List ℕ) where
  put-parts : (i : ℕ) (b : List ℕ) → length p ≡ 64 * i → length x ≡ 64 → put i b (p ++ (x ++ z)) ≡ p ++ (b ++ z)
  unfolding put
  put-parts i b h k =
      let past : drop (64 * i + 64) (p ++ (x ++ z)) ≡ z =
      ap (drop (64 * i + 64)) (sym (append_assoc p x z)) ∙ drop_at (p ++ x) z (64 * i + 64) (rw (length-append p x) (omega arith)) in
      rw (take_at p (x ++ z) (64 * i) h, past)

put-deep : (p x q y r : List ℕ) (k : ℕ) (d : List ℕ) → length p + length x + length q ≡ 64 * k → length y ≡ 64
    → put k d (p ++ (x ++ (q ++ (y ++ r)))) ≡ p ++ (x ++ (q ++ (d ++ r)))
put-deep p x q y r k d h l =
    ap (put k d) (deep (y ++ r)) ∙ put-parts (p ++ (x ++ q)) y r k d (rw (length-append p (x ++ q), length-append x q) (omega arith)) l ∙ sym (deep (d ++ r))
  where
    deep : (z : List ℕ) → p ++ (x ++ (q ++ z)) ≡ (p ++ (x ++ q)) ++ z
    deep z = ap (λ (l : List ℕ). p ++ l) (sym (append_assoc x q z)) ∙ sym (append_assoc p (x ++ q) z)

pub put-commute : (i k : ℕ) (b d img : List ℕ) → length b ≡ 64 → length d ≡ 64 → i < k → 64 * k + 64 ≤ length img
    → put i b (put k d img) ≡ put k d (put i b img)
put-commute i k b d img h l lt inside =
    rw parts (ap (put i b) (put-deep p x q y r k d (omega (arith, long-p, long-x, long-q)) long-y)
    ∙ put-parts p x (q ++ (d ++ r)) i b long-p long-x
    ∙ sym (put-deep p b q y r k d (omega (arith, long-p, long-q)) long-y)
    ∙ sym (ap (put k d) (put-parts p x (q ++ (y ++ r)) i b long-p long-x)))
  where
    gap : ℕ
    gap = 64 * k - (64 * i + 64)

    p : List ℕ
    p = take (64 * i) img

    one : List ℕ
    one = drop (64 * i) img

    x : List ℕ
    x = take 64 one

    two : List ℕ
    two = drop 64 one

    q : List ℕ
    q = take gap two

    three : List ℕ
    three = drop gap two

    y : List ℕ
    y = take 64 three

    r : List ℕ
    r = drop 64 three

    long-one : length one ≡ length img - 64 * i
    long-one = length-drop (64 * i) img

    long-two : length two ≡ length one - 64
    long-two = length-drop 64 one

    long-three : length three ≡ length two - gap
    long-three = length-drop gap two

    long-p : length p ≡ 64 * i
    long-p = length-take-le (64 * i) img (omega arith)

    long-x : length x ≡ 64
    long-x = length-take-le 64 one (omega (arith, long-one))

    long-q : length q ≡ gap
    long-q = length-take-le gap two (omega (arith, long-one, long-two))

    long-y : length y ≡ 64
    long-y = length-take-le 64 three (omega (arith, long-one, long-two, long-three))

    parts : img ≡ p ++ (x ++ (q ++ (y ++ r)))
    parts = sym (ap (λ (l : List ℕ). p ++ (x ++ (q ++ l))) (take-append-drop 64 three)
        ∙ ap (λ (l : List ℕ). p ++ (x ++ l)) (take-append-drop gap two)
        ∙ ap (λ (l : List ℕ). p ++ l) (take-append-drop 64 one)
        ∙ take-append-drop (64 * i) img)
