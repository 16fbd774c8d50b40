-- The two parts of an image, the body and the tail, each lent and come back. Main results:
-- `two-words`; `body-part`, `tail-part`; `end-written`, `end-lent`.
use mathlib.Core.Path.{◌≡◌, ◌∙◌}
use Prim.Native.Nat.{ℕ, ◌-◌}
use mathlib.Core.List.{List, ◌++◌, append-nil}
use native.Mathlib.Omega.{arith}
use native.Mathlib.Nat.{add-sub_cancel_left}
use lib.ListN.{length, take, drop, length-drop, length-append, drop_of_length-le}
use lib.Seq.{take_all, take_at, drop_at, drop-drop, take-append_seam, drop-append_seam, take-length, drop-length}
use borrow.Rule.Slice.PartMut.{put_mid}
use Rattle.form.specs.Tails.{body, rest}

-- eight bytes at the start, and then eight of what is behind them
pub two-words : (xs ys b : List ℕ) {p q : List ℕ} → length xs ≡ 8 → length b ≡ 64 → p ≡ xs ++ drop 8 b → q ≡ ys ++ drop 8 (take 56 (drop 8 p))
    → put_mid 8 56 p q ≡ xs ++ (ys ++ drop 16 b)
two-words xs ys b {p} {q} h l e f =
    let n : length (drop 8 b) ≡ 56 = length-drop 8 b ∙ omega arith in
    let d : drop 8 p ≡ drop 8 b = rw e (drop_at xs (drop 8 b) 8 h) in
    let t : take 8 p ≡ xs = rw e (take_at xs (drop 8 b) 8 h) in
    let g : q ≡ ys ++ drop 16 b = f ∙ rw (d, take_all 56 (drop 8 b) (omega arith), drop-drop 8 8 b) in
    rw (t, d, g, drop_of_length-le (drop 8 b) {i = 56} (omega arith), append-nil (ys ++ drop 16 b))

module _ (img : List ℕ) {end : ℕ} (e : end ≡ length img - 64) where
  pub body-part : take end img ≡ body img
  unfolding body
  body-part = rw e

  pub rest_part : drop end img ≡ rest img
  unfolding rest
  rest_part = rw e

  -- a part that is read to the end
  pub tail-part : take (length img - end) (drop end img) ≡ rest img
  tail-part = take_all (length img - end) (drop end img) (omega (arith, length-drop end img)) ∙ rest_part

-- the end of bytes, lent and come back
pub end-written : (end : ℕ) (front back new : List ℕ) → length front ≡ end → put_mid end (length (front ++ back) - end) (front ++ back) new ≡ front ++ new
end-written end front back new e =
    let k : length (front ++ back) - end ≡ length back = rw (length-append front back, e) (add-sub_cancel_left end (length back)) in
    let d : drop end (front ++ back) ≡ back = rw (← e) (drop-append_seam front back) in
    let t : take end (front ++ back) ≡ front = rw (← e) (take-append_seam front back) in
    rw (k, d, t, drop-length back, append-nil new)

-- and as it was lent
pub end-lent : (end : ℕ) (front back : List ℕ) → length front ≡ end → take (length (front ++ back) - end) (drop end (front ++ back)) ≡ back
end-lent end front back e =
    let k : length (front ++ back) - end ≡ length back = rw (length-append front back, e) (add-sub_cancel_left end (length back)) in
    let d : drop end (front ++ back) ≡ back = rw (← e) (drop-append_seam front back) in
    rw (k, d) (take-length back)
