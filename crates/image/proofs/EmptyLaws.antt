-- The empty image, bucket after bucket: one more bucket is cleared (`cleared_more`), and all of them are the empty image (`cleared-all`), where
-- an empty backyard bucket has an empty front bucket's bytes, as at layout 1 (`empty-back1`).
use mathlib.Core.Path.{◌≡◌, refl, sym, ◌∙◌, ap}
use Prim.Native.Nat.{ℕ, zero, suc, ◌+◌, ◌*◌}
use mathlib.Core.List.{List, [], ◌++◌, append_assoc, append-nil}
use native.Mathlib.Nat.{zero-add, suc-add}
use native.Mathlib.Omega.{arith}
use lib.ListN.{length, drop}
use lib.Seq.{take_at, drop_at, drop-drop}
use Rattle.multiset.specs.Multisets.{copies}
use Rattle.multiset.specs.Digits.{digits, value, spread, grouped, padded}
use Rattle.crumbmap.specs.Layouts.{Layout, layout1, fronts, backyards}
use Rattle.buckets.specs.Words.{word_from}
use Rattle.buckets.specs.Buckets.{slot_bytes, front_bytes, back_bytes}
use Rattle.machine.specs.Images.{put, repeated, empty_image}
use Rattle.machine.proofs.ImageLaws.{length-repeated}

repeated-add : (n m : ℕ) (b : List ℕ) → repeated (n + m) b ≡ repeated n b ++ repeated m b
unfolding repeated
repeated-add zero m b = rw (zero-add m)
repeated-add (suc n) m b = rw (suc-add n m, repeated-add n m b) (sym (append_assoc b (repeated n b) (repeated m b)))

pub cleared-all : (L : Layout) → back_bytes L [] ≡ front_bytes L [] → (B : ℕ) → repeated (9 * B + 7) (front_bytes L []) ≡ empty_image L B
unfolding empty_image fronts backyards
cleared-all L same B =
    let e : 9 * B + 7 ≡ 8 * B + (B + 7) = omega arith in
    rw (e, same) (repeated-add (8 * B) (B + 7) (front_bytes L []))

-- a bucket is written right after those that are
put_next : (i : ℕ) (xs b img : List ℕ) → length xs ≡ 64 * i → put i b (xs ++ drop (64 * i) img) ≡ (xs ++ b) ++ drop (64 * i + 64) img
unfolding put
put_next i xs b img h =
    rw (
      take_at xs (drop (64 * i) img) (64 * i) h,
      sym (drop-drop 64 (64 * i) (xs ++ drop (64 * i) img)),
      drop_at xs (drop (64 * i) img) (64 * i) h,
      drop-drop 64 (64 * i) img,
    ) (sym (append_assoc xs b (drop (64 * i + 64) img)))

pub cleared_more : (i : ℕ) (b img : List ℕ) → length b ≡ 64 → put i b (repeated i b ++ drop (64 * i) img) ≡ repeated (i + 1) b ++ drop (64 * (i + 1)) img
unfolding repeated
cleared_more i b img h =
    let e : repeated (i + 1) b ≡ repeated i b ++ b = repeated-add i 1 b ∙ ap (λ (l : List ℕ). repeated i b ++ l) (append-nil b) in
    let d : 64 * (i + 1) ≡ 64 * i + 64 = omega arith in
    rw (e, d) (put_next i (repeated i b) b img (length-repeated i b h))

-- ---- layout 1

pub empty-back1 : back_bytes layout1 [] ≡ front_bytes layout1 []
unfolding front_bytes back_bytes slot_bytes digits value spread grouped padded word_from copies
empty-back1 = refl
