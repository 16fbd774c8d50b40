-- Buckets in an image: their length and bytes, the members of a bucket that was read (`in_front-read`, `in_back-read`); sizes; the empty image.
use mathlib.Core.Path.{◌≡◌, refl, sym, ap, ◌∙◌}
use mathlib.Core.Bool.{Bool, true, false, cond, ◌&&◌}
use Prim.Native.Nat.{ℕ, zero, suc, ◌+◌, ◌*◌, ◌/◌, ◌-◌, ◌≤◌, ◌<◌}
use mathlib.Core.List.{List, [], ◌++◌, append_assoc, append-nil}
use mathlib.Core.Option.{none, some}
use native.Mathlib.Omega.{arith}
use lib.ListN.{length, drop, length-append, length-take, length-drop, get_or}
use lib.Seq.{take_all}
use lib.Dec.{T, eqb, leb, eqb→eq, leb→le}
use mir.Facts.{and_yes}
use borrow.Author.Tests.{eq-eqb, le-leb}
use Rattle.multiset.specs.Multisets.{Below}
use Rattle.multiset.proofs.MultisetLaws.{below-take, below-drop, below-of-at}
use Rattle.crumbmap.specs.Layouts.{Layout, fronts, backyards}
use Rattle.buckets.specs.Buckets.{front_members, back_members, front_bytes, back_bytes}
use Rattle.buckets.proofs.BucketLaws.{ReadBack, read_back, front_list-members, back_list-members}
use Rattle.machine.specs.Results.{accepted}
use Rattle.machine.specs.Images.{length_of, size_of, bucket_at, repeated, front_at, back_at, in_front, in_back, empty_image}
use Rattle.machine.proofs.AcceptedLaws.{was-sound}
use Rattle.machine.proofs.PutLaws.{bucket_at-head, bucket_at-past}

pub length-bucket_at : (i : ℕ) (img : List ℕ) → 64 * i + 64 ≤ length img → length (bucket_at i img) ≡ 64
unfolding bucket_at
length-bucket_at i img h = simp (length-take, length-drop) (omega arith)

-- a bucket of bytes is bytes
pub below-bucket : (i : ℕ) (img : List ℕ) → ((k : ℕ) → get_or img k 0 < 256) → Below 256 (bucket_at i img)
unfolding bucket_at
below-bucket i img h = below-take 256 64 (drop (64 * i) img) (below-drop 256 (64 * i) img (below-of-at 256 img h))

-- a length that is accepted is that of its size, and the other way round
pub size_of-some : (n B : ℕ) → size_of n ≡ some B → (n ≡ length_of B) × (0 < B) × (B ≤ 65536)
unfolding size_of
size_of-some n B e = go (eqb n (length_of C) && leb 1 C && leb C 65536) (λ t. t) e
  where
    C : ℕ
    C = (n - 448) / 576

    go : (t : Bool) → (T t → T (eqb n (length_of C) && leb 1 C && leb C 65536)) → cond t (some C) none ≡ some B
        → (n ≡ length_of B) × (0 < B) × (B ≤ 65536)
    go true q s =
        let p : T (eqb n (length_of C) && leb 1 C) × T (leb C 65536) = and_yes (eqb n (length_of C) && leb 1 C) (leb C 65536) (q tt) in
        let r : T (eqb n (length_of C)) × T (leb 1 C) = and_yes (eqb n (length_of C)) (leb 1 C) p.0 in
        let c : C ≡ B = cc in
        rw (← c) (eqb→eq n (length_of C) r.0, leb→le 1 C r.1, leb→le C 65536 p.1)
    go false q s = let z : ◌≡◌ {A = ℕ} 0 1 = cc in absurd (omega arith)

pub size_of-length_of : (B : ℕ) → 0 < B → B ≤ 65536 → size_of (length_of B) ≡ some B
unfolding size_of
size_of-length_of B p h =
    let q : (length_of B - 448) / 576 ≡ B = unfold length_of in omega arith in
    rw (q, eq-eqb (length_of B) (length_of B) refl, le-leb 1 B p, le-leb B 65536 h)

-- every bucket of an image of size B lies inside it
pub front-inside : (B f : ℕ) → f < fronts B → 64 * f + 64 ≤ length_of B
unfolding fronts length_of
front-inside B f h = omega arith

pub back_inside : (B j : ℕ) → j < backyards B → 64 * (fronts B + j) + 64 ≤ length_of B
unfolding fronts backyards length_of
back_inside B j h = omega arith

pub length-repeated : (n : ℕ) (b : List ℕ) → length b ≡ 64 → length (repeated n b) ≡ 64 * n
unfolding repeated
length-repeated zero b h = refl
length-repeated (suc n) b h = rw (length-append b (repeated n b)) (omega (arith, length-repeated n b h))

bucket_at-repeated : (n i : ℕ) (b q : List ℕ) → length b ≡ 64 → i < n → bucket_at i (repeated n b ++ q) ≡ b
unfolding repeated
bucket_at-repeated zero i b q h l = absurd (omega arith)
bucket_at-repeated (suc n) zero b q h l =
    rw append_assoc (bucket_at-head 0 b (repeated n b ++ q) (omega arith) ∙ unfold bucket_at in take_all 64 b (omega arith))
bucket_at-repeated (suc n) (suc i) b q h l =
    rw append_assoc (bucket_at-past (suc i) i b (repeated n b ++ q) (omega arith) ∙ bucket_at-repeated n i b q h (omega arith))

module _ (L : Layout) where
  -- the members of a bucket that was read
  pub in_front-read : (f : ℕ) (img xs : List ℕ) → front_at L f img ≡ accepted xs → in_front L f img ≡ xs
  unfolding front_at
  in_front-read f img xs e = front_list-members L (bucket_at f img) xs (was-sound f (front_members L (bucket_at f img)) xs e)

  pub in_back-read : (B j : ℕ) (img ys : List ℕ) → back_at L B j img ≡ accepted ys → in_back L B j img ≡ ys
  unfolding back_at
  in_back-read B j img ys e =
      let b : List ℕ = bucket_at (fronts B + j) img in
      back_list-members L B j b ys (was-sound (fronts B + j) (back_members L B j b) ys e)

  -- what a backyard bucket that was read says of its members
  pub back-sound : (B j : ℕ) (img ys : List ℕ) → back_at L B j img ≡ accepted ys → ReadBack L B j (bucket_at (fronts B + j) img) ys
  unfolding back_at
  back-sound B j img ys e =
      let b : List ℕ = bucket_at (fronts B + j) img in
      read_back L B j b ys (was-sound (fronts B + j) (back_members L B j b) ys e)

  -- ---- the empty image

  pub length-empty : (B : ℕ) → length (front_bytes L []) ≡ 64 → length (back_bytes L []) ≡ 64 → length (empty_image L B) ≡ length_of B
  unfolding empty_image length_of fronts backyards
  length-empty B h k =
      rw (length-append (repeated (fronts B) (front_bytes L [])) (repeated (backyards B) (back_bytes L [])))
      (omega (arith, length-repeated (fronts B) (front_bytes L []) h, length-repeated (backyards B) (back_bytes L []) k))

  pub bucket_at-empty-front : (B f : ℕ) → length (front_bytes L []) ≡ 64 → length (back_bytes L []) ≡ 64 → f < fronts B
      → bucket_at f (empty_image L B) ≡ front_bytes L []
  unfolding empty_image
  bucket_at-empty-front B f h k l = bucket_at-repeated (fronts B) f (front_bytes L []) (repeated (backyards B) (back_bytes L [])) h l

  pub bucket_at-empty-back : (B j : ℕ) → length (front_bytes L []) ≡ 64 → length (back_bytes L []) ≡ 64 → j < backyards B
      → bucket_at (fronts B + j) (empty_image L B) ≡ back_bytes L []
  unfolding empty_image
  bucket_at-empty-back B j h k l =
      let e : length (repeated (fronts B) (front_bytes L [])) ≡ 64 * fronts B = length-repeated (fronts B) (front_bytes L []) h in
      bucket_at-past (fronts B + j) j (repeated (fronts B) (front_bytes L [])) (repeated (backyards B) (back_bytes L [])) (omega arith)
      ∙ ap (bucket_at j) (sym (append-nil (repeated (backyards B) (back_bytes L []))))
      ∙ bucket_at-repeated (backyards B) j (back_bytes L []) [] k l
