-- Fresh and merge: the empty image is good and holds nothing; a merge of two good images is good and holds the members of both,
-- or is refused with 4. Main results: `empty-good`, `empty-total`, `insert_all-keeps`, `insert_all-append`, `merge-good`.
use mathlib.Core.Path.{◌≡◌, refl, sym, ◌∙◌}
use mathlib.Core.Logic.{◌⊎◌, inl, inr}
use Prim.Native.Nat.{ℕ, zero, suc, ◌+◌, ◌≤◌, ◌<◌}
use mathlib.Core.Bool.{Bool, true, false}
use mathlib.Core.List.{List, [], ◌∷◌, ◌++◌}
use native.Mathlib.Omega.{arith}
use lib.ListN.{length}
use lib.Dec.{eqb}
use lib.Arith.{lt_of_le-ne}
use borrow.Author.Tests.{eqb-true, eqb-false}
use Rattle.multiset.specs.Multisets.{copies, ascending, Below}
use Rattle.multiset.proofs.MultisetLaws.{copies-cons}
use Rattle.crumbmap.specs.Layouts.{Layout, keys, fronts, backyards}
use Rattle.crumbmap.specs.CrumbMap.{bucket_of}
use Rattle.crumbmap.proofs.CrumbMapLaws.{bucket_of-lt}
use Rattle.buckets.specs.Buckets.{Fits64, valid, front_bytes, back_bytes, FrontList, BackList}
use Rattle.buckets.proofs.BucketLaws.{length-front_bytes, length-back_bytes, front_members-front_bytes, back_members-back_bytes}
use Rattle.machine.specs.Results.{Result, accepted, refused, and_then, number}
use Rattle.machine.specs.Images.{front_at, back_at, in_front, in_back, empty_image}
use Rattle.machine.specs.Machine.{Change, insert_at, members_at}
use Rattle.machine.specs.Merges.{insert_all, merge_from, merge_sized}
use Rattle.machine.proofs.AcceptedLaws.{same_answer, never-refused}
use Rattle.machine.proofs.ImageLaws.{in_front-read, in_back-read, size_of-some, size_of-length_of, length-empty, bucket_at-empty-front, bucket_at-empty-back}
use Rattle.machine.proofs.Invariant.{Good, OneMore, part, total}
use Rattle.machine.proofs.InsertLaws.{Inserted, took, stuck, insert-keeps}
use Rattle.machine.proofs.PageLaws.{Members, members-good}
use Rattle.machine.proofs.CheckLaws.{check-good}

-- a list of keys of front bucket f put into an image: `now` holds them too, and is else alike
pub record More (L : Layout) (B f : ℕ) (xs old now : List ℕ) : Type 0 where
  pub here : (y : ℕ) → total L B f y now ≡ copies y xs + total L B f y old
  pub elsewhere : (e y : ℕ) → e < fronts B → (e ≡ f → ⊥) → total L B e y now ≡ total L B e y old

pub data InsertedAll (L : Layout) (B f : ℕ) (xs img : List ℕ) : Type 0 where
  took-all : (now : List ℕ) → insert_all L B f xs img ≡ accepted now → Good L B now → More L B f xs img now → InsertedAll L B f xs img
  stuck-in : insert_all L B f xs img ≡ refused 4 0 → InsertedAll L B f xs img

-- front buckets f, f + 1, .. of a and b put into an image
pub record Both (L : Layout) (B f : ℕ) (a b old now : List ℕ) : Type 0 where
  pub before : (e y : ℕ) → e < f → total L B e y now ≡ total L B e y old
  pub from : (e y : ℕ) → f ≤ e → e < fronts B → total L B e y now ≡ total L B e y a + total L B e y b + total L B e y old

pub data Merged (L : Layout) (B n f : ℕ) (a b img : List ℕ) : Type 0 where
  joined : (now : List ℕ) → merge_from L B n f a b img ≡ accepted now → Good L B now → Both L B f a b img now → Merged L B n f a b img
  overfull : merge_from L B n f a b img ≡ refused 4 0 → Merged L B n f a b img

-- a merge: accepted with the members of both, or full
pub data MergedWhole (L : Layout) (B : ℕ) (a b : List ℕ) : Type 0 where
  whole : (now : List ℕ) → merge_sized L B a b ≡ accepted now → Good L B now
      → ((f x : ℕ) → f < fronts B → total L B f x now ≡ total L B f x a + total L B f x b) → MergedWhole L B a b
  no-space : merge_sized L B a b ≡ refused 4 0 → MergedWhole L B a b

-- ---- lists one after the other

pub insert_all-append : (L : Layout) (B f : ℕ) (xs ys img : List ℕ) → insert_all L B f (xs ++ ys) img ≡ and_then (insert_all L B f xs img) (insert_all L B f ys)
unfolding insert_all
insert_all-append L B f [] ys img = refl
insert_all-append L B f (x ∷ xs) ys img = go (insert_at L B f x img) (λ now. insert_all-append L B f xs ys now)
  where
    go : (r : Result Change) → ((now : List ℕ) → insert_all L B f (xs ++ ys) now ≡ and_then (insert_all L B f xs now) (insert_all L B f ys))
        → and_then r (λ c. insert_all L B f (xs ++ ys) c.image) ≡ and_then (and_then r (λ c. insert_all L B f xs c.image)) (insert_all L B f ys)
    go (accepted c) k = k c.image
    go (refused n i) k = refl

module _ (L : Layout) (fits : Fits64 L) where
  -- ---- the empty image

  no_front : FrontList L []
  unfolding ascending
  no_front = record { order = tt; range = tt; room = omega arith }

  no-back : (B j : ℕ) → BackList L B j []
  unfolding ascending valid
  no-back B j = record { order = tt; range = tt; room = omega arith; crumbs = tt }

  front_long : length (front_bytes L []) ≡ 64
  front_long = length-front_bytes L fits [] (omega arith)

  back_long : length (back_bytes L []) ≡ 64
  back_long = length-back_bytes L fits [] (omega arith)

  front-empty : (B f : ℕ) → f < fronts B → front_at L f (empty_image L B) ≡ accepted []
  unfolding front_at
  front-empty B f h = rw (bucket_at-empty-front L B f front_long back_long h, front_members-front_bytes L fits [] no_front) refl

  back-empty : (B j : ℕ) → j < backyards B → back_at L B j (empty_image L B) ≡ accepted []
  unfolding back_at
  back-empty B j h = rw (bucket_at-empty-back L B j front_long back_long h, back_members-back_bytes L fits B j [] (no-back B j)) refl

  in_front-empty : (B f : ℕ) → f < fronts B → in_front L f (empty_image L B) ≡ []
  in_front-empty B f h = in_front-read L f (empty_image L B) [] (front-empty B f h)

  in_back-empty : (B j : ℕ) → j < backyards B → in_back L B j (empty_image L B) ≡ []
  in_back-empty B j h = in_back-read L B j (empty_image L B) [] (back-empty B j h)

  part-empty : (t : Bool) (B f x : ℕ) → f < fronts B → part L B t f x (empty_image L B) ≡ 0
  unfolding part copies
  part-empty t B f x h = rw (in_back-empty B (bucket_of t B f) (bucket_of-lt t B f h)) refl

  pub empty-total : (B f x : ℕ) → f < fronts B → total L B f x (empty_image L B) ≡ 0
  empty-total B f x h = rw (in_front-empty B f h) (omega (arith, part-empty true B f x h, part-empty false B f x h, nothing))
    where
      nothing : copies x [] ≡ 0
      nothing = unfold copies in refl

  pub empty-good : (B : ℕ) → 0 < B → B ≤ 65536 → Good L B (empty_image L B)
  empty-good B p h =
      record {
        size = rw (length-empty L B front_long back_long) (size_of-length_of B p h);
        front = λ f l. rw (in_front-empty B f l) (front-empty B f l);
        front_good = λ f l. rw (in_front-empty B f l) no_front;
        back = λ j l. rw (in_back-empty B j l) (back-empty B j l);
        back_good = λ j l. rw (in_back-empty B j l) (no-back B j);
        turn = λ f x l c. absurd (omega (arith, part-empty true B f x l, part-empty false B f x l));
      }

  -- ---- merge

  pub insert_all-keeps : (B f : ℕ) (xs img : List ℕ) → Good L B img → f < fronts B → Below (keys L) xs → InsertedAll L B f xs img
  unfolding insert_all
  insert_all-keeps B f [] img good h b = took-all img refl good (record { here = λ y. omega (arith, nothing y); elsewhere = λ e y l n. refl })
    where
      nothing : (y : ℕ) → copies y [] ≡ 0
      nothing y = unfold copies in refl
  insert_all-keeps B f (x ∷ xs) img good h b = first (insert-keeps L fits B f x img good h b.0) (λ now g. insert_all-keeps B f xs now g h b.1)
    where
      rest : (a : ℕ) (now : List ℕ) → insert_at L B f x img ≡ accepted (record { answer = a; image = now }) → OneMore L B f x img now
          → InsertedAll L B f xs now → InsertedAll L B f (x ∷ xs) img
      rest a now e m (stuck-in q) = stuck-in (rw (e, q) refl)
      rest a now e m (took-all end q g n) =
          took-all end (rw (e, q) refl) g
          (record {
            here = λ y. omega (arith, n.here y, m.here y, copies-cons y x xs);
            elsewhere = λ d y l o. n.elsewhere d y l o ∙ m.elsewhere d y l o;
          })

      first : Inserted L B f x img → ((now : List ℕ) → Good L B now → InsertedAll L B f xs now) → InsertedAll L B f (x ∷ xs) img
      first (stuck e full) k = stuck-in (rw e refl)
      first (took a now e full g m) k = rest a now e m (k now g)

  -- what took all of a list is good
  pub insert_all-good : (B f : ℕ) → f < fronts B → (xs img : List ℕ) {now : List ℕ} → Good L B img → Below (keys L) xs
      → insert_all L B f xs img ≡ accepted now → Good L B now × More L B f xs img now
  insert_all-good B f h xs img {now} good b e = go (insert_all-keeps B f xs img good h b)
    where
      go : InsertedAll L B f xs img → Good L B now × More L B f xs img now
      go (took-all end q g m) = let s : end ≡ now = same_answer (sym q ∙ e) in (rw s at g, rw s at m)
      go (stuck-in q) = absurd (never-refused (sym e ∙ q))

  -- one front bucket of both, then the rest
  both-next : (B f : ℕ) (a b xs ys img i j now : List ℕ) → f < fronts B → Members L B f a xs → Members L B f b ys
      → More L B f xs img i → More L B f ys i j → Both L B (suc f) a b j now → Both L B f a b img now
  both-next B f a b xs ys img i j now h ma mb p q r =
      record {
        before = λ e y l.
            r.before e y (omega arith) ∙ q.elsewhere e y (omega arith) (λ n. omega arith) ∙ p.elsewhere e y (omega arith) (λ n. omega arith);
        from = λ e y l k. at e y l k (eqb e f) refl;
      }
    where
      at : (e y : ℕ) → f ≤ e → e < fronts B → (t : Bool) → eqb e f ≡ t → total L B e y now ≡ total L B e y a + total L B e y b + total L B e y img
      at e y l k true t =
          rw (eqb-true e f t) (omega (arith, r.before f y (omega arith), q.here y, p.here y, ma.each y, mb.each y))
      at e y l k false t =
          let n : e ≡ f → ⊥ = eqb-false e f t in
          omega (arith, r.from e y (lt_of_le-ne l (λ o. n (sym o))) k, q.elsewhere e y k n, p.elsewhere e y k n)

  merge_from-keeps : (B : ℕ) (a b : List ℕ) → Good L B a → Good L B b → (n f : ℕ) (img : List ℕ) → f + n ≡ fronts B → Good L B img
      → Merged L B n f a b img
  unfolding merge_from
  merge_from-keeps B a b ga gb zero f img h good =
      joined img refl good (record { before = λ e y l. refl; from = λ e y l k. absurd (omega arith) })
  merge_from-keeps B a b ga gb (suc n) f img h good =
      let ma = members-good L B a ga f (omega arith) in
      let mb = members-good L B b gb f (omega arith) in
      first ma.0 mb.0 ma.1 mb.1 ma.2 mb.2 (insert_all-keeps B f ma.0 img good (omega arith) ma.2.range)
      (λ j g. merge_from-keeps B a b ga gb n (suc f) j (omega arith) g)
    where
      third : (xs ys i j : List ℕ) → members_at L B f a ≡ accepted xs → members_at L B f b ≡ accepted ys → Members L B f a xs → Members L B f b ys
          → insert_all L B f xs img ≡ accepted i → insert_all L B f ys i ≡ accepted j → More L B f xs img i → More L B f ys i j
          → Merged L B n (suc f) a b j → Merged L B (suc n) f a b img
      third xs ys i j ea eb ma mb ei ej mi mj (overfull e) = overfull (simp (ea, eb, ei, ej, e))
      third xs ys i j ea eb ma mb ei ej mi mj (joined now e g m) =
          joined now (simp (ea, eb, ei, ej, e)) g (both-next B f a b xs ys img i j now (omega arith) ma mb mi mj m)

      second : (xs ys i : List ℕ) → members_at L B f a ≡ accepted xs → members_at L B f b ≡ accepted ys → Members L B f a xs → Members L B f b ys
          → insert_all L B f xs img ≡ accepted i → More L B f xs img i → InsertedAll L B f ys i
          → ((j : List ℕ) → Good L B j → Merged L B n (suc f) a b j) → Merged L B (suc n) f a b img
      second xs ys i ea eb ma mb ei mi (stuck-in e) k = overfull (simp (ea, eb, ei, e))
      second xs ys i ea eb ma mb ei mi (took-all j ej g mj) k = third xs ys i j ea eb ma mb ei ej mi mj (k j g)

      first : (xs ys : List ℕ) → members_at L B f a ≡ accepted xs → members_at L B f b ≡ accepted ys → Members L B f a xs → Members L B f b ys
          → InsertedAll L B f xs img → ((j : List ℕ) → Good L B j → Merged L B n (suc f) a b j) → Merged L B (suc n) f a b img
      first xs ys ea eb ma mb (stuck-in e) k = overfull (simp (ea, eb, e))
      first xs ys ea eb ma mb (took-all i ei g mi) k = second xs ys i ea eb ma mb ei mi (insert_all-keeps B f ys i g (omega arith) mb.range) k

  -- a merge of two good images: checked, then put into the empty image
  pub merge-good : (B : ℕ) (a b : List ℕ) → Good L B a → Good L B b → MergedWhole L B a b
  unfolding merge_sized
  merge-good B a b ga gb =
      let s = size_of-some (length a) B ga.size in
      go (merge_from-keeps B a b ga gb (fronts B) 0 (empty_image L B) (omega arith) (empty-good B s.1 s.2))
    where
      go : Merged L B (fronts B) 0 a b (empty_image L B) → MergedWhole L B a b
      go (overfull e) = no-space (rw (check-good L B a ga, check-good L B b gb, e) refl)
      go (joined now e g m) =
          whole now (rw (check-good L B a ga, check-good L B b gb, e) refl) g
          (λ f x l. omega (arith, m.from f x (omega arith) l, empty-total B f x l))

  -- the number of a merge of two good images
  pub merge-number : (B : ℕ) (a b : List ℕ) → Good L B a → Good L B b → (number (merge_sized L B a b) ≡ 0) ⊎ (number (merge_sized L B a b) ≡ 4)
  merge-number B a b ga gb = go (merge-good B a b ga gb)
    where
      go : MergedWhole L B a b → (number (merge_sized L B a b) ≡ 0) ⊎ (number (merge_sized L B a b) ≡ 4)
      go (whole now e good m) = inl (rw e refl)
      go (no-space e) = inr (rw e refl)
