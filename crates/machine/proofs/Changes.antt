-- One bucket of a good image written: the members of every bucket after it, and when the image is good again.
-- Main results: `front-written`, and `back-joined` and `back-left` by `back-written`, from which an insert and a delete are put together.
use mathlib.Core.Path.{◌≡◌, sym, ap₂}
use Prim.Native.Nat.{ℕ, ◌+◌, ◌*◌, ◌%◌, ◌≤◌, ◌<◌}
use mathlib.Core.Bool.{Bool, true, false, not, true≢false, false≢true}
use mathlib.Core.List.{List}
use native.Mathlib.Omega.{arith}
use native.Mathlib.Decide.{ℕ_discrete}
use lib.ListN.{length}
use Rattle.multiset.specs.Multisets.{added, removed, copies, largest}
use Rattle.multiset.proofs.MultisetLaws.{hit, hit_other, copies-added, copies-removed, hit-alike, equal-of-hit}
use Rattle.crumbmap.specs.Layouts.{Layout, keys, fronts, backyards}
use Rattle.crumbmap.specs.CrumbMap.{bucket_of, crumb_of, allowed}
use Rattle.crumbmap.proofs.CrumbMapLaws.{bucket_of-lt, crumb_of-lt, front-unique, choice-unique}
use Rattle.buckets.specs.Buckets.{Fits64, FrontList, BackList}
use Rattle.machine.specs.Results.{accepted}
use Rattle.machine.specs.Images.{length_of, front_at, back_at, in_front, in_back, put_front, put_back}
use Rattle.machine.proofs.ImageLaws.{size_of-some, front-inside, back_inside}
use Rattle.machine.proofs.BucketWrites.{length-put_front, front_at-put_front, in_front-put_front, front_at-put_front-other, in_front-put_front-other, back_at-put_front, in_back-put_front, length-put_back, back_at-put_back, in_back-put_back, back_at-put_back-other, in_back-put_back-other, front_at-put_back, in_front-put_back}
use Rattle.machine.proofs.Invariant.{part, over, over-choice, Good}
use Rattle.machine.proofs.OverflowLaws.{bucket_of-list}
use Rattle.machine.proofs.ChoiceLaws.{crumb-back}
use Rattle.machine.proofs.Members.{back_list-added, back_list-removed}

not_same : (t : Bool) → not t ≡ t → ⊥
not_same true e = false≢true e
not_same false e = true≢false e

module _ (L : Layout) (B : ℕ) where
  pub good_length : (img : List ℕ) → Good L B img → length img ≡ length_of B
  good_length img good = (size_of-some (length img) B good.size).0

  -- every bucket lies in it
  pub good-front-inside : (f : ℕ) (img : List ℕ) → Good L B img → f < fronts B → 64 * f + 64 ≤ length img
  good-front-inside f img good h = rw (good_length img good) (front-inside B f h)

  pub good-back-inside : (j : ℕ) (img : List ℕ) → Good L B img → j < backyards B → 64 * (fronts B + j) + 64 ≤ length img
  good-back-inside j img good h = rw (good_length img good) (back_inside B j h)

  -- `now` is `img` with xs for the members of front bucket f, and is good
  pub record FrontWritten (f : ℕ) (xs img now : List ℕ) : Type 0 where
    pub good : Good L B now
    pub here : in_front L f now ≡ xs
    pub elsewhere : (e : ℕ) → (e ≡ f → ⊥) → in_front L e now ≡ in_front L e img
    pub backs : (j : ℕ) → in_back L B j now ≡ in_back L B j img
    pub parts : (t : Bool) (e y : ℕ) → part L B t e y now ≡ part L B t e y img

  -- `now` is `img` with ys for the members of f's backyard bucket of choice t, the same as they were but for f's crumb, and is good
  pub record BackWritten (f : ℕ) (t : Bool) (ys img now : List ℕ) : Type 0 where
    pub good : Good L B now
    pub views : (e : ℕ) → e < fronts B → in_front L e now ≡ in_front L e img
    pub here : (y : ℕ) → over L B f y now ≡ copies (y * 16 + crumb_of t f) ys + part L B (not t) f y img
    pub elsewhere : (e y : ℕ) → e < fronts B → (e ≡ f → ⊥) → over L B e y now ≡ over L B e y img

module _ (L : Layout) (fits : Fits64 L) (B f : ℕ) (h : f < fronts B) (img : List ℕ) (good : Good L B img) where
  pub front-written : (xs : List ℕ) → FrontList L xs
      → ((y : ℕ) → 0 < over L B f y img → (length xs ≡ L.front_slots) × (largest xs ≤ y))
      → FrontWritten L B f xs img (put_front L f xs img)
  unfolding part
  front-written xs list turn = record { good = made; here = here; elsewhere = elsewhere; backs = backs; parts = parts }
    where
      now : List ℕ
      now = put_front L f xs img

      inside : 64 * f + 64 ≤ length img
      inside = good-front-inside L B f img good h

      read : front_at L f now ≡ accepted xs
      read = front_at-put_front L fits f xs img inside list

      here : in_front L f now ≡ xs
      here = in_front-put_front L fits f xs img inside list

      read-other : (e : ℕ) → (e ≡ f → ⊥) → front_at L e now ≡ front_at L e img
      read-other = front_at-put_front-other L fits f xs img inside list

      elsewhere : (e : ℕ) → (e ≡ f → ⊥) → in_front L e now ≡ in_front L e img
      elsewhere = in_front-put_front-other L fits f xs img inside list

      read_back : (j : ℕ) → back_at L B j now ≡ back_at L B j img
      read_back j = back_at-put_front L fits f xs img inside list B j h

      backs : (j : ℕ) → in_back L B j now ≡ in_back L B j img
      backs j = in_back-put_front L fits f xs img inside list B j h

      parts : (t : Bool) (e y : ℕ) → part L B t e y now ≡ part L B t e y img
      parts t e y = rw (backs (bucket_of t B e))

      made : Good L B now
      made = record {
        size = rw (length-put_front L fits f xs img inside list) good.size;
        front = λ e l. elim (ℕ_discrete e f) [ yes p ↦ rw (p, here) read | no n ↦ rw (read-other e n, elsewhere e n) (good.front e l) ];
        front_good = λ e l. elim (ℕ_discrete e f) [ yes p ↦ rw (p, here) list | no n ↦ rw (elsewhere e n) (good.front_good e l) ];
        back = λ j l. rw (read_back j, backs j) (good.back j l);
        back_good = λ j l. rw (backs j) (good.back_good j l);
        turn = λ e y l o.
            let o' : 0 < over L B e y img = omega (arith, parts true e y, parts false e y, o) in
            elim (ℕ_discrete e f) [ yes p ↦ rw (p, here) (turn y (rw p at o')) | no n ↦ rw (elsewhere e n) (good.turn e y l o') ];
      }

  pub back-written : (t : Bool) (ys : List ℕ) → BackList L B (bucket_of t B f) ys
      → ((y : ℕ) → (y % 16 ≡ crumb_of t f → ⊥) → copies y ys ≡ copies y (in_back L B (bucket_of t B f) img))
      → ((y : ℕ) → 0 < copies (y * 16 + crumb_of t f) ys → (length (in_front L f img) ≡ L.front_slots) × (largest (in_front L f img) ≤ y))
      → BackWritten L B f t ys img (put_back L B (bucket_of t B f) ys img)
  unfolding part
  back-written t ys list rest turn = record { good = made; views = views; here = here; elsewhere = elsewhere }
    where
      j : ℕ
      j = bucket_of t B f

      now : List ℕ
      now = put_back L B j ys img

      inside : 64 * (fronts B + j) + 64 ≤ length img
      inside = good-back-inside L B j img good (bucket_of-lt t B f h)

      read : back_at L B j now ≡ accepted ys
      read = back_at-put_back L fits B j ys img inside list

      listed : in_back L B j now ≡ ys
      listed = in_back-put_back L fits B j ys img inside list

      read-other : (k : ℕ) → (k ≡ j → ⊥) → back_at L B k now ≡ back_at L B k img
      read-other = back_at-put_back-other L fits B j ys img inside list

      others : (k : ℕ) → (k ≡ j → ⊥) → in_back L B k now ≡ in_back L B k img
      others = in_back-put_back-other L fits B j ys img inside list

      read-front : (e : ℕ) → e < fronts B → front_at L e now ≡ front_at L e img
      read-front = front_at-put_back L fits B j ys img inside list

      views : (e : ℕ) → e < fronts B → in_front L e now ≡ in_front L e img
      views = in_front-put_back L fits B j ys img inside list

      -- what any other (bucket, crumb) holds is as it was
      apart : (u : Bool) (e y : ℕ) → (bucket_of u B e ≡ j → crumb_of u e ≡ crumb_of t f → ⊥) → part L B u e y now ≡ part L B u e y img
      apart u e y n = elim (ℕ_discrete (bucket_of u B e) j) [
        | yes p ↦ rw (p, listed) (rest (y * 16 + crumb_of u e) (λ q. n p (omega (arith, q, crumb_of-lt u e))))
        | no m ↦ rw (others (bucket_of u B e) m)
      ]

      mine : (y : ℕ) → part L B t f y now ≡ copies (y * 16 + crumb_of t f) ys
      mine y = rw listed

      here : (y : ℕ) → over L B f y now ≡ copies (y * 16 + crumb_of t f) ys + part L B (not t) f y img
      here y = omega (
        arith,
        over-choice L B t f y now,
        mine y,
        apart (not t) f y (λ p q. not_same t (choice-unique (not t) t f f q)),
      )

      elsewhere : (e y : ℕ) → e < fronts B → (e ≡ f → ⊥) → over L B e y now ≡ over L B e y img
      elsewhere e y l n = ap₂ ◌+◌ (each true) (each false)
        where
          each : (u : Bool) → part L B u e y now ≡ part L B u e y img
          each u = apart u e y (λ p q. n (front-unique u t B e f l h p q))

      mine-turn : (y : ℕ) → 0 < over L B f y now → (length (in_front L f img) ≡ L.front_slots) × (largest (in_front L f img) ≤ y)
      mine-turn y o = elim (ℕ_discrete (copies (y * 16 + crumb_of t f) ys) 0) [
        | yes p ↦ good.turn f y h (omega (arith, o, here y, over-choice L B t f y img))
        | no n ↦ turn y (omega arith)
      ]

      made : Good L B now
      made = record {
        size = rw (length-put_back L fits B j ys img inside list) good.size;
        front = λ e l. rw (read-front e l, views e l) (good.front e l);
        front_good = λ e l. rw (views e l) (good.front_good e l);
        back = λ k l. elim (ℕ_discrete k j) [ yes p ↦ rw (p, listed) read | no n ↦ rw (read-other k n, others k n) (good.back k l) ];
        back_good = λ k l. elim (ℕ_discrete k j) [ yes p ↦ rw (p, listed) list | no n ↦ rw (others k n) (good.back_good k l) ];
        turn = λ e y l o. elim (ℕ_discrete e f) [
          | yes p ↦ rw (views e l, p) (mine-turn y (rw p at o))
          | no n ↦ rw (views e l) (good.turn e y l (omega (arith, elsewhere e y l n, o)))
        ];
      }

module _ (L : Layout) (B : ℕ) where
  -- `now` has one copy more of key v in f's backyard buckets than `old`, and its front buckets are those of `old`
  pub record OneOver (f v : ℕ) (old now : List ℕ) : Type 0 where
    pub views : (e : ℕ) → e < fronts B → in_front L e now ≡ in_front L e old
    pub here : (y : ℕ) → over L B f y now ≡ hit y v + over L B f y old
    pub elsewhere : (e y : ℕ) → e < fronts B → (e ≡ f → ⊥) → over L B e y now ≡ over L B e y old

module _ (L : Layout) (fits : Fits64 L) (B f v : ℕ) (h : f < fronts B) (img : List ℕ) (good : Good L B img) (t : Bool) where
  abbrev ys : List ℕ
  ys = in_back L B (bucket_of t B f) img

  abbrev member : ℕ
  member = v * 16 + crumb_of t f

  same-hit : (y : ℕ) → hit (y * 16 + crumb_of t f) member ≡ hit y v
  same-hit y = hit-alike (y * 16 + crumb_of t f) member y v (omega arith) (omega arith)

  other-hit : (y : ℕ) → (y % 16 ≡ crumb_of t f → ⊥) → hit y member ≡ 0
  other-hit y n = hit_other y member (λ p. n (rw p (crumb-back t f v)))

  held-turn : (y : ℕ) → 0 < copies (y * 16 + crumb_of t f) ys → (length (in_front L f img) ≡ L.front_slots) × (largest (in_front L f img) ≤ y)
  unfolding part
  held-turn y o = good.turn f y h (omega (arith, o, over-choice L B t f y img))

  -- v joins f's backyard bucket of choice t
  pub back-joined : allowed t B f ≡ true → v < keys L → length ys < L.back_slots → length (in_front L f img) ≡ L.front_slots → largest (in_front L f img) ≤ v
      → Good L B (put_back L B (bucket_of t B f) (added member ys) img) × OneOver L B f v img (put_back L B (bucket_of t B f) (added member ys) img)
  unfolding part
  back-joined a k r full most = (w.good, record { views = w.views; here = here; elsewhere = w.elsewhere })
    where
      w : BackWritten L B f t (added member ys) img (put_back L B (bucket_of t B f) (added member ys) img)
      w = back-written L fits B f h img good t (added member ys)
          (back_list-added L B f v t ys (bucket_of-list L B f img good h t) h a k r)
          (λ y n. omega (arith, copies-added y member ys, other-hit y n))
          (λ y o. elim (ℕ_discrete (copies (y * 16 + crumb_of t f) ys) 0) [
            | yes p ↦
                let q : y ≡ v = equal-of-hit y v (omega (arith, o, p, same-hit y, copies-added (y * 16 + crumb_of t f) member ys)) in
                (full, omega arith)
            | no n ↦ held-turn y (omega arith)
          ])

      here : (y : ℕ) → over L B f y (put_back L B (bucket_of t B f) (added member ys) img) ≡ hit y v + over L B f y img
      here y = omega (arith, w.here y, over-choice L B t f y img, same-hit y, copies-added (y * 16 + crumb_of t f) member ys)

  -- one v leaves it
  pub back-left : 0 < part L B t f v img
      → Good L B (put_back L B (bucket_of t B f) (removed member ys) img) × OneOver L B f v (put_back L B (bucket_of t B f) (removed member ys) img) img
  unfolding part
  back-left c = (w.good, record { views = λ e l. sym (w.views e l); here = here; elsewhere = λ e y l n. sym (w.elsewhere e y l n) })
    where
      w : BackWritten L B f t (removed member ys) img (put_back L B (bucket_of t B f) (removed member ys) img)
      w = back-written L fits B f h img good t (removed member ys)
          (back_list-removed L B f v t ys (bucket_of-list L B f img good h t) c)
          (λ y n. omega (arith, copies-removed y member ys c, other-hit y n))
          (λ y o. held-turn y (omega (arith, o, copies-removed (y * 16 + crumb_of t f) member ys c)))

      here : (y : ℕ) → over L B f y img ≡ hit y v + over L B f y (put_back L B (bucket_of t B f) (removed member ys) img)
      here y = omega (arith, w.here y, over-choice L B t f y img, same-hit y, copies-removed (y * 16 + crumb_of t f) member ys c)
