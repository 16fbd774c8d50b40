-- Check accepts exactly the good images: every bucket is sound, and no backyard member stands before its turn.
-- Main results: `check-good` and, for bytes of an image's length, `good-checked`.
use mathlib.Core.Path.{◌≡◌, refl, sym, ◌∙◌}
use Prim.Native.Nat.{ℕ, zero, suc, ◌+◌, ◌*◌, ◌/◌, ◌%◌, ◌≤◌, ◌<◌}
use mathlib.Core.Bool.{Bool, true, false, cond}
use mathlib.Core.List.{List, [], ◌∷◌}
use mathlib.Core.Option.{Option, none, some}
use native.Mathlib.Omega.{arith}
use native.Mathlib.Decide.{ℕ_discrete}
use lib.ListN.{length, get_or}
use lib.Dec.{T}
use lib.Ieee.Fits.{and_l, and_r}
use borrow.Author.Tests.{eq-eqb, le-leb, eqb-true, leb-true}
use Rattle.multiset.specs.Multisets.{copies, largest}
use Rattle.multiset.proofs.MultisetLaws.{hit_same, hit_other, copies-cons}
use Rattle.crumbmap.specs.Layouts.{Layout, fronts, backyards}
use Rattle.crumbmap.specs.CrumbMap.{bucket_of, crumb_of, home}
use Rattle.crumbmap.proofs.TestLaws.{true-both, both_true, left-true, right-true}
use Rattle.crumbmap.proofs.CrumbMapLaws.{home-lt, home-bucket_of, bucket_of-home, bucket_of-lt, crumb_of-lt}
use Rattle.buckets.specs.Buckets.{Fits64, is_some, valid, front_members, back_members, FrontList, BackList}
use Rattle.buckets.proofs.BucketLaws.{front_members-list, back_members-list}
use Rattle.machine.specs.Results.{Result, accepted, refused}
use Rattle.machine.specs.Images.{size_of, bucket_at, front_at, back_at, in_front, in_back}
use Rattle.machine.specs.Checks.{unless, or_later, unsound_front, unsound_back, in_turn, home_in_turn, all_in_turn, bucket_in_turn, early, check_sized}
use Rattle.machine.proofs.AcceptedLaws.{was-sound}
use Rattle.machine.proofs.ChoiceLaws.{member-allowed}
use Rattle.machine.proofs.ImageLaws.{in_front-read, in_back-read, size_of-some, front-inside, back_inside, length-bucket_at, below-bucket}
use Rattle.machine.proofs.Invariant.{Good, part, over}

module _ (L : Layout) (B : ℕ) (img : List ℕ) (good : Good L B img) where
  fronts-sound : (n f : ℕ) → f + n ≡ fronts B → unsound_front L n f img ≡ none
  unfolding unsound_front
  fronts-sound zero f h = refl
  fronts-sound (suc n) f h = rw (good.front f (omega arith)) (fronts-sound n (suc f) (omega arith))

  backs-sound : (n j : ℕ) → j + n ≡ backyards B → unsound_back L B n j img ≡ none
  unfolding unsound_back
  backs-sound zero j h = refl
  backs-sound (suc n) j h = rw (good.back j (omega arith)) (backs-sound n (suc j) (omega arith))

  -- a member that stands in backyard bucket j is in its turn
  over-part : (t : Bool) (f x : ℕ) → part L B t f x img ≤ over L B f x img
  over-part true f x = omega arith
  over-part false f x = omega arith

  member-over : (j y f : ℕ) → 0 < copies y (in_back L B j img) → home B j (y % 16) ≡ some f → 0 < over L B f (y / 16) img
  unfolding part
  member-over j y f c e =
      let back = bucket_of-home B j (y % 16) f (omega arith) e in
      let same : part L B back.0 f (y / 16) img ≡ copies y (in_back L B j img) = rw (back.1, back.2, whole) refl in
      omega (arith, over-part back.0 f (y / 16))
    where
      whole : y / 16 * 16 + y % 16 ≡ y
      whole = omega arith

  full-in-turn : (x : ℕ) (xs : List ℕ) → length xs ≡ L.front_slots → largest xs ≤ x → in_turn L x (accepted xs) ≡ true
  full-in-turn x xs e l = search (true-both, eq-eqb, le-leb, arith)

  member-in-turn : (j y : ℕ) (o : Option ℕ) → 0 < copies y (in_back L B j img) → T (is_some o) → home B j (y % 16) ≡ o
      → home_in_turn L o (y / 16) img ≡ true
  member-in-turn j y none c s e = absurd s
  member-in-turn j y (some f) c s e =
      let l : f < fronts B = home-lt B j (y % 16) f (omega arith) e in
      let m = good.turn f (y / 16) l (member-over j y f c e) in
      rw (good.front f l) (full-in-turn (y / 16) (in_front L f img) m.0 m.1)

  all-in-turn : (j : ℕ) (ys : List ℕ) → T (valid B j ys) → ((y : ℕ) → 0 < copies y ys → 0 < copies y (in_back L B j img))
      → all_in_turn L B j img ys ≡ true
  unfolding all_in_turn valid
  all-in-turn j [] v c = refl
  all-in-turn j (y ∷ ys) v c =
      let here : 0 < copies y (y ∷ ys) = omega (arith, copies-cons y y ys, hit_same y) in
      rw (
        member-in-turn j y (home B j (y % 16)) (c y here) (and_l (is_some (home B j (y % 16))) (valid B j ys) v) refl,
        all-in-turn j ys (and_r (is_some (home B j (y % 16))) (valid B j ys) v) (λ z d. c z (omega (arith, copies-cons z y ys))),
      )
      refl

  none-early : (n j : ℕ) → j + n ≡ backyards B → early L B n j img ≡ none
  unfolding early
  none-early zero j h = refl
  none-early (suc n) j h =
      rw (good.back j (omega arith), all-in-turn j (in_back L B j img) (good.back_good j (omega arith)).crumbs (λ y c. c))
      (none-early n (suc j) (omega arith))

  pub check-good : check_sized L B img ≡ accepted tt
  unfolding check_sized
  check-good = rw (fronts-sound (fronts B) 0 (omega arith), backs-sound (backyards B) 0 (omega arith), none-early (backyards B) 0 (omega arith)) refl

-- ---- and what it accepts is good

-- nothing was found, and it went on
unless-passed : (o : Option ℕ) (n : ℕ) (k : Result (Unit {0})) → unless o n k ≡ accepted tt → (o ≡ none) × (k ≡ accepted tt)
unless-passed none n k e = (refl, e)
unless-passed (some i) n k e = let z : ◌≡◌ {A = ℕ} 0 1 = cc in absurd (omega arith)

later-passed : (r : Result (List ℕ)) (o : Option ℕ) → or_later r o ≡ none → ((xs : List ℕ) × (r ≡ accepted xs)) × (o ≡ none)
later-passed (accepted xs) o e = ((xs, refl), e)
later-passed (refused n i) o e = let z : ◌≡◌ {A = ℕ} 0 1 = cc in absurd (omega arith)

-- where no reading of n from f on was refused, each was accepted
each_read : (read : ℕ → Result (List ℕ)) (first : ℕ → ℕ → Option ℕ) → ((n f : ℕ) → first (suc n) f ≡ or_later (read f) (first n (suc f)))
    → (n f e : ℕ) → first n f ≡ none → f ≤ e → e < f + n → (xs : List ℕ) × (read e ≡ accepted xs)
each_read read first step zero f e h l k = absurd (omega arith)
each_read read first step (suc n) f e h l k =
    let p = later-passed (read f) (first n (suc f)) (sym (step n f) ∙ h) in
    elim (ℕ_discrete e f) [
      | yes q ↦ rw q p.0
      | no q ↦ each_read read first step n (suc f) e p.1 (omega arith) (omega arith)
    ]

cond-passed : (b : Bool) (o : Option ℕ) (i : ℕ) → cond b o (some i) ≡ none → (b ≡ true) × (o ≡ none)
cond-passed true o i e = (refl, e)
cond-passed false o i e = let z : ◌≡◌ {A = ℕ} 0 1 = cc in absurd (omega arith)

module _ (L : Layout) (B : ℕ) (img : List ℕ) where
  none_before : (n j k : ℕ) → early L B n j img ≡ none → j ≤ k → k < j + n → bucket_in_turn L B k img (back_at L B k img) ≡ true
  unfolding early
  none_before zero j k h l r = absurd (omega arith)
  none_before (suc n) j k h l r =
      let p = cond-passed (bucket_in_turn L B j img (back_at L B j img)) (early L B n (suc j) img) (fronts B + j) h in
      elim (ℕ_discrete k j) [
        | yes q ↦ rw q p.0
        | no q ↦ none_before n (suc j) k p.1 (omega arith) (omega arith)
      ]

  each-in-turn : (j y : ℕ) (ys : List ℕ) → all_in_turn L B j img ys ≡ true → 0 < copies y ys → home_in_turn L (home B j (y % 16)) (y / 16) img ≡ true
  unfolding all_in_turn copies
  each-in-turn j y [] h c = absurd (omega arith)
  each-in-turn j y (z ∷ zs) h c =
      let p = both_true (home_in_turn L (home B j (z % 16)) (z / 16) img) (all_in_turn L B j img zs) h in
      elim (ℕ_discrete y z) [
        | yes q ↦ rw q p.0
        | no q ↦ each-in-turn j y zs p.1 (omega (arith, copies-cons y z zs, hit_other y z q))
      ]

  pub in_turn-full : (x : ℕ) (xs : List ℕ) → in_turn L x (accepted xs) ≡ true → (length xs ≡ L.front_slots) × (largest xs ≤ x)
  in_turn-full x xs e = (search (left-true, eqb-true), search (right-true, leb-true))

  -- where none is unsound, each is read
  pub fronts-read : unsound_front L (fronts B) 0 img ≡ none → (f : ℕ) → f < fronts B → front_at L f img ≡ accepted (in_front L f img)
  unfolding unsound_front
  fronts-read clean f h =
      let r = each_read (λ (e : ℕ). front_at L e img) (λ (n e : ℕ). unsound_front L n e img) (λ n e. refl) (fronts B) 0 f clean (omega arith) (omega arith) in
      rw (in_front-read L f img r.0 r.1) r.1

  pub backs-read : unsound_back L B (backyards B) 0 img ≡ none → (j : ℕ) → j < backyards B → back_at L B j img ≡ accepted (in_back L B j img)
  unfolding unsound_back
  backs-read clean j h =
      let r = each_read (λ (e : ℕ). back_at L B e img) (λ (n e : ℕ). unsound_back L B n e img) (λ n e. refl) (backyards B) 0 j clean (omega arith) (omega arith) in
      rw (in_back-read L B j img r.0 r.1) r.1

module _ (L : Layout) (B : ℕ) (img : List ℕ) (checked : check_sized L B img ≡ accepted tt) where
  passed : (unsound_front L (fronts B) 0 img ≡ none) × (unsound_back L B (backyards B) 0 img ≡ none) × (early L B (backyards B) 0 img ≡ none)
  unfolding check_sized
  passed =
      let p = unless-passed _ 3 _ checked in
      let q = unless-passed _ 3 _ p.1 in
      (p.0, q.0, (unless-passed _ 8 _ q.1).0)

  pub front-passed : (f : ℕ) → f < fronts B → front_at L f img ≡ accepted (in_front L f img)
  front-passed = fronts-read L B img passed.0

  pub back-passed : (j : ℕ) → j < backyards B → back_at L B j img ≡ accepted (in_back L B j img)
  back-passed = backs-read L B img passed.1

  pub in-turn-passed : (j y : ℕ) → j < backyards B → 0 < copies y (in_back L B j img) → home_in_turn L (home B j (y % 16)) (y / 16) img ≡ true
  in-turn-passed j y h c =
      let whole = rw (back-passed j h) at (none_before L B img (backyards B) 0 j passed.2 (omega arith) (omega arith)) in
      each-in-turn L B img j y (in_back L B j img) whole c

module _ (L : Layout) (fits : Fits64 L) (B : ℕ) (img : List ℕ) (bytes : (i : ℕ) → get_or img i 0 < 256) (size : size_of (length img) ≡ some B)
    (checked : check_sized L B img ≡ accepted tt) where
  front-list : (f : ℕ) → f < fronts B → FrontList L (in_front L f img)
  unfolding front_at
  front-list f h =
      let inside : 64 * f + 64 ≤ length img = rw (size_of-some (length img) B size).0 (front-inside B f h) in
      front_members-list L fits (bucket_at f img) (in_front L f img) (below-bucket f img bytes) (length-bucket_at f img inside)
      (was-sound f (front_members L (bucket_at f img)) (in_front L f img) (front-passed L B img checked f h))

  back-list : (j : ℕ) → j < backyards B → BackList L B j (in_back L B j img)
  unfolding back_at
  back-list j h =
      let i : ℕ = fronts B + j in
      let inside : 64 * i + 64 ≤ length img = rw (size_of-some (length img) B size).0 (back_inside B j h) in
      back_members-list L fits B j (bucket_at i img) (in_back L B j img) (below-bucket i img bytes) (length-bucket_at i img inside)
      (was-sound i (back_members L B j (bucket_at i img)) (in_back L B j img) (back-passed L B img checked j h))

  part-turn : (t : Bool) (f x : ℕ) → f < fronts B → 0 < part L B t f x img
      → (length (in_front L f img) ≡ L.front_slots) × (largest (in_front L f img) ≤ x)
  unfolding part
  part-turn t f x h c =
      let j : ℕ = bucket_of t B f in
      let l : j < backyards B = bucket_of-lt t B f h in
      let mine = in-turn-passed L B img checked j (x * 16 + crumb_of t f) l c in
      let low : (x * 16 + crumb_of t f) % 16 ≡ crumb_of t f = omega (arith, crumb_of-lt t f) in
      let high : (x * 16 + crumb_of t f) / 16 ≡ x = omega (arith, crumb_of-lt t f) in
      let ours = member-allowed B f h t x (in_back L B j img) (back-list j l).crumbs c in
      in_turn-full L B img x (in_front L f img) (rw (low, high, home-bucket_of t B f h, ours, front-passed L B img checked f h) at mine)

  pub good-checked : Good L B img
  good-checked = record {
    size = size;
    front = front-passed L B img checked;
    front_good = front-list;
    back = back-passed L B img checked;
    back_good = back-list;
    turn = λ f x h c. elim (ℕ_discrete (part L B true f x img) 0) [
      | yes e ↦ part-turn false f x h (omega arith)
      | no n ↦ part-turn true f x h (omega arith)
    ];
  }
