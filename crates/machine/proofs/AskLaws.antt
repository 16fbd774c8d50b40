-- Counts and asks on a good image: a count gives `total`; an ask is yes exactly when `total` is above nought, reads the backyard exactly when the
-- members that are smaller fill the front bucket, and tells `total` where the backyard has none of it. Main results: `count-total`, `ask-behind`,
-- `ask-in-front` and its like, `ask-total`.
use mathlib.Core.Path.{◌≡◌, refl, sym, ap, ◌∙◌}
use mathlib.Core.Logic.{◌↔◌, ◌⊎◌, inl, inr, ⊎_elim}
use Prim.Native.Nat.{ℕ, suc, ◌+◌, ◌*◌, ◌≤◌, ◌<◌}
use mathlib.Core.Bool.{Bool, true, false}
use mathlib.Core.List.{List}
use native.Mathlib.Nat.{eq-zero-or-pos}
use native.Mathlib.Omega.{arith}
use lib.ListN.{length}
use lib.Dec.{ltb, leb, eqb, T}
use lib.Arith.{lt_of_le-ne}
use borrow.Author.Tests.{ltb-true, ltb-false, leb-false, eqb-true, eqb-false, eq-eqb, lt-ltb}
use Rattle.multiset.specs.Multisets.{copies, below, found_in, largest, ascending, sum}
use Rattle.multiset.proofs.OrderLaws.{copies-largest, largest-max}
use Rattle.multiset.proofs.RankLaws.{below_suc, below_all, below-lt-length, below-le-length, found_none, found_some, sum-copies}
use Rattle.crumbmap.specs.Layouts.{Layout, fronts}
use Rattle.crumbmap.specs.CrumbMap.{bucket_of, first_bucket, second_bucket, first_crumb, second_crumb}
use Rattle.crumbmap.proofs.CrumbMapLaws.{bucket_of-lt}
use Rattle.machine.specs.Results.{Result, accepted, refused, and_then}
use Rattle.machine.specs.Images.{front_at, back_at, in_front, in_back}
use Rattle.machine.specs.Machine.{Place, nowhere, front, first, second, counted, count_at, Asked, asked, denied, found, reads_behind, ask_second, ask_at}
use Rattle.machine.specs.Copies.{Short, Told}
use Rattle.machine.proofs.Invariant.{Good, part, over, total}
use Rattle.machine.proofs.OverflowLaws.{bucket_of-read}
use Rattle.machine.proofs.ChoiceLaws.{reads-least}
use Rattle.multiset.proofs.SumLaws.{sum-plus, sum-nought}

-- how many members of front bucket f are smaller than x
abbrev pub smaller_at : Layout → ℕ → ℕ → ℕ → List ℕ → ℕ
smaller_at L B f x img = sum (λ (y : ℕ). total L B f y img) 0 x

-- an ask for key x of front bucket f: accepted, its place not `nowhere` exactly when there is a copy, its reads more than 1 exactly when the smaller
-- members fill the front bucket, and what its copies tell
abbrev pub Tells : Layout → ℕ → ℕ → ℕ → List ℕ → Type 0
Tells L B f x img =
    (a : Asked) × (ask_at L B f x img ≡ accepted a)
    × ((a.place ≡ nowhere → ⊥) ↔ (0 < total L B f x img)) × ((1 < a.reads) ↔ (L.front_slots ≤ smaller_at L B f x img))
    × Told L (in_front L f img) x (smaller_at L B f x img) (total L B f x img) a.copies (a.place ≡ nowhere)

-- a place that holds a slot is not `nowhere`
abbrev is_nowhere : Place → ℕ
is_nowhere nowhere = 1
is_nowhere (front i) = 0
is_nowhere (first i) = 0
is_nowhere (second i) = 0

somewhere : (p : Place) → is_nowhere p ≡ 0 → p ≡ nowhere → ⊥
somewhere p e q = omega (arith, ap is_nowhere q)

-- two claims that both hold, or both fail
both_hold : {A C : Type 0} → A → C → A ↔ C
both_hold a c = (λ _. c, λ _. a)

both-fail : {A C : Type 0} → (A → ⊥) → (C → ⊥) → A ↔ C
both-fail a c = (λ x. absurd (a x), λ x. absurd (c x))

-- ---- an ask whose front bucket is unsound, and one past a full front bucket, in any image

module _ (L : Layout) (B f x : ℕ) (img : List ℕ) where
  pub ask-unsound : {i : ℕ} → front_at L f img ≡ refused 3 i → refused 3 i ≡ ask_at L B f x img
  unfolding ask_at
  ask-unsound e = rw e

  -- the search of b0, and what comes after it
  unfoldable pub ask_behind : Result Asked
  ask_behind = and_then (back_at L B (first_bucket f) img) λ ys. found (found_in (x * 16 + first_crumb f) ys) (asked 2 first) (ask_second L B f x img)

  pub ask-behind : (xs : List ℕ) → front_at L f img ≡ accepted xs → copies x xs ≡ 0 → length xs ≡ L.front_slots → largest xs < x
      → ask_at L B f x img ≡ ask_behind
  unfolding ask_at ask_behind
  ask-behind xs read none full past =
      rw (read, found_none x xs none, eq-eqb (length xs) L.front_slots full, lt-ltb (largest xs) x past)

-- ---- the one bag where an ask ends, in any image: it tells that bag's copies, whatever stands in the others

module _ (L : Layout) (B f x : ℕ) (img xs : List ℕ) (read : front_at L f img ≡ accepted xs) where
  pub ask-in-front : T (ascending xs) → 0 < copies x xs → ask_at L B f x img ≡ asked 1 front (record { slot = below x xs; copies = copies x xs })
  unfolding ask_at
  ask-in-front a c = rw (read, found_some x xs a c) refl

  module _ (none : copies x xs ≡ 0) (full : length xs ≡ L.front_slots) (past : largest xs < x) (ys : List ℕ) (first_read : back_at L B (first_bucket f) img ≡ accepted ys) where
    pub ask-in-first : T (ascending ys) → 0 < copies (x * 16 + first_crumb f) ys
        → ask_at L B f x img ≡ asked 2 first (record { slot = below (x * 16 + first_crumb f) ys; copies = copies (x * 16 + first_crumb f) ys })
    unfolding ask_behind
    ask-in-first a c = ask-behind L B f x img xs read none full past ∙ rw (first_read, found_some _ _ a c) refl

    -- not in First(f) either
    module _ (None-first : copies (x * 16 + first_crumb f) ys ≡ 0) (zs : List ℕ) (second-read : back_at L B (second_bucket B f) img ≡ accepted zs) where
      goes_on : ask_at L B f x img ≡ ask_second L B f x img
      unfolding ask_behind
      goes_on = ask-behind L B f x img xs read none full past ∙ rw (first_read, found_none _ _ None-first)

      pub ask-in-second : T (ascending zs) → 0 < copies (x * 16 + second_crumb f) zs
          → ask_at L B f x img ≡ asked (reads_behind B f) second (record { slot = below (x * 16 + second_crumb f) zs; copies = copies (x * 16 + second_crumb f) zs })
      unfolding ask_second
      ask-in-second a c = goes_on ∙ rw (second-read, found_some _ _ a c) refl

      pub ask-in-none : copies (x * 16 + second_crumb f) zs ≡ 0 → ask_at L B f x img ≡ denied (reads_behind B f)
      unfolding ask_second
      ask-in-none c = goes_on ∙ rw (second-read, found_none _ _ c) refl

-- ---- on a good image

module _ (L : Layout) (B : ℕ) (img : List ℕ) (good : Good L B img) (f : ℕ) (h : f < fronts B) where
  -- a backyard bucket of f is read
  back_read : (t : Bool) → back_at L B (bucket_of t B f) img ≡ accepted (in_back L B (bucket_of t B f) img)
  back_read t = bucket_of-read L B f img good h t

  -- nothing stands in the backyard of a front bucket that is not full, and nothing below its largest
  pub over_none : (x : ℕ) → (length (in_front L f img) ≡ L.front_slots → largest (in_front L f img) ≤ x → ⊥) → over L B f x img ≡ 0
  over_none x n = go (eq-zero-or-pos (over L B f x img))
    where
      go : (over L B f x img ≡ 0) ⊎ (0 < over L B f x img) → over L B f x img ≡ 0
      go (inl e) = e
      go (inr p) = absurd (n (good.turn f x h p).0 (good.turn f x h p).1)

  pub count-total : (x : ℕ) → (n : ℕ) × (count_at L B f x img ≡ accepted (record { reads = n; copies = total L B f x img }))
  unfolding count_at part
  count-total x = go (eqb (length (in_front L f img)) L.front_slots) (leb (largest (in_front L f img)) x) refl refl
    where
      gives : (n a b : ℕ) → a ≡ b → counted n a ≡ counted n b
      gives n a b e = cc

      go : (a b : Bool) → eqb (length (in_front L f img)) L.front_slots ≡ a → leb (largest (in_front L f img)) x ≡ b
          → (n : ℕ) × (count_at L B f x img ≡ accepted (record { reads = n; copies = total L B f x img }))
      go true true e l = (reads_behind B f, rw (good.front f h, e, l, back_read true, back_read false) (gives (reads_behind B f) _ _ (omega arith)))
      go true false e l =
          let less : x < largest (in_front L f img) = leb-false _ _ l in
          (1, rw (good.front f h, e, l) (gives 1 _ _ (omega (arith, over_none x (λ a b. omega arith)))))
      go false b e l = (1, rw (good.front f h, e) (gives 1 _ _ (omega (arith, over_none x (λ a b. eqb-false _ _ e a)))))

  -- those in front, and those in the backyard
  smaller-split : (x : ℕ) → smaller_at L B f x img ≡ below x (in_front L f img) + sum (λ (y : ℕ). over L B f y img) 0 x
  smaller-split x =
      omega (arith, sum-plus (λ (y : ℕ). copies y (in_front L f img)) (λ (y : ℕ). over L B f y img) 0 x, sum-copies x (in_front L f img))

  -- past a full front bucket there are at least its members
  smaller-past : (x : ℕ) → 0 < L.front_slots → length (in_front L f img) ≡ L.front_slots → largest (in_front L f img) < x
      → L.front_slots ≤ smaller_at L B f x img
  smaller-past x p e l = omega (arith, smaller-split x, below_all x (in_front L f img) (good.front_good f h).order (omega arith) l)

  -- elsewhere there are fewer
  smaller-within : (x : ℕ) → 0 < L.front_slots → (length (in_front L f img) ≡ L.front_slots → x ≤ largest (in_front L f img))
      → smaller_at L B f x img < L.front_slots
  smaller-within x p e = go (eqb (length (in_front L f img)) L.front_slots) refl
    where
      none : sum (λ (y : ℕ). over L B f y img) 0 x ≡ 0
      none = sum-nought (λ (y : ℕ). over L B f y img) 0 x (λ y l k. over_none y (λ full m. omega (arith, e full)))

      go : (b : Bool) → eqb (length (in_front L f img)) L.front_slots ≡ b → smaller_at L B f x img < L.front_slots
      go true q =
          let full : length (in_front L f img) ≡ L.front_slots = eqb-true _ _ q in
          omega (arith, smaller-split x, none, below-lt-length x (largest (in_front L f img)) (in_front L f img) (copies-largest (in_front L f img) (omega arith)) (e full))
      go false q =
          let fewer : length (in_front L f img) < L.front_slots = lt_of_le-ne (good.front_good f h).room (eqb-false _ _ q) in
          omega (arith, smaller-split x, none, below-le-length x (in_front L f img))

  -- where no more members than the front slots are up to x, none of x stands behind them
  few-behind : (x : ℕ) → 0 < L.front_slots → smaller_at L B f x img + total L B f x img ≤ L.front_slots → over L B f x img ≡ 0
  few-behind x pos l = go (eq-zero-or-pos (over L B f x img))
    where
      xs : List ℕ
      xs = in_front L f img

      go : (over L B f x img ≡ 0) ⊎ (0 < over L B f x img) → over L B f x img ≡ 0
      go (inl e) = e
      go (inr p) =
          let full = (good.turn f x h p).0 in
          let most = below_all (suc x) xs (good.front_good f h).order (omega arith) (omega (arith, (good.turn f x h p).1)) in
          absurd (omega (arith, smaller-split x, below_suc x xs, most))

  -- nor where the front bucket is short of x
  short-behind : (x : ℕ) → Short L (in_front L f img) x → over L B f x img ≡ 0
  short-behind x s = over_none x (λ e l. ⊎_elim (λ k. omega arith) (λ k. omega (arith, k.1)) s)

  -- c copies were told, all of them where none stands behind the front bucket
  told : (x c : ℕ) {absent : Type 0} → 0 < L.front_slots → ((c ≡ 0) ↔ absent) → c ≤ total L B f x img
      → (absent → c ≡ total L B f x img) → (over L B f x img ≡ 0 → c ≡ total L B f x img)
      → Told L (in_front L f img) x (smaller_at L B f x img) (total L B f x img) c absent
  told x c pos none most gone all = record {
    none = none;
    most = most;
    all = ⊎_elim gone (λ s. all (short-behind x s));
    few = λ l. all (few-behind x pos l);
  }

  pub ask-total : (x : ℕ) → 0 < L.front_slots → Tells L B f x img
  unfolding ask_at part
  ask-total x pos = in-front (eq-zero-or-pos (copies x xs))
    where
      xs : List ℕ
      xs = in_front L f img

      order : (t : Bool) → T (ascending (in_back L B (bucket_of t B f) img))
      order t = (good.back_good (bucket_of t B f) (bucket_of-lt t B f h)).order

      -- a copy that stands at a place, in front or behind
      told-some : (c : ℕ) (p : Place) → is_nowhere p ≡ 0 → 0 < c → c ≤ total L B f x img → (over L B f x img ≡ 0 → c ≡ total L B f x img)
          → Told L xs x (smaller_at L B f x img) (total L B f x img) c (p ≡ nowhere)
      told-some c p q pc most all = told x c pos (both-fail (λ z. omega arith) (somewhere p q)) most (λ z. absurd (somewhere p q z)) all

      told_none : total L B f x img ≡ 0 → Told L xs x (smaller_at L B f x img) (total L B f x img) 0 (nowhere ≡ nowhere)
      told_none z = told x 0 pos (both_hold refl refl) (omega arith) (λ _. sym z) (λ _. sym z)

      -- past a full front bucket, in neither bag before: the second bag
      in-second : copies x xs ≡ 0 → length xs ≡ L.front_slots → largest xs < x → part L B true f x img ≡ 0
          → (part L B false f x img ≡ 0) ⊎ (0 < part L B false f x img) → Tells L B f x img
      in-second z e l y (inr c) = (
        record {
          reads = reads_behind B f;
          place = second (below (x * 16 + second_crumb f) (in_back L B (second_bucket B f) img));
          copies = copies (x * 16 + second_crumb f) (in_back L B (second_bucket B f) img);
        },
        ask-in-second L B f x img xs (good.front f h) z e l _ (back_read true) y _ (back_read false) (order false) c,
        both_hold (somewhere _ refl) (omega (arith, c)),
        both_hold (omega (arith, reads-least B f)) (smaller-past x pos e l),
        told-some _ _ refl c (omega arith) (λ z. omega arith),
      )
      in-second z e l y (inl c) = (
        record { reads = reads_behind B f; place = nowhere; copies = 0 },
        ask-in-none L B f x img xs (good.front f h) z e l _ (back_read true) y _ (back_read false) c,
        both-fail (λ n. n refl) (λ p. omega (arith, z, y, c)),
        both_hold (omega (arith, reads-least B f)) (smaller-past x pos e l),
        told_none (omega (arith, z, y, c)),
      )

      -- past a full front bucket: the first bag
      in-first : copies x xs ≡ 0 → length xs ≡ L.front_slots → largest xs < x → (part L B true f x img ≡ 0) ⊎ (0 < part L B true f x img)
          → Tells L B f x img
      in-first z e l (inr c) = (
        record {
          reads = 2;
          place = first (below (x * 16 + first_crumb f) (in_back L B (first_bucket f) img));
          copies = copies (x * 16 + first_crumb f) (in_back L B (first_bucket f) img);
        },
        ask-in-first L B f x img xs (good.front f h) z e l _ (back_read true) (order true) c,
        both_hold (somewhere _ refl) (omega (arith, c)),
        both_hold (omega arith) (smaller-past x pos e l),
        told-some _ _ refl c (omega arith) (λ z. omega arith),
      )
      in-first z e l (inl y) = in-second z e l y (eq-zero-or-pos (part L B false f x img))

      -- not in front: past a full front bucket, or nowhere
      absent : copies x xs ≡ 0 → (length xs ≡ L.front_slots → x ≤ largest xs) → ask_at L B f x img ≡ denied 1 → Tells L B f x img
      absent z n e = (
        record { reads = 1; place = nowhere; copies = 0 },
        e,
        both-fail (λ m. m refl) (λ p. omega (arith, z, behind)),
        both-fail (λ l. omega arith) (λ l. omega (arith, smaller-within x pos n)),
        told_none (omega (arith, z, behind)),
      )
        where
          least : length xs ≡ L.front_slots → x ≡ largest xs → 0 < copies x xs
          least full q = rw q (copies-largest xs (omega arith))

          behind : over L B f x img ≡ 0
          behind = over_none x (λ full m. omega (arith, n full, z, least full (omega (arith, n full))))

      past : copies x xs ≡ 0 → (a b : Bool) → eqb (length xs) L.front_slots ≡ a → ltb (largest xs) x ≡ b → Tells L B f x img
      past z true true e l = in-first z (eqb-true _ _ e) (ltb-true _ _ l) (eq-zero-or-pos (part L B true f x img))
      past z true false e l = absent z (λ full. ltb-false _ _ l) (rw (good.front f h, found_none x xs z, e, l) refl)
      past z false b e l = absent z (λ full. absurd (eqb-false _ _ e full)) (rw (good.front f h, found_none x xs z, e) refl)

      in-front : (copies x xs ≡ 0) ⊎ (0 < copies x xs) → Tells L B f x img
      in-front (inr c) = (
        record { reads = 1; place = front (below x xs); copies = copies x xs },
        ask-in-front L B f x img xs (good.front f h) (good.front_good f h).order c,
        both_hold (somewhere _ refl) (omega arith),
        both-fail (λ l. omega arith) (λ l. omega (arith, smaller-within x pos (λ e. largest-max x xs (good.front_good f h).order c))),
        told-some _ _ refl c (omega arith) (λ z. omega arith),
      )
      in-front (inl z) = past z (eqb (length xs) L.front_slots) (ltb (largest xs) x) refl refl
