-- Front buckets whose two backyard buckets coincide, b0 = b1. In any image an ask there has at most 2 reads and never ends in First, and a count has at
-- most 2 reads (`ask-once`, `count-once`); what goes behind comes to Second at once (`behind-same`, `count_same`). In a good image no member stands in
-- First (`none_first`).
use mathlib.Core.Path.{◌≡◌, refl, ap}
use Prim.Native.Nat.{ℕ, ◌+◌, ◌*◌, ◌≤◌, ◌<◌}
use mathlib.Core.Bool.{Bool, true, false, cond, ◌&&◌}
use mathlib.Core.List.{List}
use mathlib.Core.Option.{Option, some}
use native.Mathlib.Omega.{arith}
use lib.ListN.{length}
use lib.Dec.{eqb, ltb, leb}
use borrow.Author.Tests.{eq-eqb, le-leb}
use Rattle.multiset.specs.Multisets.{copies, Found, found_in, largest}
use Rattle.crumbmap.specs.Layouts.{Layout, fronts}
use Rattle.crumbmap.specs.CrumbMap.{first_bucket, second_bucket, first_crumb, second_crumb, coincide}
use Rattle.buckets.specs.Buckets.{front_members, back_members}
use Rattle.machine.specs.Results.{Result, accepted, refused, and_then}
use Rattle.machine.specs.Images.{bucket_at, front_at, back_at, in_back}
use Rattle.machine.specs.Machine.{Place, nowhere, front, first, second, Asked, Counted, counted, reads_behind, backyard, ask_second, ask_at, count_at}
use Rattle.machine.specs.Once.{AskedOnce}
use Rattle.machine.proofs.AcceptedLaws.{same_answer, and_then-accepted}
use Rattle.machine.proofs.ImageLaws.{back-sound}
use Rattle.machine.proofs.Invariant.{Good, part}
use Rattle.machine.proofs.OverflowLaws.{bucket_of-list}
use Rattle.machine.proofs.ChoiceLaws.{same-bucket, reads_same, first-bare, first_absent}
use Rattle.machine.proofs.AskLaws.{ask_behind}
use Rattle.machine.proofs.RowLaws.{of-read, of-search, of_test, asked-most}

-- a place other than first
abbrev is_first : Place → ℕ
is_first nowhere = 0
is_first (front i) = 0
is_first (first i) = 1
is_first (second i) = 0

module _ (L : Layout) (B f x : ℕ) (img : List ℕ) (c : coincide B f ≡ true) where
  -- an ask that goes behind comes to Second(f) at once, unsound or not
  pub behind-same : f < fronts B → ask_behind L B f x img ≡ ask_second L B f x img
  unfolding ask_behind ask_second
  behind-same h = go (back_at L B (first_bucket f) img) refl
    where
      go : (r : Result (List ℕ)) → back_at L B (first_bucket f) img ≡ r → ask_behind L B f x img ≡ ask_second L B f x img
      go (accepted ys) e = rw (e, first_absent B f h L img c x ys e)
      go (refused n i) e = rw (e, rw (same-bucket B f c) at e)

  -- and so does a count
  pub count_same : f < fronts B → (xs : List ℕ) → front_at L f img ≡ accepted xs → length xs ≡ L.front_slots → largest xs ≤ x
      → count_at L B f x img ≡ and_then (back_at L B (second_bucket B f) img) λ zs. counted 2 (copies x xs + copies (x * 16 + second_crumb f) zs)
  unfolding count_at
  count_same h xs read full most =
      rw (read, eq-eqb (length xs) L.front_slots full, le-leb (largest xs) x most, reads_same B f c) (go (back_at L B (first_bucket f) img) refl)
    where
      go : (r : Result (List ℕ)) → back_at L B (first_bucket f) img ≡ r
          → and_then (backyard L B f img) (λ b. counted 2 (copies x xs + copies (x * 16 + first_crumb f) b.0 + copies (x * 16 + second_crumb f) b.1))
          ≡ and_then (back_at L B (second_bucket B f) img) λ zs. counted 2 (copies x xs + copies (x * 16 + second_crumb f) zs)
      go (accepted ys) e =
          let n = first-bare B f h c x ys (back-sound L B (first_bucket f) img ys e).crumbs in
          rw (e, rw (same-bucket B f c) at e) (ap (counted 2) (omega arith))
      go (refused n i) e = rw (e, rw (same-bucket B f c) at e)

  -- an ask that is accepted does not end in First
  abbrev Elsewhere : Result Asked → Type 0
  Elsewhere (accepted a) = is_first a.place ≡ 0
  Elsewhere (refused n i) = Unit {0}

  elsewhere : f < fronts B → Elsewhere (ask_at L B f x img)
  unfolding ask_at ask_second front_at back_at
  elsewhere h =
      of-read Elsewhere f (front_members L (bucket_at f img)) tt λ xs e.
      of-search Elsewhere (found_in x xs) (λ s d. refl) (of_test Elsewhere (eqb (length xs) L.front_slots && ltb (largest xs) x)
      (of-read Elsewhere (fronts B + first_bucket f) (back (first_bucket f)) tt λ ys r.
      of-search Elsewhere (found_in (x * 16 + first_crumb f) ys) (λ s d. bare ys r d)
      (of-read Elsewhere (fronts B + second_bucket B f) (back (second_bucket B f)) tt λ zs q.
      of-search Elsewhere (found_in (x * 16 + second_crumb f) zs) (λ s d. refl) refl))
      refl)
    where
      back : ℕ → Option (List ℕ)
      back j = back_members L B j (bucket_at (fronts B + j) img)

      bare : (ys : List ℕ) {s : Found} {n m : ℕ} → back_at L B (first_bucket f) img ≡ accepted ys → found_in (x * 16 + first_crumb f) ys ≡ some s → n ≡ m
      bare ys r d = let n = first_absent B f h L img c x ys r in let z : ◌≡◌ {A = ℕ} 0 1 = cc in absurd (omega arith)

  pub ask-once : f < fronts B → {a : Asked} → ask_at L B f x img ≡ accepted a → AskedOnce a
  ask-once h e = record {
    few = omega (arith, asked-most L B f x img e, reads_same B f c);
    not_first = λ i q. omega (arith, rw e at (elsewhere h), ap is_first q);
  }

  pub count-once : {n : Counted} → count_at L B f x img ≡ accepted n → n.reads ≤ 2
  unfolding count_at
  count-once {n} e =
      let p = and_then-accepted (front_at L f img) _ n e in
      go p.0 (eqb (length p.0) L.front_slots && leb (largest p.0) x) p.2
    where
      many : List ℕ → List ℕ × List ℕ → ℕ
      many xs b = copies x xs + copies (x * 16 + first_crumb f) b.0 + copies (x * 16 + second_crumb f) b.1

      go : (xs : List ℕ) (b : Bool)
          → cond b (and_then (backyard L B f img) λ b. counted (reads_behind B f) (many xs b)) (counted 1 (copies x xs)) ≡ accepted n → n.reads ≤ 2
      go xs true q =
          let b = and_then-accepted (backyard L B f img) _ n q in
          omega (arith, ap (λ (m : Counted). m.reads) (same_answer b.2), reads_same B f c)
      go xs false q = omega (arith, ap (λ (m : Counted). m.reads) (same_answer q))

  -- "such a member now always carries choice 1"
  pub none_first : f < fronts B → Good L B img → part L B true f x img ≡ 0
  unfolding part
  none_first h good = first-bare B f h c x (in_back L B (first_bucket f) img) (bucket_of-list L B f img good h true).crumbs
