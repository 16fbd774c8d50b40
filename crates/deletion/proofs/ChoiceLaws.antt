-- Which of two members leaves the backyard, the one of First(f) or the one of Second(f), each the smallest there of those that are asked for.
-- Main result: `picked`.
use mathlib.Core.Path.{◌≡◌, refl, sym, ◌∙◌}
use Prim.Native.Nat.{ℕ, zero, suc, ◌+◌, ◌*◌, ◌≤◌, ◌<◌}
use mathlib.Core.Bool.{Bool, true, false, cond}
use mathlib.Core.List.{List}
use native.Mathlib.Omega.{arith, by_contra}
use lib.ListN.{length}
use lib.Dec.{ltb}
use borrow.Author.Tests.{lt-ltb, ltb-true, ltb-false}
use Rattle.std.specs.Prelude as S
use Rattle.multiset.specs.Multisets.{copies, below}
use Rattle.multiset.proofs.MultisetLaws.{below-copies}
use Rattle.crumbmap.specs.Layouts.{Layout, keys}
use Rattle.crumbmap.specs.CrumbMap.{first_bucket, second_bucket, bucket_of, crumb_of}
use Rattle.crumbmap.specs.Steps.Places.{Leads}
use Rattle.crumbmap.proofs.CrumbMapLaws.{crumb_of-lt}
use Rattle.machine.specs.Images.{in_back}
use Rattle.machine.specs.Bags.{has, from_first}
use Rattle.machine.specs.Machine.{bag_in}
use Rattle.buckets.proofs.CarryLaws.{copies-carrying, below-carrying}
use Rattle.image.specs.Steps.ImageReads.{BothRead}
use Rattle.image.proofs.ImageReadLaws.{chosen-read, chosen-way}
use Rattle.deletion.specs.Steps.Deletions.{pick_of, firstly, Leaves}
use Rattle.deletion.specs.declared.Departure.{Departure}

-- "taken from First if n0 > n1, else from Second", where it stands in one of them or in both
module _ (v : ℕ) (xs ys : List ℕ) (n0 n1 : ℕ) where
  from_first-there : 0 < copies v xs → copies v ys ≡ 0 → from_first v xs ys n0 n1 ≡ true
  unfolding from_first has
  from_first-there h e = rw (lt-ltb 0 (copies v xs) h, e)

  from_second : copies v xs ≡ 0 → from_first v xs ys n0 n1 ≡ false
  unfolding from_first has
  from_second e = rw e

  from_either : 0 < copies v xs → 0 < copies v ys → from_first v xs ys n0 n1 ≡ ltb n1 n0
  unfolding from_first has
  from_either h k = rw (lt-ltb 0 (copies v xs) h, lt-ltb 0 (copies v ys) k)

-- a count that is not above 0
none : (n : ℕ) → (0 < n → ⊥) → n ≡ 0
none n h = let l : n ≤ 0 = by_contra n 0 h in omega arith

-- a count of two that is above 0
either : (m n : ℕ) {P : Type 0} → 0 < m + n → (0 < m → P) → (0 < n → P) → P
either zero n h p q = q (omega arith)
either (suc m) n h p q = p (omega arith)

module _ (L : Layout) (B f : ℕ) (img : List ℕ) (asked : ℕ → Type 0) where
  -- a member of First(f), or of Second(f), is the smallest there of those that are asked for
  pub record Offered (t : Bool) (d : Departure) : Type 0 where
    pub wanted : asked d.key
    pub leads : Leads t B f d.way
    pub there : 0 < copies d.key (bag_in L B f t img)
    pub least : (z : ℕ) → asked z → 0 < copies z (bag_in L B f t img) → d.key ≤ z
    pub slot : d.slot ≡ below (d.key * 16 + crumb_of t f) (in_back L B (bucket_of t B f) img)

  abbrev pub Offers : Bool → S.Option Departure → Type 0
  Offers t (S.Some d) = Offered t d
  Offers t S.None = (z : ℕ) → asked z → copies z (bag_in L B f t img) ≡ 0

  -- a member leaves by the rule, the smallest of both of those that are asked for
  pub record Picked (d : Departure) : Type 0 where
    pub wanted : asked d.key
    pub leaves : Leaves L B f d img
    pub there : 0 < copies d.key (bag_in L B f true img) + copies d.key (bag_in L B f false img)
    pub least : (z : ℕ) → asked z → 0 < copies z (bag_in L B f true img) + copies z (bag_in L B f false img) → d.key ≤ z

  abbrev pub Picks : S.Option Departure → Type 0
  Picks (S.Some d) = Picked d
  Picks S.None = (z : ℕ) → asked z → copies z (bag_in L B f true img) + copies z (bag_in L B f false img) ≡ 0

  module _ (both : BothRead L B f img) where
    leaves : (t : Bool) {d : Departure} → Offered t d → firstly L B f d.key img ≡ t → Leaves L B f d img
    leaves t {d} o e =
        let ys = in_back L B (bucket_of t B f) img in
        let l = o.leads in
        record {
          choice = t;
          leads = l;
          chosen = e;
          stands = record {
            back = chosen-way both t l;
            there = rw (l.bucket, l.crumb) (rw (copies-carrying d.key (crumb_of t f) ys (crumb_of-lt t f)) at o.there);
            slot = rw (l.bucket, l.crumb) o.slot;
            crumb = l.small;
            key = below-copies (keys L) d.key (bag_in L B f t img) (below-carrying (keys L) (crumb_of t f) ys (chosen-read both t).list.range) o.there;
          };
        }

    abbrev xs : List ℕ
    xs = bag_in L B f true img

    abbrev ys : List ℕ
    ys = bag_in L B f false img

    -- First(f) alone offers one, or the smaller
    take-first : {d : Departure} → Offered true d → copies d.key ys ≡ 0 → ((z : ℕ) → asked z → 0 < copies z ys → d.key ≤ z) → Picked d
    take-first {d} o e q = record {
      wanted = o.wanted;
      leaves = leaves true o (from_first-there d.key xs ys _ _ o.there e);
      there = omega (arith, o.there);
      least = λ z a h. either (copies z xs) (copies z ys) h (o.least z a) (q z a);
    }

    take_second : {d : Departure} → Offered false d → copies d.key xs ≡ 0 → ((z : ℕ) → asked z → 0 < copies z xs → d.key ≤ z) → Picked d
    take_second {d} o e q = record {
      wanted = o.wanted;
      leaves = leaves false o (from_second d.key xs ys _ _ e);
      there = omega (arith, o.there);
      least = λ z a h. either (copies z xs) (copies z ys) h (q z a) (o.least z a);
    }

    module _ (n0 n1 : ℕ) (m0 : length (in_back L B (first_bucket f) img) ≡ n0) (m1 : length (in_back L B (second_bucket B f) img) ≡ n1) where
      -- both offer the same
      tie : {a b : Departure} → Offered true a → Offered false b → a.key ≡ b.key → Picks (cond (ltb n1 n0) (S.Some a) (S.Some b))
      tie {a} {b} o p e = go (ltb n1 n0) refl
        where
          go : (t : Bool) → ltb n1 n0 ≡ t → Picks (cond t (S.Some a) (S.Some b))
          go true q = record {
            wanted = o.wanted;
            leaves = leaves true o (from_either a.key xs ys _ _ o.there (rw e p.there) ∙ rw (m0, m1) q);
            there = omega (arith, o.there);
            least = λ z w h. either (copies z xs) (copies z ys) h (o.least z w) (λ k. rw e (p.least z w k));
          }
          go false q = record {
            wanted = p.wanted;
            leaves = leaves false p (from_either b.key xs ys _ _ (rw (sym e) o.there) p.there ∙ rw (m0, m1) q);
            there = omega (arith, p.there);
            least = λ z w h. either (copies z xs) (copies z ys) h (λ k. rw (sym e) (o.least z w k)) (p.least z w);
          }

      two : {a b : Departure} → Offered true a → Offered false b → Picks (pick_of (S.Some a) (S.Some b) n0 n1)
      two {a} {b} o p = go (ltb a.key b.key) (ltb b.key a.key) refl refl
        where
          go : (t u : Bool) → ltb a.key b.key ≡ t → ltb b.key a.key ≡ u
              → Picks (cond t (S.Some a) (cond u (S.Some b) (cond (ltb n1 n0) (S.Some a) (S.Some b))))
          go true u e q =
              let h = ltb-true a.key b.key e in
              take-first o (none (copies a.key ys) (λ k. omega (arith, p.least a.key o.wanted k, h))) (λ z w k. omega (arith, p.least z w k, h))
          go false true e q =
              let h = ltb-true b.key a.key q in
              take_second p (none (copies b.key xs) (λ k. omega (arith, o.least b.key p.wanted k, h))) (λ z w k. omega (arith, o.least z w k, h))
          go false false e q = tie o p (omega (arith, ltb-false a.key b.key e, ltb-false b.key a.key q))

      pub picked : (r s : S.Option Departure) → Offers true r → Offers false s → Picks (pick_of r s n0 n1)
      picked S.None S.None o p = λ z w. omega (arith, o z w, p z w)
      picked S.None (S.Some b) o p = take_second p (o b.key p.wanted) (λ z w k. absurd (omega (arith, o z w, k)))
      picked (S.Some a) S.None o p = take-first o (p a.key o.wanted) (λ z w k. absurd (omega (arith, p z w, k)))
      picked (S.Some a) (S.Some b) o p = two o p
