-- The member that leaves the backyard: the smallest of First(f) and Second(f), which heads both together, or a copy of a key.
-- Main results: `least-member`, `least-nothing`, `copy-member`, `copy-nothing`.
use mathlib.Core.Path.{◌≡◌, refl, sym}
use Prim.Native.Nat.{ℕ, ◌+◌, ◌*◌, ◌≤◌, ◌<◌}
use mathlib.Core.Bool.{Bool, true, false}
use mathlib.Core.List.{List, [], ◌∷◌}
use mathlib.Core.Option.{Option, none, some}
use native.Mathlib.Nat.{le_antisymm}
use native.Mathlib.Omega.{arith}
use lib.Dec.{T}
use borrow.Author.Tests.{lt-ltb}
use Rattle.std.specs.Prelude as S
use Rattle.multiset.specs.Multisets.{copies, ascending, Found, found_in}
use Rattle.multiset.proofs.RankLaws.{absent-copies, found-copies}
use Rattle.multiset.proofs.MultisetLaws.{hit_same, copies-cons, copies-none}
use Rattle.multiset.proofs.OrderLaws.{head-least}
use Rattle.crumbmap.specs.Layouts.{Layout}
use Rattle.crumbmap.specs.CrumbMap.{bucket_of, crumb_of}
use Rattle.crumbmap.specs.Steps.Places.{Leads}
use Rattle.crumbmap.specs.declared.Overflow.{Overflow}
use Rattle.crumbmap.proofs.CrumbMapLaws.{crumb_of-lt}
use Rattle.buckets.specs.Buckets.{carrying}
use Rattle.search.specs.Steps.Searches.{first_of}
use Rattle.machine.specs.Images.{in_back}
use Rattle.machine.specs.Bags.{added_all, has}
use Rattle.machine.specs.Machine.{bag_in, overflow_in}
use Rattle.machine.proofs.BagLaws.{copies-added_all, ascending-added_all}
use Rattle.buckets.proofs.CarryLaws.{copies-carrying, ascending-carrying}
use Rattle.image.specs.Steps.ImageReads.{BackRead, Reads}
use Rattle.image.specs.declared.BackReading.{BackReading}
use Rattle.image.proofs.ImageReadLaws.{both_read}
use Rattle.deletion.specs.Steps.Deletions.{pick_of, departing, leaving, least_in, copy_in, Leaves}
use Rattle.deletion.specs.declared.Departure.{Departure}
use Rattle.deletion.proofs.ChoiceLaws.{Offers, Picks, Picked, picked}

-- ---- what one of the two bags offers

-- any member; a copy of x
abbrev any : ℕ → Type 0
any z = Unit {0}

abbrev just : ℕ → ℕ → Type 0
just x z = z ≡ x

module _ (L : Layout) (t : Bool) (B f : ℕ) (img : List ℕ) (w : Overflow) (leads : Leads t B f w) where
  offer-list : (ys xs : List ℕ) → T (ascending xs) → ys ≡ in_back L B (bucket_of t B f) img → xs ≡ bag_in L B f t img
      → Offers L B f img any t (departing w (first_of w.crumb ys xs))
  unfolding copies
  offer-list ys [] a e q = λ z _. rw (sym q)
  offer-list ys (x ∷ xs) a e q = record {
    wanted = tt;
    leads = leads;
    there = rw (sym q) (omega (arith, copies-cons x x xs, hit_same x));
    least = λ z _ k. head-least z x xs a (rw (sym q) at k);
    slot = rw (leads.crumb, e);
  }

  offer-least : BackRead L B (bucket_of t B f) img → Offers L B f img any t (least_in L B w img)
  offer-least r =
      let ys = in_back L B w.bucket.0 img in
      let same : ys ≡ in_back L B (bucket_of t B f) img = rw leads.bucket in
      offer-list ys (carrying w.crumb ys) (rw same (ascending-carrying w.crumb (in_back L B (bucket_of t B f) img) r.list.order)) same
      (rw (leads.bucket, leads.crumb))

offer-copy : (L : Layout) (t : Bool) (B f x : ℕ) (img : List ℕ) (r : BackReading) → Reads L t B f x img r
    → Offers L B f img (just x) t (copy_in L B x r.way img)
offer-copy L t B f x img r s = go (found_in y ys) refl
  where
    y : ℕ
    y = x * 16 + r.way.crumb

    ys : List ℕ
    ys = in_back L B r.way.bucket.0 img

    order : T (ascending ys)
    order = rw s.leads.bucket s.read.list.order

    same : copies x (bag_in L B f t img) ≡ copies y ys
    same = rw (s.leads.bucket, s.leads.crumb) (copies-carrying x (crumb_of t f) (in_back L B (bucket_of t B f) img) (crumb_of-lt t f))

    go : (o : Option Found) → found_in y ys ≡ o → Offers L B f img (just x) t (leaving r.way x o)
    go (some a) e =
        let there = found-copies y ys a order e in
        let at = rw (s.leads.bucket, s.leads.crumb) at there.0 in
        record { wanted = refl; leads = s.leads; there = omega (arith, same, there.2); least = λ z q k. omega (arith, q); slot = at }
    go none e = λ z q. rw q (omega (arith, same, absent-copies y ys order e))

-- ---- what both offer

-- the head of an ascending list is its least member
headed : (m : ℕ) (l : List ℕ) → T (ascending l) → 0 < copies m l → ((z : ℕ) → 0 < copies z l → m ≤ z) → (us : List ℕ) × (l ≡ m ∷ us)
unfolding copies
headed m [] a h least = absurd (omega arith)
headed m (u ∷ us) a h least =
    let c : 0 < copies u (u ∷ us) = omega (arith, copies-cons u u us, hit_same u) in
    let e : m ≡ u = le_antisymm (least u c) (head-least m u us a h) in
    (us, rw e)

module _ {L : Layout} {B f x : ℕ} {img : List ℕ} {a b : BackReading} (p : Reads L true B f x img a) (q : Reads L false B f x img b) where
  module _ {r : S.Option Departure} (said : r ≡ pick_of (least_in L B a.way img) (least_in L B b.way img) a.members b.members) where
    least-picks : Picks L B f img any r
    least-picks = rw said (picked L B f img any (both_read p q) a.members b.members p.many q.many (least_in L B a.way img) (least_in L B b.way img)
        (offer-least L true B f img a.way p.leads p.read) (offer-least L false B f img b.way q.leads q.read))

    pub least-nothing : r ≡ S.None → overflow_in L B f img ≡ []
    least-nothing e =
        let n : Picks L B f img any S.None = rw e at least-picks in
        copies-none (overflow_in L B f img) (λ z. rw (copies-added_all z (bag_in L B f true img) (bag_in L B f false img)) (n z tt))

    pub least-member : {d : Departure} → r ≡ S.Some d → Leaves L B f d img × ((us : List ℕ) × (overflow_in L B f img ≡ d.key ∷ us))
    least-member {d} e =
        let m : Picked L B f img any d = rw e at least-picks in
        let xs = bag_in L B f true img in
        let ys = bag_in L B f false img in (
          m.leaves,
          headed d.key (added_all xs ys)
              (ascending-added_all xs ys (ascending-carrying (crumb_of false f) (in_back L B (bucket_of false B f) img) q.read.list.order))
              (rw (copies-added_all d.key xs ys) m.there) (λ z k. m.least z tt (rw (copies-added_all z xs ys) at k)),
        )

  module _ {r : S.Option Departure} (said : r ≡ pick_of (copy_in L B x a.way img) (copy_in L B x b.way img) a.members b.members) where
    copy-picks : Picks L B f img (just x) r
    copy-picks = rw said (picked L B f img (just x) (both_read p q) a.members b.members p.many q.many (copy_in L B x a.way img) (copy_in L B x b.way img)
        (offer-copy L true B f x img a p) (offer-copy L false B f x img b q))

    pub copy-nothing : r ≡ S.None → has x (overflow_in L B f img) ≡ false
    unfolding has
    copy-nothing e =
        let n : Picks L B f img (just x) S.None = rw e at copy-picks in
        rw (copies-added_all x (bag_in L B f true img) (bag_in L B f false img), n x refl)

    pub copy-member : {d : Departure} → r ≡ S.Some d → Leaves L B f d img × (d.key ≡ x) × (has x (overflow_in L B f img) ≡ true)
    unfolding has
    copy-member {d} e =
        let m : Picked L B f img (just x) d = rw e at copy-picks in
        let o : 0 < copies x (overflow_in L B f img) = rw (copies-added_all x (bag_in L B f true img) (bag_in L B f false img)) (rw m.wanted at m.there) in
        (m.leaves, m.wanted, lt-ltb 0 (copies x (overflow_in L B f img)) o)
