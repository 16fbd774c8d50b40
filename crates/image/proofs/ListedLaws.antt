-- A list written into a lent slice: from the bytes of a bucket, its length, its part, and two of them joined.
use mathlib.Core.Path.{◌≡◌, sym, ◌∙◌, ap}
use Prim.Native.Nat.{ℕ, ◌+◌, ◌-◌, ◌≤◌}
use mathlib.Core.List.{List, ◌++◌, map, append_assoc, append-nil}
use native.Mathlib.Omega.{arith}
use lib.ListN.{length, take, drop, length-append, length-drop, length-map, drop_of_length-le, take-append-drop}
use lib.Seq.{take_at, take_all, drop_at, drop-append-le, drop-drop}
use lib.Dec.{T}
use borrow.Rule.Slice.PartMut.{put_mid}
use Rattle.multiset.specs.Multisets.{ascending}
use Rattle.crumbmap.specs.Layouts.{Layout}
use Rattle.buckets.specs.Buckets.{carrying}
use Rattle.image.specs.Steps.ImageReads.{BackRead}
use Rattle.image.specs.Steps.Listed.{Listed}
use Rattle.buckets.proofs.CarryLaws.{ascending-carrying, length-carrying}
use Rattle.machine.specs.Images.{in_back}

-- a list computed from lent bytes is the same list of the bucket whose bytes they are
pub listed-bytes : (g : List ℕ → List ℕ) {lent bytes old new : List ℕ} {n : ℕ} → lent ≡ bytes → (n ≡ length (g lent)) × (new ≡ g lent ++ drop n old)
    → Listed (g bytes) old n new
listed-bytes g e l = rw (sym e) (record { many = l.0; stands = l.1 })

-- a list that was written stands at the start
module _ {xs old : List ℕ} {n : ℕ} {new : List ℕ} (l : Listed xs old n new) where
  pub listed-take : take n new ≡ xs
  listed-take = rw l.stands (take_at xs (drop n old) n (sym l.many))

  pub listed-fits : n ≤ length new
  listed-fits = omega (arith, l.many, ap length l.stands, length-append xs (drop n old))

  pub listed-length : n ≡ length (take n new)
  listed-length = l.many ∙ sym (ap length listed-take)

  pub listed_same : n ≤ length old → length new ≡ length old
  listed_same h = omega (arith, l.many, ap length l.stands, length-append xs (drop n old), length-drop n old)

  -- the same in a longer list, whose start was lent
  pub listed-part : (k : ℕ) (whole : List ℕ) → old ≡ take k whole → n ≤ length old → Listed xs whole n (new ++ drop k whole)
  listed-part k whole e h = record {
    many = l.many;
    stands = rw l.stands (append_assoc xs (drop n old) (drop k whole)
        ∙ ap (λ (r : List ℕ). xs ++ r) (sym (drop-append-le n old (drop k whole) h) ∙ ap (drop n) (rw e (take-append-drop k whole))));
  }

  -- each of its members, turned into another, written into a second list
  pub listed-mapped : (g : ℕ → ℕ) {before after : List ℕ} → after ≡ map g (take n new) ++ drop (length (take n new)) before
      → Listed (map g xs) before n after
  listed-mapped g e = record { many = l.many ∙ sym (length-map xs g); stands = rw l.many (rw listed-take at e) }

  -- a second list written behind it
  pub listed-joined : {ys last : List ℕ} {m : ℕ} → length new ≡ length old → Listed ys (take (length new - n) (drop n new)) m last
      → Listed (xs ++ ys) old (n + m) (put_mid n (length new - n) new last)
  listed-joined {ys} {last} {m} k s =
      let d : length (drop n new) ≤ length new - n = omega (arith, length-drop n new) in
      let t : drop n new ≡ drop n old = rw l.stands (drop_at xs (drop n old) n (sym l.many)) in
      let e : last ≡ ys ++ drop (n + m) old = s.stands ∙ rw (take_all (length new - n) (drop n new) d, t, drop-drop m n old) in
      record {
        many = omega (arith, l.many, s.many, length-append xs ys);
        stands = rw (listed-take, drop_of_length-le (drop n new) d, append-nil, e) (sym (append_assoc xs ys (drop (n + m) old)));
      }

-- the keys of a sound backyard bucket that carry a crumb
module _ {L : Layout} {B j : ℕ} {img : List ℕ} (r : BackRead L B j img) (c : ℕ) where
  pub carrying-order : T (ascending (carrying c (in_back L B j img)))
  carrying-order = ascending-carrying c (in_back L B j img) r.list.order

  pub carrying-room : length (carrying c (in_back L B j img)) ≤ L.back_slots
  carrying-room = omega (arith, length-carrying c (in_back L B j img), r.list.room)
