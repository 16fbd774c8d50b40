-- Lists that were written, and the members of a front bucket that was read, as the machine lists them, for any layout.
-- Main results: `bags-merged`, First(f) and Second(f) listed where the choices lead to; `members-merged`, `members-range`, `members-room`,
-- `members-at`; `counting-few`, `counting-full`, `counting-unsound`, what counting says.
use mathlib.Core.Path.{◌≡◌, refl, sym, ap, ◌∙◌}
use Prim.Native.Nat.{ℕ, ◌+◌, ◌-◌, ◌≤◌, ◌<◌}
use mathlib.Core.Bool.{Bool, true, false, cond}
use mathlib.Core.List.{List, [], ◌++◌, append_assoc}
use native.Mathlib.Omega.{arith}
use lib.ListN.{length, take, drop, length-drop}
use lib.Seq.{length-take-le, take_at, drop_at}
use lib.Dec.{T, ltb}
use borrow.Rule.Slice.PartMut.{put_mid}
use borrow.Author.Tests.{ltb-true, ltb-false, lt-ltb, le-ltb}
use Rattle.multiset.specs.Multisets.{ascending, Below}
use Rattle.crumbmap.specs.Layouts.{Layout, keys, fronts, most_behind, most_members}
use Rattle.crumbmap.specs.CrumbMap.{crumb_of}
use Rattle.crumbmap.specs.Steps.Places.{Leads}
use Rattle.crumbmap.specs.declared.Overflow.{Overflow}
use Rattle.machine.specs.Results.{accepted, refused, and_then}
use Rattle.machine.specs.Images.{in_front}
use Rattle.machine.specs.Bags.{added_all}
use Rattle.machine.specs.Machine.{backyard, overflow, bag_in, overflow_in, members_at}
use Rattle.machine.proofs.BagLaws.{length-added_all, ascending-added_all, below-added_all, added_all-nil}
use Rattle.buckets.proofs.CarryLaws.{below-carrying}
use Rattle.image.specs.Steps.ImageReads.{FrontIn, FrontRead, BothRead}
use Rattle.image.specs.Steps.Listed.{Listed}
use Rattle.image.proofs.ImageReadLaws.{chosen-read, both-accepts}
use Rattle.image.proofs.ListedLaws.{listed-fits, listed_same, listed-joined, carrying-room, carrying-order}
use Rattle.listing.specs.Steps.Listings.{bag_at, behind_in, members_in, MembersRead, Parts, joined}

-- what is left of a list behind n members
rest-length : (n : ℕ) (xs : List ℕ) → length (take (length xs - n) (drop n xs)) ≡ length xs - n
rest-length n xs = let d = length-drop n xs in length-take-le (length xs - n) (drop n xs) (omega (arith, d))

-- two lists that were written one behind the other, merged
module _ {xs ys old mid last : List ℕ} {n m : ℕ} (l : Listed xs old n mid) (s : length mid ≡ length old)
    (k : Listed ys (take (length mid - n) (drop n mid)) m last) where
  both-stand : put_mid n (length mid - n) mid last ≡ xs ++ (ys ++ drop (n + m) old)
  both-stand = (listed-joined l s k).stands ∙ append_assoc xs ys (drop (n + m) old)

  part-first : take n (put_mid n (length mid - n) mid last) ≡ xs
  part-first = rw both-stand (take_at xs (ys ++ drop (n + m) old) n (sym l.many))

  part-second : take (n + m - n) (drop n (put_mid n (length mid - n) mid last)) ≡ ys
  part-second =
      let i : n + m - n ≡ m = omega arith in
      let d : drop n (xs ++ (ys ++ drop (n + m) old)) ≡ ys ++ drop (n + m) old = drop_at xs (ys ++ drop (n + m) old) n (sym l.many) in
      rw (both-stand, i, d) (take_at ys (drop (n + m) old) m (sym k.many))

  part-rest : drop (n + m) (put_mid n (length mid - n) mid last) ≡ drop (n + m) old
  part-rest =
      let j = listed-joined l s k in
      rw j.stands (drop_at (xs ++ ys) (drop (n + m) old) (n + m) (sym j.many))

  pub listed-parts : T (ascending xs) → T (ascending ys) → Parts (put_mid n (length mid - n) mid last) n (n + m)
  listed-parts p q =
      record { split = omega arith; inside = listed-fits (listed-joined l s k); first = rw part-first p; second = rw part-second q }

  pub listed-merged : {new : List ℕ} → new ≡ joined (put_mid n (length mid - n) mid last) n (n + m) → Listed (added_all xs ys) old (n + m) new
  listed-merged j = record {
    many = omega (arith, l.many, k.many, length-added_all xs ys);
    stands = rw (part-first, part-second, part-rest) at j;
  }

-- ---- First(f) and Second(f)

-- the bag that a choice leads to, in a backyard bucket that was read
module _ {t : Bool} {B f : ℕ} {w : Overflow} (leads : Leads t B f w) where
  pub bag-is : (L : Layout) (img : List ℕ) → bag_at L B w img ≡ bag_in L B f t img
  bag-is L img = rw (leads.bucket, leads.crumb)

  bag-listed : (L : Layout) (img : List ℕ) {old new : List ℕ} {n : ℕ} → Listed (bag_at L B w img) old n new → Listed (bag_in L B f t img) old n new
  bag-listed L img l = rw (bag-is L img) at l

module _ {L : Layout} {B f : ℕ} {img : List ℕ} (both : BothRead L B f img) where
  pub bag-order : (t : Bool) → T (ascending (bag_in L B f t img))
  bag-order t = carrying-order (chosen-read both t) (crumb_of t f)

  pub bag-room : (t : Bool) → length (bag_in L B f t img) ≤ L.back_slots
  bag-room t = carrying-room (chosen-read both t) (crumb_of t f)

  bag-range : (t : Bool) → Below (keys L) (bag_in L B f t img)
  bag-range t = below-carrying (keys L) (crumb_of t f) _ (chosen-read both t).list.range

  -- both together
  pub overflow-order : T (ascending (overflow_in L B f img))
  overflow-order = ascending-added_all _ _ (bag-order false)

  pub overflow-range : Below (keys L) (overflow_in L B f img)
  overflow-range = below-added_all (keys L) _ _ (bag-range true) (bag-range false)

  pub overflow-room : length (overflow_in L B f img) ≤ most_behind L
  overflow-room = omega (arith, length-added_all (bag_in L B f true img) (bag_in L B f false img), bag-room true, bag-room false)

-- First(f), listed where its choice leads to, leaves room for Second(f)
module _ {L : Layout} {B f : ℕ} {img : List ℕ} (both : BothRead L B f img) {w : Overflow} (first : Leads true B f w) {old mid : List ℕ} {n : ℕ}
    (l : Listed (bag_at L B w img) old n mid) (room : most_behind L ≤ length old) where
  pub first-few : n ≤ L.back_slots
  first-few = omega (arith, (bag-listed first L img l).many, bag-room both true)

  first-same : length mid ≡ length old
  first-same = listed_same l (omega (arith, first-few))

  pub first-rest : L.back_slots ≤ length (take (length mid - n) (drop n mid))
  first-rest = omega (arith, rest-length n mid, first-same, first-few)

  -- and Second(f) behind it
  module _ {v : Overflow} (second : Leads false B f v) {last : List ℕ} {m : ℕ} (k : Listed (bag_at L B v img) (take (length mid - n) (drop n mid)) m last)
    where
      pub bags-room : n + m ≤ most_behind L
      bags-room = omega (arith, first-few, (bag-listed second L img k).many, bag-room both false)

      pub bags-parts : Parts (put_mid n (length mid - n) mid last) n (n + m)
      bags-parts = listed-parts (bag-listed first L img l) first-same (bag-listed second L img k) (bag-order both true) (bag-order both false)

      pub bags-merged : {new : List ℕ} → new ≡ joined (put_mid n (length mid - n) mid last) n (n + m) → Listed (overflow_in L B f img) old (n + m) new
      bags-merged j = listed-merged (bag-listed first L img l) first-same (bag-listed second L img k) j

-- ---- the members of a front bucket that was read

module _ {L : Layout} {B f : ℕ} {img : List ℕ} (r : MembersRead L B f img) where
  pub behind-few : length (in_front L f img) < L.front_slots → behind_in L B f img ≡ []
  unfolding behind_in
  behind-few h = rw (lt-ltb (length (in_front L f img)) L.front_slots h)

  pub behind-full : L.front_slots ≤ length (in_front L f img) → (behind_in L B f img ≡ overflow_in L B f img) × BothRead L B f img
  unfolding behind_in
  behind-full h = (rw (le-ltb (length (in_front L f img)) L.front_slots h), r.behind (omega (arith, r.front.list.room)))

  pub members-few : length (in_front L f img) < L.front_slots → members_in L B f img ≡ in_front L f img
  unfolding members_in
  members-few h = rw (behind-few h, added_all-nil (in_front L f img) r.front.list.order)

  pub members-full : L.front_slots ≤ length (in_front L f img) → members_in L B f img ≡ added_all (in_front L f img) (overflow_in L B f img)
  unfolding members_in
  members-full h = rw (behind-full h).0

  -- those of a full front bucket leave room for those behind it
  module _ (full : L.front_slots ≤ length (in_front L f img)) {old mid : List ℕ} {n : ℕ} (l : Listed (in_front L f img) old n mid)
      (room : most_members L ≤ length old) where
    pub front-few : n ≤ L.front_slots
    front-few = omega (arith, l.many, r.front.list.room)

    front-same : length mid ≡ length old
    front-same = listed_same l (omega (arith, front-few))

    pub front-rest : most_behind L ≤ length (take (length mid - n) (drop n mid))
    front-rest = omega (arith, rest-length n mid, front-same, front-few)

    -- and those behind them
    module _ {last : List ℕ} {m : ℕ} (k : Listed (overflow_in L B f img) (take (length mid - n) (drop n mid)) m last) where
      pub members-fit : n + m ≤ most_members L
      members-fit = omega (arith, front-few, k.many, overflow-room (behind-full full).1)

      pub members-parts : Parts (put_mid n (length mid - n) mid last) n (n + m)
      members-parts = listed-parts l front-same k r.front.list.order (overflow-order (behind-full full).1)

      pub members-merged : {new : List ℕ} → new ≡ joined (put_mid n (length mid - n) mid last) n (n + m) → Listed (members_in L B f img) old (n + m) new
      members-merged j = rw (members-full full) (listed-merged l front-same k j)

  -- what holds of nothing and of First(f) and Second(f) holds of those that count
  either : (P : List ℕ → Type 0) → P [] → (BothRead L B f img → P (overflow_in L B f img)) → P (behind_in L B f img)
  either P p q = go (ltb (length (in_front L f img)) L.front_slots) refl
    where
      go : (b : Bool) → ltb (length (in_front L f img)) L.front_slots ≡ b → P (behind_in L B f img)
      go true e = rw (behind-few (ltb-true (length (in_front L f img)) L.front_slots e)) p
      go false e = let h = behind-full (ltb-false (length (in_front L f img)) L.front_slots e) in rw h.0 (q h.1)

  pub behind-order : T (ascending (behind_in L B f img))
  behind-order = either (λ (l : List ℕ). T (ascending l)) (unfold ascending in tt) (λ b. overflow-order b)

  pub behind-room : length (behind_in L B f img) ≤ most_behind L
  behind-room = either (λ (l : List ℕ). length l ≤ most_behind L) (omega arith) (λ b. overflow-room b)

  pub length-members : length (members_in L B f img) ≡ length (in_front L f img) + length (behind_in L B f img)
  unfolding members_in
  length-members = length-added_all _ _

  pub members-room : length (members_in L B f img) ≤ most_members L
  members-room = omega (arith, length-members, r.front.list.room, behind-room)

  pub members-range : Below (keys L) (members_in L B f img)
  unfolding members_in
  members-range = below-added_all (keys L) _ _ r.front.list.range (either (Below (keys L)) tt (λ b. overflow-range b))

  pub members-at : members_at L B f img ≡ accepted (members_in L B f img)
  unfolding members_at overflow
  members-at = rw r.front.accepts (go (ltb (length (in_front L f img)) L.front_slots) refl)
    where
      go : (b : Bool) → ltb (length (in_front L f img)) L.front_slots ≡ b
          → cond b (accepted (in_front L f img)) (and_then (backyard L B f img) λ b. accepted (added_all (in_front L f img) (overflow L B f b)))
          ≡ accepted (members_in L B f img)
      go true e = rw (members-few (ltb-true (length (in_front L f img)) L.front_slots e))
      go false e =
          let h = ltb-false (length (in_front L f img)) L.front_slots e in
          rw (both-accepts (behind-full h).1, members-full h)

-- ---- how many they are

-- fewer in front than its slots; all its slots, and b0 and b1 sound; one of those unsound
module _ {L : Layout} {f : ℕ} {img : List ℕ} (front : FrontRead L f img) where
  pub counting-few : {B : ℕ} → FrontIn B f img → length (in_front L f img) < L.front_slots
      → MembersRead L B f img × (length (members_in L B f img) ≡ length (in_front L f img))
  counting-few {B} i h =
      let m : MembersRead L B f img = record { within = i; front = front; behind = λ k. absurd (omega arith) } in
      (m, ap length (members-few m h))

  pub counting-full : {B : ℕ} → FrontIn B f img → L.front_slots ≤ length (in_front L f img) → BothRead L B f img
      → MembersRead L B f img
      × (length (members_in L B f img) ≡ length (in_front L f img) + length (bag_in L B f true img) + length (bag_in L B f false img))
  counting-full {B} i h both =
      let m : MembersRead L B f img = record { within = i; front = front; behind = λ k. both } in (
        m,
        omega (
          arith,
          ap length (members-full m h),
          length-added_all (in_front L f img) (overflow_in L B f img),
          length-added_all (bag_in L B f true img) (bag_in L B f false img),
        ),
      )

  pub counting-unsound : (B : ℕ) → L.front_slots ≤ length (in_front L f img) → {i : ℕ} → backyard L B f img ≡ refused 3 i
      → members_at L B f img ≡ refused 3 i
  unfolding members_at
  counting-unsound B h e = rw (front.accepts, le-ltb (length (in_front L f img)) L.front_slots h, e)

-- a front bucket of an image has a number that every fingerprint allows
pub front-small : {B f : ℕ} {img : List ℕ} → FrontIn B f img → f < fronts 65536
unfolding fronts
front-small i = omega (arith, i.front, i.whole.small)
