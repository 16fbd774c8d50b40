-- What a checked image gives, for any layout: it is good and each of its buckets was read, and the members of a front bucket are those in front and
-- after them those behind. Main results: `known`, `checked-of`; `backyard-known`, `members-known`, `members-keys`, `members-none`, `members-split`.
use mathlib.Core.Path.{◌≡◌, refl, ◌∙◌}
use Prim.Native.Nat.{ℕ, ◌≤◌, ◌<◌}
use mathlib.Core.Bool.{Bool, true, false, cond}
use mathlib.Core.List.{List, [], ◌∷◌, ◌++◌, append-nil}
use native.Mathlib.Omega.{arith}
use native.Mathlib.Decide.{dec_le}
use lib.ListN.{length, take, drop, get_or, drop_of_length-le}
use lib.Seq.{take_all, take_at, drop_at}
use lib.Dec.{ltb}
use Rattle.multiset.specs.Multisets.{copies}
use Rattle.multiset.proofs.MultisetLaws.{copies-append}
use Rattle.multiset.proofs.OrderLaws.{ascending-unique, largest-max, ascending-append}
use Rattle.crumbmap.specs.Layouts.{Layout, fronts}
use Rattle.crumbmap.specs.CrumbMap.{first_bucket, second_bucket}
use Rattle.crumbmap.proofs.CrumbMapLaws.{bucket_of-lt}
use Rattle.buckets.specs.Buckets.{Fits64}
use Rattle.machine.specs.Images.{in_front}
use Rattle.machine.specs.Bags.{added_all}
use Rattle.machine.specs.Machine.{overflow_in}
use Rattle.machine.proofs.BagLaws.{copies-added_all, ascending-added_all}
use Rattle.machine.proofs.Invariant.{Good}
use Rattle.machine.proofs.OverflowLaws.{copies-overflow_in}
use Rattle.machine.proofs.CheckLaws.{check-good, good-checked}
use Rattle.image.proofs.ImageReadLaws.{whole_of, whole-sized}
use Rattle.listing.specs.Steps.Listings.{behind_in, members_in, BackyardRead, MembersRead}
use Rattle.listing.proofs.ListingLaws.{behind-few, behind-order, members-range, members-room}
use Rattle.validation.specs.Steps.Passes.{AllRead}
use Rattle.validation.proofs.CheckSteps.{front-was-read, back-was-read}
use Rattle.spill.specs.Steps.Settling.{KeyList}
use Rattle.joining.specs.Steps.Joins.{Checked}

-- ---- the image

-- it is good, and each of its buckets was read
pub record Known (L : Layout) (B : ℕ) (img : List ℕ) : Type 0 where
  pub good : Good L B img
  pub read : AllRead L B img

pub checked-of : {L : Layout} {B : ℕ} {img : List ℕ} → Good L B img → Checked L B img
checked-of {L} {B} {img} good = record { size = whole_of img good.size; passed = check-good L B img good }

-- where each number of it is a byte
module _ {L : Layout} (fits : Fits64 L) {B : ℕ} {img : List ℕ} (bytes : (i : ℕ) → get_or img i 0 < 256) where
  pub known-good : Good L B img → Known L B img
  known-good good =
      let whole = whole_of img good.size in
      record {
        good = good;
        read = record {
          whole = whole;
          front = λ f h. front-was-read fits whole bytes f h (good.front f h);
          back = λ j h. back-was-read fits whole bytes j h (good.back j h);
        };
      }

  pub known : Checked L B img → Known L B img
  known c = known-good (good-checked L fits B img bytes (whole-sized c.size) c.passed)

-- ---- the members of a front bucket

no-members : (xs : List ℕ) → length xs ≡ 0 → xs ≡ []
no-members [] e = refl
no-members (x ∷ xs) e = absurd (omega arith)

pub members-keys : {L : Layout} {B f : ℕ} {img : List ℕ} → MembersRead L B f img → KeyList L (members_in L B f img)
unfolding members_in
members-keys {L} {B} {f} {img} r =
    record { order = ascending-added_all (in_front L f img) (behind_in L B f img) (behind-order r); range = members-range r; room = members-room r }

module _ {L : Layout} {B : ℕ} {img : List ℕ} (k : Known L B img) {f : ℕ} (h : f < fronts B) where
  pub backyard-known : BackyardRead L B f img
  backyard-known = record {
    within = record { whole = k.read.whole; front = h };
    both = record {
      first = k.read.back (first_bucket f) (bucket_of-lt true B f h);
      second = k.read.back (second_bucket B f) (bucket_of-lt false B f h);
    };
  }

  pub members-known : MembersRead L B f img
  members-known = record { within = backyard-known.within; front = k.read.front f h; behind = λ _. backyard-known.both }

  -- none behind is smaller than one in front
  behind-after : (x y : ℕ) → 0 < copies x (in_front L f img) → 0 < copies y (behind_in L B f img) → x ≤ y
  unfolding behind_in copies
  behind-after x y c d = go (ltb (length (in_front L f img)) L.front_slots) d
    where
      go : (b : Bool) → 0 < copies y (cond b [] (overflow_in L B f img)) → x ≤ y
      go true e = absurd (omega arith)
      go false e =
          let t = (k.good.turn f y h (omega (arith, copies-overflow_in L B f img y))).1 in
          omega (arith, t, largest-max x (in_front L f img) (k.good.front_good f h).order c)

  members-parts : members_in L B f img ≡ in_front L f img ++ behind_in L B f img
  unfolding members_in
  members-parts =
      let order = behind-order members-known in
      ascending-unique (added_all (in_front L f img) (behind_in L B f img)) (in_front L f img ++ behind_in L B f img)
      (ascending-added_all (in_front L f img) (behind_in L B f img) order)
      (ascending-append (in_front L f img) (behind_in L B f img) (k.good.front_good f h).order order behind-after)
      (λ z. omega (arith, copies-added_all z (in_front L f img) (behind_in L B f img), copies-append z (in_front L f img) (behind_in L B f img)))

  pub members-none : Fits64 L → length (in_front L f img) ≡ 0 → (members_in L B f img ≡ []) × (behind_in L B f img ≡ [])
  members-none fits e =
      let few : behind_in L B f img ≡ [] = behind-few members-known (omega (arith, fits.slots)) in
      (members-parts ∙ rw (no-members (in_front L f img) e, few), few)

  -- as many as the slots are in front, the others behind
  pub members-split : (take L.front_slots (members_in L B f img) ≡ in_front L f img)
      × (drop L.front_slots (members_in L B f img) ≡ behind_in L B f img)
  members-split = rw members-parts (elim (dec_le L.front_slots (length (in_front L f img))) [
    | yes l ↦
        let e : length (in_front L f img) ≡ L.front_slots = omega (arith, (k.good.front_good f h).room) in
        (take_at (in_front L f img) (behind_in L B f img) L.front_slots e, drop_at (in_front L f img) (behind_in L B f img) L.front_slots e)
    | no m ↦
        let l : length (in_front L f img) ≤ L.front_slots = omega arith in
        rw (behind-few members-known (omega arith), append-nil (in_front L f img))
        (take_all L.front_slots (in_front L f img) l, drop_of_length-le (in_front L f img) l)
  ])
