-- Keys put into an empty front bucket of a target, for any layout: what stays is written, then what leaves goes behind it.
-- Main results: `join-on` and `join-full`, two lists of keys put in; `take_on` and `take-full`, the bytes of one front bucket that serve;
-- `behind-nothing` and `listed-behind`, those behind a front bucket put behind the target's.
use mathlib.Core.Path.{◌≡◌, refl, sym, ◌∙◌, ap, ap₂}
use Prim.Native.Nat.{ℕ, ◌+◌, ◌*◌, ◌-◌, ◌≤◌, ◌<◌}
use mathlib.Core.Bool.{Bool, true, false, cond}
use mathlib.Core.List.{List, [], ◌++◌}
use native.Mathlib.Omega.{arith}
use native.Mathlib.Decide.{dec_le}
use lib.ListN.{length, take, drop, length-drop, drop_of_length-le}
use lib.Seq.{take_all, take_at, drop-append-le}
use lib.Dec.{eqb}
use borrow.Author.Tests.{eqb-true, eqb-false}
use Rattle.multiset.specs.Multisets.{Below}
use Rattle.multiset.proofs.MultisetLaws.{below-append, below-drop}
use Rattle.crumbmap.specs.Layouts.{Layout, keys, fronts, most_members}
use Rattle.buckets.specs.Buckets.{Fits64, FrontList}
use Rattle.machine.specs.Results.{Result, accepted, refused, and_then}
use Rattle.machine.specs.Images.{bucket_at, in_front, put, put_front}
use Rattle.machine.specs.Merges.{insert_all}
use Rattle.machine.specs.Steps.Spills.{stays, goes, push_all}
use Rattle.machine.proofs.MergeLaws.{insert_all-append}
use Rattle.machine.proofs.StayLaws.{stays-append, goes-append, stays-ascending, goes-ascending, stays-list, goes-range}
use Rattle.machine.proofs.SpillLaws.{push_all-append, inserts-spill}
use Rattle.image.specs.Steps.ImageReads.{FrontRead, occupied}
use Rattle.image.specs.Steps.Listed.{Listed}
use Rattle.image.proofs.ImageReadLaws.{front-in}
use Rattle.image.proofs.ImageWriteLaws.{put_front-same}
use Rattle.listing.specs.Steps.Listings.{behind_in, members_in, BackyardRead}
use Rattle.listing.proofs.ListingLaws.{behind-few, length-members}
use Rattle.spill.specs.Steps.Settling.{KeyList, Sharing, reached}
use Rattle.spill.proofs.SpillSteps.{then-on, then-full}
use Rattle.spill.proofs.PushLaws.{backyard-filled}
use Rattle.joining.specs.Steps.Joins.{Vacant, joined, both_inserted}
use Rattle.joining.proofs.CheckedImages.{Known, backyard-known, members-known, members-keys, members-none, members-split}

-- the first k of a list are its first n, and the rest are those past them, where k is n or all
first_some : (n k : ℕ) (a : List ℕ) → k ≤ n → (k < n → length a ≤ k) → (take k a ≡ take n a) × (take (length a - k) (drop k a) ≡ drop n a)
first_some n k a l h =
    let all : take (length a - k) (drop k a) ≡ drop k a = take_all (length a - k) (drop k a) (omega (arith, length-drop k a)) in
    elim (dec_le n k) [
      | yes m ↦ let e : k ≡ n = omega arith in (ap (λ (i : ℕ). take i a) e, all ∙ ap (λ (i : ℕ). drop i a) e)
      | no m ↦
          let r : length a ≤ k = h (omega arith) in
          let s : length a ≤ n = omega arith in
          (take_all k a r ∙ sym (take_all n a s), all ∙ drop_of_length-le a r ∙ sym (drop_of_length-le a s))
    ]

-- a part of a list that was written into the start of an array
part-listed : (from : ℕ) {n : ℕ} {xs old new : List ℕ} → Listed xs old n new → from ≤ n → take (n - from) (drop from new) ≡ drop from xs
part-listed from {n} {xs} {old} l h =
    rw (l.stands, drop-append-le from xs (drop n old) (omega (arith, l.many)))
    (take_at (drop from xs) (drop n old) (n - from) (rw (length-drop from xs, l.many)))

-- ---- into a target whose front bucket f is empty

module _ {L : Layout} (fits : Fits64 L) {B f : ℕ} {img : List ℕ} (target : Known L B img) (into : Vacant L B f img) where
  abbrev n : ℕ
  n = L.front_slots

  h : f < fronts B
  h = into.front

  read : FrontRead L f img
  read = target.read.front f h

  -- keys put in one by one are one front write and pushes
  spills : (xs : List ℕ) → Below (keys L) xs → insert_all L B f xs img ≡ push_all L B f (goes n xs []) (put_front L f (stays n xs []) img)
  spills xs range =
      inserts-spill L fits B f h xs [] img target.good (rw into.empty at read.accepts) (rw into.empty at (put_front-same read)) range

  -- ---- the keys of two lists

  module _ {a b : List ℕ} (first : KeyList L a) (second : KeyList L b) where
    kept-list : FrontList L (take n a)
    kept-list = rw (stays-ascending n a first.order) at (stays-list L a [] (rw into.empty at read.list) first.range)

    abbrev kept : List ℕ
    kept = stays n b (take n a)

    abbrev left : List ℕ
    left = goes n b (take n a)

    joined-spills : joined L B f a b img ≡ and_then (push_all L B f (drop n a) (put_front L f kept img)) (push_all L B f left)
    unfolding joined
    joined-spills =
        sym (insert_all-append L B f a b img)
        ∙ spills (a ++ b) (below-append (keys L) a b first.range second.range)
        ∙ rw (goes-append n a b [], stays-append n a b [], goes-ascending n a first.order, stays-ascending n a first.order)
        (push_all-append L B f (drop n a) left (put_front L f kept img))

    -- the first `own` of the first list are those that fit in front
    module _ (own : ℕ) (few : (own ≤ length a) × (own ≤ n) × (own < n → length a ≤ own)) where
      abbrev rest : List ℕ
      rest = take (length a - own) (drop own a)

      parts : (take own a ≡ take n a) × (rest ≡ drop n a)
      parts = first_some n own a few.1 few.2

      pub join-sharing : {over : List ℕ} → length over ≡ most_members L → Sharing L (take own a) b over × (64 * f + 64 ≤ length img)
      join-sharing e =
          (record { front = rw parts.0 kept-list; after = second; spare = e }, front-in (backyard-known target h).within)

      pub join-rest : Below (keys L) rest
      join-rest = rw parts.1 (below-drop (keys L) n a first.range)

      -- the front bucket was filled with what stays, and what leaves was listed
      module _ {now gone : List ℕ} (filled : now ≡ put_front L f (stays n b (take own a)) img) (listed : gone ≡ goes n b (take own a)) where
        written : now ≡ put_front L f kept img
        written = filled ∙ ap (λ (l : List ℕ). put_front L f (stays n b l) img) parts.0

        leaves : gone ≡ left
        leaves = listed ∙ ap (goes n b) parts.0

        pub join-behind : BackyardRead L B f now
        join-behind = backyard-filled fits kept (stays-list L b (take n a) kept-list second.range) (backyard-known target h) written

        pub join-gone : Below (keys L) gone
        join-gone = rw leaves (goes-range L b (take n a) kept-list second.range)

        -- the rest of the first list went behind, or not
        module _ (r : Bool) (later : List ℕ) (told : reached r later ≡ push_all L B f rest now) where
          pushed : reached r later ≡ push_all L B f (drop n a) (put_front L f kept img)
          pushed = told ∙ ap₂ (push_all L B f) parts.1 written

          pub join-on : r ≡ true → {R : Result (List ℕ)} → R ≡ push_all L B f gone later → R ≡ joined L B f a b img
          join-on t e = e ∙ ap (λ (l : List ℕ). push_all L B f l later) leaves ∙ sym (joined-spills ∙ then-on r later (push_all L B f left) pushed t)

          pub join-full : r ≡ false → refused 4 0 ≡ joined L B f a b img
          join-full t = sym (joined-spills ∙ then-full r later (push_all L B f left) pushed t)

  -- ---- "its 64 bytes serve as the merged front bucket"

  module _ {x : List ℕ} (source : Known L B x) where
    front-serves : insert_all L B f (members_in L B f x) img ≡ push_all L B f (behind_in L B f x) (put f (bucket_at f x) img)
    unfolding put_front
    front-serves =
        let fit = members-keys (members-known source h) in
        let split = members-split source h in
        spills (members_in L B f x) fit.range
        ∙ rw (
          goes-ascending n (members_in L B f x) fit.order,
          stays-ascending n (members_in L B f x) fit.order,
          split.0,
          split.1,
          (source.read.front f h).same,
        )

    behind-served : BackyardRead L B f (put f (bucket_at f x) img)
    unfolding put_front
    behind-served =
        let r = source.read.front f h in
        backyard-filled fits (in_front L f x) r.list (backyard-known target h) (rw r.same)

  nothing-more : (r : Result (List ℕ)) → and_then r (insert_all L B f []) ≡ and_then r (push_all L B f [])
  unfolding insert_all push_all
  nothing-more (accepted now) = refl
  nothing-more (refused n i) = refl

  -- where just one of the two front buckets has members, or neither
  module _ {a b : List ℕ} (first : Known L B a) (second : Known L B b) (one : 0 < length (in_front L f a) → length (in_front L f b) ≡ 0) where
    abbrev Taken : List ℕ → Type 0
    Taken done = BackyardRead L B f done
        × (both_inserted L B f a b img ≡ and_then (push_all L B f (behind_in L B f a) done) (push_all L B f (behind_in L B f b)))

    taken : Taken (put f (occupied L f a b) img)
    unfolding joined occupied insert_all push_all
    taken = go (eqb (length (in_front L f a)) 0) refl
      where
        go : (t : Bool) → eqb (length (in_front L f a)) 0 ≡ t → Taken (put f (cond t (bucket_at f b) (bucket_at f a)) img)
        go true e =
            let z = members-none first h fits (eqb-true (length (in_front L f a)) 0 e) in
            (behind-served second, rw (z.0, z.1) (front-serves second))
        go false e =
            let z = members-none second h fits (one (omega (arith, eqb-false (length (in_front L f a)) 0 e))) in
            (behind-served first, rw (z.0, z.1, front-serves first) (nothing-more (push_all L B f (behind_in L B f a) (put f (bucket_at f a) img))))

    -- the bytes were written
    module _ {now served : List ℕ} (lent : served ≡ occupied L f a b) (wrote : now ≡ put f served img) where
      written_one : now ≡ put f (occupied L f a b) img
      written_one = wrote ∙ ap (λ (l : List ℕ). put f l img) lent

      pub take_behind : BackyardRead L B f now
      take_behind = rw written_one taken.0

      -- those behind the first went behind, or not
      module _ (r : Bool) (later : List ℕ) (told : reached r later ≡ push_all L B f (behind_in L B f a) now) where
        pushed-one : reached r later ≡ push_all L B f (behind_in L B f a) (put f (occupied L f a b) img)
        pushed-one = told ∙ ap (push_all L B f (behind_in L B f a)) written_one

        pub take_on : r ≡ true → {R : Result (List ℕ)} → R ≡ push_all L B f (behind_in L B f b) later
            → R ≡ both_inserted L B f a b img
        take_on t e = e ∙ sym (taken.1 ∙ then-on r later (push_all L B f (behind_in L B f b)) pushed-one t)

        pub take-full : r ≡ false → refused 4 0 ≡ both_inserted L B f a b img
        take-full t = sym (taken.1 ∙ then-full r later (push_all L B f (behind_in L B f b)) pushed-one t)

-- ---- those behind a front bucket of a source

module _ {L : Layout} {B f : ℕ} {img : List ℕ} (source : Known L B img) (h : f < fronts B) where
  -- there are none
  pub behind-nothing : (target : List ℕ) → length (in_front L f img) < L.front_slots → accepted target ≡ push_all L B f (behind_in L B f img) target
  unfolding push_all
  behind-nothing target l = rw (behind-few (members-known source h) l)

  -- they are listed past those in front
  module _ {m : ℕ} {old new : List ℕ} (full : L.front_slots ≤ length (in_front L f img)) (l : Listed (members_in L B f img) old m new) where
    pub listed-many : (L.front_slots ≤ m) × (m ≤ most_members L)
    listed-many =
        let r = members-known source h in
        (omega (arith, l.many, length-members r), omega (arith, l.many, (members-keys r).room))

    pub listed-behind : take (m - L.front_slots) (drop L.front_slots new) ≡ behind_in L B f img
    listed-behind = part-listed L.front_slots l listed-many.0 ∙ (members-split source h).1

    pub listed-range : Below (keys L) (take (m - L.front_slots) (drop L.front_slots new))
    listed-range =
        rw (part-listed L.front_slots l listed-many.0)
        (below-drop (keys L) L.front_slots (members_in L B f img) (members-keys (members-known source h)).range)
