-- A bucket's bytes and members undo each other, both ways, front and backyard, for any layout whose buckets fit 64 bytes;
-- what a sound bucket's members are like.
use mathlib.Core.Path.{◌≡◌, refl, ◌∙◌}
use Prim.Native.Nat.{ℕ, ◌*◌, ◌-◌, ◌≤◌}
use mathlib.Core.List.{List, [], append-nil}
use mathlib.Core.Option.{some, bind, bind-eq-some_iff}
use native.Mathlib.Omega.{arith}
use lib.ListN.{length, drop, replicate, length-append, length-drop, take-append-drop}
use lib.Seq.{take_all, drop_at}
use lib.Dec.{T, lit<, lit≤}
use Rattle.multiset.specs.Multisets.{ascending, all_zero, Below}
use Rattle.multiset.specs.Digits.{padded, joined, highs, lows, spread}
use Rattle.crumbmap.specs.Layouts.{Layout, keys, layout1}
use Rattle.buckets.specs.Buckets.{FrontList, BackList, Fits64, given, valid, slot_end, crumb_room, crumb_bytes, crumbs_in, slot_bytes, slot_keys, front_bytes, back_bytes, front_members, back_members, front_list, back_list}
use Rattle.multiset.proofs.DigitLaws.{below-spread, length-spread, grouped-spread, spread-grouped, length-padded, padded-rest, padded-take, below-padded, length-highs, length-lows, below-highs, below-lows, ascending-highs, length-joined, highs-joined, below-joined, joined-padded, padded-unused, padded-joined, length-grouped}
use Rattle.multiset.proofs.MultisetLaws.{below-drop}
use Rattle.buckets.proofs.SlotBytes.{given-true, given-some, length-slot_bytes, slot_keys-slot_bytes, slot_bytes-slot_keys, slot_keys-list}

-- ---- a bucket that was read, by the tests that it passed

pub record ReadFront (L : Layout) (b xs : List ℕ) : Type 0 where
  pub slots : slot_keys L L.front_slots b ≡ some xs
  pub order : T (ascending xs)
  pub zeros : T (all_zero (drop (slot_end L L.front_slots) b))

pub record ReadBack (L : Layout) (B j : ℕ) (b ys : List ℕ) : Type 0 where
  pub keys_in : List ℕ
  pub slots : slot_keys L L.back_slots b ≡ some keys_in
  pub order : T (ascending ys)
  pub zeros : T (all_zero (drop (length keys_in) (crumbs_in L b)))
  pub crumbs : T (valid B j ys)
  pub members : joined 16 keys_in (crumbs_in L b) ≡ ys

module _ (L : Layout) where
  pub front_read : (b xs : List ℕ) → ReadFront L b xs → front_members L b ≡ some xs
  unfolding front_members bind
  front_read b xs r =
      rw (r.slots, given-true (ascending xs) _ r.order, given-true (all_zero (drop (slot_end L L.front_slots) b)) _ r.zeros)

  front-checked : (b xs zs : List ℕ) → slot_keys L L.front_slots b ≡ some zs
      → given (ascending zs) (given (all_zero (drop (slot_end L L.front_slots) b)) (some zs)) ≡ some xs → ReadFront L b xs
  front-checked b xs zs s e =
      let up : T (ascending zs) × _ = given-some (ascending zs) _ xs e in
      let zero : T (all_zero (drop (slot_end L L.front_slots) b)) × _ = given-some (all_zero (drop (slot_end L L.front_slots) b)) _ xs up.1 in
      let same : zs ≡ xs = cc zero.1 in
      record { slots = rw same at s; order = rw same at up.0; zeros = zero.0 }

  pub read-front : (b xs : List ℕ) → front_members L b ≡ some xs → ReadFront L b xs
  unfolding front_members
  read-front b xs e =
      let found : (zs : List ℕ) × (slot_keys L L.front_slots b ≡ some zs) × (_ ≡ some xs) = (bind-eq-some_iff _ _).0 e in
      front-checked b xs found.0 found.1 found.2

  pub back_read : (B j : ℕ) (b ys : List ℕ) → ReadBack L B j b ys → back_members L B j b ≡ some ys
  unfolding back_members bind
  back_read B j b ys r = rw (
    r.slots,
    r.members,
    given-true (ascending ys) _ r.order,
    given-true (all_zero (drop (length r.keys_in) (crumbs_in L b))) _ r.zeros,
    given-true (valid B j ys) _ r.crumbs,
  )

  back-checked : (B j : ℕ) (b ys zs xs : List ℕ) → joined 16 xs (crumbs_in L b) ≡ zs → slot_keys L L.back_slots b ≡ some xs
      → given (ascending zs) (given (all_zero (drop (length xs) (crumbs_in L b))) (given (valid B j zs) (some zs))) ≡ some ys → ReadBack L B j b ys
  back-checked B j b ys zs xs m s e =
      let up : T (ascending zs) × _ = given-some (ascending zs) _ ys e in
      let zero : T (all_zero (drop (length xs) (crumbs_in L b))) × _ = given-some (all_zero (drop (length xs) (crumbs_in L b))) _ ys up.1 in
      let right : T (valid B j zs) × _ = given-some (valid B j zs) _ ys zero.1 in
      let same : zs ≡ ys = cc right.1 in
      record { keys_in = xs; slots = s; order = rw same at up.0; zeros = zero.0; crumbs = rw same at right.0; members = m ∙ same }

  pub read_back : (B j : ℕ) (b ys : List ℕ) → back_members L B j b ≡ some ys → ReadBack L B j b ys
  unfolding back_members
  read_back B j b ys e =
      let found : (xs : List ℕ) × (slot_keys L L.back_slots b ≡ some xs) × (_ ≡ some ys) = (bind-eq-some_iff _ _).0 e in
      back-checked B j b ys (joined 16 found.0 (crumbs_in L b)) found.0 refl found.1 found.2

  -- ---- the members of a sound bucket are those that its list lists

  pub front_list-members : (b xs : List ℕ) → front_members L b ≡ some xs → front_list L b ≡ xs
  unfolding front_list
  front_list-members b xs e = rw e

  pub back_list-members : (B j : ℕ) (b ys : List ℕ) → back_members L B j b ≡ some ys → back_list L b ≡ ys
  unfolding back_list
  back_list-members B j b ys e = let r = read_back B j b ys e in rw r.slots r.members

-- the layout of document 01
pub fits1 : Fits64 layout1
fits1 = record { minis = lit< tt; slots = lit< tt; front = lit≤ tt; back = lit≤ tt }

-- ---- the bytes behind word and tags

module _ (L : Layout) (b : List ℕ) where
  length_rest : length b ≡ 64 → length (drop (slot_end L L.back_slots) b) ≡ crumb_room L
  length_rest l = rw (length-drop (slot_end L L.back_slots) b, l)

  pub length-crumbs_in : length b ≡ 64 → length (crumbs_in L b) ≡ crumb_room L * 2
  length-crumbs_in l = rw (length-spread 16 2 (drop (slot_end L L.back_slots) b), length_rest l)

  pub below-crumbs_in : Below 16 (crumbs_in L b)
  below-crumbs_in = below-spread 16 2 (drop (slot_end L L.back_slots) b) (omega arith)

module _ (L : Layout) (fits : Fits64 L) where
  -- ---- lengths

  pub length-front_bytes : (xs : List ℕ) → length xs ≤ L.front_slots → length (front_bytes L xs) ≡ 64
  unfolding front_bytes
  length-front_bytes xs h =
      length-padded 64 (slot_bytes L L.front_slots xs) (omega (arith, length-slot_bytes L L.front_slots xs h, fits.front))

  pub length-back_slots : (ys : List ℕ) → length ys ≤ L.back_slots → length (slot_bytes L L.back_slots (highs 16 ys)) ≡ slot_end L L.back_slots
  length-back_slots ys h = length-slot_bytes L L.back_slots (highs 16 ys) (omega (arith, length-highs 16 ys))

  pub length-back_bytes : (ys : List ℕ) → length ys ≤ L.back_slots → length (back_bytes L ys) ≡ 64
  unfolding back_bytes
  length-back_bytes ys h = omega (
    arith,
    length-append (slot_bytes L L.back_slots (highs 16 ys))
        (crumb_bytes L ys),
    length-back_slots ys h,
    length-grouped 16 2 (crumb_room L) (padded (crumb_room L * 2) (lows 16 ys)),
    fits.back,
  )

  -- ---- members of bytes of members

  pub front_members-front_bytes : (xs : List ℕ) → FrontList L xs → front_members L (front_bytes L xs) ≡ some xs
  unfolding front_bytes padded
  front_members-front_bytes xs h =
      let s : List ℕ = slot_bytes L L.front_slots xs in
      front_read L (front_bytes L xs) xs (record {
        slots = slot_keys-slot_bytes L L.front_slots xs (replicate {A = ℕ} (64 - length s) 0) h.order h.range h.room;
        order = h.order;
        zeros = padded-rest 64 (slot_end L L.front_slots) s (length-slot_bytes L L.front_slots xs h.room);
      })

  pub spread-crumb_bytes : (ys : List ℕ) → length ys ≤ L.back_slots → spread 16 2 (crumb_bytes L ys) ≡ padded (crumb_room L * 2) (lows 16 ys)
  spread-crumb_bytes ys h =
      let cs : List ℕ = padded (crumb_room L * 2) (lows 16 ys) in
      let long : length cs ≡ crumb_room L * 2 = length-padded (crumb_room L * 2) (lows 16 ys) (omega (arith, length-lows 16 ys, fits.back)) in
      rw (spread-grouped 16 2 (crumb_room L) cs (below-padded 16 (crumb_room L * 2) (lows 16 ys) (omega arith) (below-lows 16 ys (omega arith))) (omega arith))
      (take_all (crumb_room L * 2) cs (omega arith))

  pub crumbs_in-back_bytes : (ys : List ℕ) → length ys ≤ L.back_slots → crumbs_in L (back_bytes L ys) ≡ padded (crumb_room L * 2) (lows 16 ys)
  unfolding back_bytes
  crumbs_in-back_bytes ys h =
      rw (drop_at (slot_bytes L L.back_slots (highs 16 ys)) (crumb_bytes L ys) (slot_end L L.back_slots) (length-back_slots ys h)) (spread-crumb_bytes ys h)

  slot_keys-back_bytes : (B j : ℕ) (ys : List ℕ) → BackList L B j ys → slot_keys L L.back_slots (back_bytes L ys) ≡ some (highs 16 ys)
  unfolding back_bytes
  slot_keys-back_bytes B j ys h =
      slot_keys-slot_bytes L L.back_slots (highs 16 ys) (crumb_bytes L ys)
      (ascending-highs 16 ys (omega arith) h.order) (below-highs (keys L) 16 ys (omega arith) h.range) (omega (arith, length-highs 16 ys, h.room))

  pub back_members-back_bytes : (B j : ℕ) (ys : List ℕ) → BackList L B j ys → back_members L B j (back_bytes L ys) ≡ some ys
  back_members-back_bytes B j ys h = back_read L B j (back_bytes L ys) ys (record {
    keys_in = highs 16 ys;
    slots = slot_keys-back_bytes B j ys h;
    order = h.order;
    zeros = rw (crumbs_in-back_bytes ys h.room) (padded-unused 16 (crumb_room L * 2) ys);
    crumbs = h.crumbs;
    members = rw (crumbs_in-back_bytes ys h.room) (joined-padded 16 (crumb_room L * 2) ys (omega arith));
  })

  -- ---- what was read, and the bytes of what was read

  pub front_members-list : (b xs : List ℕ) → Below 256 b → length b ≡ 64 → front_members L b ≡ some xs → FrontList L xs
  front_members-list b xs bytes l e =
      let r : ReadFront L b xs = read-front L b xs e in
      let list : Below (keys L) xs × (length xs ≤ L.front_slots) =
      slot_keys-list L L.front_slots b xs bytes (omega (arith, fits.front)) r.slots in
      record { order = r.order; range = list.0; room = list.1 }

  pub front_bytes-front_members : (b xs : List ℕ) → Below 256 b → length b ≡ 64 → front_members L b ≡ some xs → front_bytes L xs ≡ b
  unfolding front_bytes
  front_bytes-front_members b xs bytes l e =
      let r : ReadFront L b xs = read-front L b xs e in
      rw (slot_bytes-slot_keys L L.front_slots b xs bytes (omega (arith, fits.front)) r.slots)
      (padded-take 64 (slot_end L L.front_slots) b l fits.front r.zeros)

  module _ (B j : ℕ) (b ys : List ℕ) (bytes : Below 256 b) (l : length b ≡ 64) (r : ReadBack L B j b ys) where
    many : length (crumbs_in L b) ≡ crumb_room L * 2
    many = length-crumbs_in L b l

    small : Below 16 (crumbs_in L b)
    small = below-crumbs_in L b

    keys_in-list : Below (keys L) r.keys_in × (length r.keys_in ≤ L.back_slots)
    keys_in-list = slot_keys-list L L.back_slots b r.keys_in bytes (omega (arith, fits.back)) r.slots

    keys_in-room : length r.keys_in ≤ crumb_room L * 2
    keys_in-room = omega (arith, keys_in-list.1, fits.back)

    back-list : BackList L B j ys
    back-list = record {
      order = r.order;
      range = rw (← r.members) (below-joined (keys L) 16 r.keys_in (crumbs_in L b) keys_in-list.0 small);
      room = rw (← r.members) (omega (arith, length-joined 16 r.keys_in (crumbs_in L b) (omega (arith, many, keys_in-room)), keys_in-list.1));
      crumbs = r.crumbs;
    }

    highs-back : highs 16 ys ≡ r.keys_in
    highs-back = rw (← r.members) (highs-joined 16 r.keys_in (crumbs_in L b) (omega (arith, many, keys_in-room)) small)

    crumbs-back : crumb_bytes L ys ≡ drop (slot_end L L.back_slots) b
    crumbs-back =
        rw (← r.members, padded-joined 16 (crumb_room L * 2) r.keys_in (crumbs_in L b) many keys_in-room small r.zeros)
        (rw (length_rest L b l, append-nil (crumbs_in L b)) at
        (grouped-spread 16 2 (drop (slot_end L L.back_slots) b) [] (omega arith) (below-drop 256 (slot_end L L.back_slots) b bytes)))

    back-bytes : back_bytes L ys ≡ b
    unfolding back_bytes
    back-bytes = rw (highs-back, crumbs-back, slot_bytes-slot_keys L L.back_slots b r.keys_in bytes (omega (arith, fits.back)) r.slots)
        (take-append-drop (slot_end L L.back_slots) b)

  pub back_members-list : (B j : ℕ) (b ys : List ℕ) → Below 256 b → length b ≡ 64 → back_members L B j b ≡ some ys → BackList L B j ys
  back_members-list B j b ys bytes l e = back-list B j b ys bytes l (read_back L B j b ys e)

  pub back_bytes-back_members : (B j : ℕ) (b ys : List ℕ) → Below 256 b → length b ≡ 64 → back_members L B j b ≡ some ys → back_bytes L ys ≡ b
  back_bytes-back_members B j b ys bytes l e = back-bytes B j b ys bytes l (read_back L B j b ys e)
