-- How a backyard bucket's bytes change where a member is put in or taken out, at any layout: `back-inserted`, `back-removed`. The last section is
-- of layout 1.
use mathlib.Core.Path.{◌≡◌, refl, sym, ap, ◌∙◌}
use Prim.Native.Nat.{ℕ, suc, ◌+◌, ◌*◌, ◌/◌, ◌%◌, ◌^◌, ◌≤◌, ◌<◌}
use mathlib.Core.List.{List, [], ◌∷◌, ◌++◌, append-nil}
use native.Mathlib.Omega.{arith}
use lib.ListN.{length, take, drop, get_or, length-drop, drop_of_length-le}
use lib.Seq.{take_all, take_at, drop_at, length-take-le}
use lib.Dec.{lit<, lit≤}
use Rattle.multiset.specs.Multisets.{added, removed, copies, below, Below}
use Rattle.multiset.specs.Digits.{grouped, padded, highs, lows}
use Rattle.crumbmap.specs.Layouts.{Layout, layout1, tags, keys, word_bytes}
use Rattle.buckets.specs.Buckets.{Fits64, slot_end, slot_bytes, crumb_room, crumb_bytes, back_bytes, word_in, back_list, BackList}
use Rattle.minifilter.specs.Steps.Readings.{SoundBack}
use Rattle.shifts.specs.Steps.Shifts.{inserted, crumb_inserted, crumb_removed}
use Rattle.edits.specs.Steps.Edits.{TagRoom1, slot_inserted, slot_removed}
use Rattle.multiset.proofs.MultisetLaws.{below-copies, length-added, length_removed}
use Rattle.multiset.proofs.RankLaws.{below_suc, below-le-length}
use Rattle.multiset.proofs.SlotLaws.{added-at, removed-at, holds-from, holds-past, holds-copy}
use Rattle.multiset.proofs.DigitLaws.{length-grouped, length-highs, length-lows}
use Rattle.buckets.proofs.HighLaws.{high_parts, highs-from, highs-past}
use Rattle.buckets.proofs.PieceLaws.{grouped-take}
use Rattle.buckets.proofs.KeyBytes.{Keys, back-keys, back-slots}
use Rattle.buckets.proofs.BucketLaws.{length-back_slots, spread-crumb_bytes}
use Rattle.minifilter.proofs.HeldLaws.{back-list, back-bytes}
use Rattle.shifts.proofs.ShiftLaws.{map-inserted, map-removed, padded-inserted, padded-removed}
use Rattle.edits.proofs.SlotEdits.{slots-inserted, slots-removed, slots-word-lt, slot-from, slot-past, key-mini}

-- ---- crumbs

module _ (L : Layout) (fits : Fits64 L) (ys : List ℕ) where
  abbrev room : ℕ
  room = crumb_room L

  crumbs-room : L.back_slots ≤ room * 2
  crumbs-room = omega (arith, fits.back)

  length-crumb_bytes : length (crumb_bytes L ys) ≡ room
  length-crumb_bytes = length-grouped 16 2 room (padded (room * 2) (lows 16 ys))

  crumbs-inserted : (y p : ℕ) → length ys < L.back_slots → p ≤ length ys
      → crumb_inserted p (y % 16) (crumb_bytes L ys) ≡ crumb_bytes L (take p ys ++ (y ∷ drop p ys))
  unfolding crumb_inserted
  crumbs-inserted y p h l =
      let cs : List ℕ = lows 16 ys in
      let len : length cs ≡ length ys = length-lows 16 ys in
      rw (length-crumb_bytes, spread-crumb_bytes L fits ys (omega arith)) (sym
      (ap (grouped 16 2 room) (ap (padded (room * 2)) (map-inserted (λ (x : ℕ). x % 16) p y ys)
      ∙ padded-inserted (room * 2) p (y % 16) cs (omega (arith, crumbs-room)) (omega arith))
      ∙ grouped-take 16 2 room (inserted p (y % 16 ∷ []) (padded (room * 2) cs))))

  crumbs-removed : (p : ℕ) → length ys ≤ L.back_slots → p < length ys → crumb_removed p (crumb_bytes L ys) ≡ crumb_bytes L (take p ys ++ drop (suc p) ys)
  unfolding crumb_removed
  crumbs-removed p h l =
      let cs : List ℕ = lows 16 ys in
      let len : length cs ≡ length ys = length-lows 16 ys in
      rw (length-crumb_bytes, spread-crumb_bytes L fits ys h) (sym
      (ap (grouped 16 2 room) (ap (padded (room * 2)) (map-removed (λ (x : ℕ). x % 16) p ys)
      ∙ padded-removed (room * 2) p cs (omega arith) (omega (arith, crumbs-room)))))

-- the bytes behind the first n put back, `room` of them
rest_put : (n room : ℕ) (b ys h r : List ℕ) (f : List ℕ → List ℕ) → b ≡ h ++ r → length h ≡ n → length r ≡ room → ys ≡ f (take room (drop n b))
    → take n b ++ (ys ++ drop room (drop n b)) ≡ h ++ f r
rest_put n room b ys h r f e l m q =
    let behind : drop n b ≡ r = rw e (drop_at h r n l) in
    let none : drop room r ≡ [] = drop_of_length-le r {i = room} (omega arith) in
    let front : take n b ≡ h = rw e (take_at h r n l) in
    rw (q, behind, none, take_all room r (omega arith), front, append-nil (f r))

-- ---- a backyard bucket

module _ (L : Layout) (fits : Fits64 L) (b : List ℕ) (bytes : Below 256 b) (s : SoundBack L b) where
  abbrev slots : ℕ
  slots = L.back_slots

  abbrev end : ℕ
  end = slot_end L slots

  abbrev ys : List ℕ
  ys = back_list L b

  abbrev keys_of : List ℕ → List ℕ
  keys_of l = highs 16 l

  list : BackList L s.size s.bucket ys
  list = back-list L fits b bytes s

  back_is : slot_bytes L slots (keys_of ys) ++ crumb_bytes L ys ≡ b
  back_is = sym (back-slots L ys) ∙ back-bytes L fits b bytes s

  keys_in : Keys L slots (keys_of ys)
  keys_in = back-keys L s.size s.bucket ys list

  pub back-word-lt : (bits : ℕ) → L.minis + length ys ≤ bits → word_in L slots b < 2 ^ bits
  back-word-lt bits h = rw back_is at (slots-word-lt L slots bits (keys_of ys) (crumb_bytes L ys) keys_in (rw (length-highs 16 ys) h))

  member-mini : (y : ℕ) → y < keys L * 16 → y / 16 / tags L < L.minis
  member-mini y h = key-mini L (y / 16) (omega arith)

  pub back-inserted : (y : ℕ) (b1 cs : List ℕ) → y < keys L * 16 → length ys < slots
      → b1 ≡ slot_inserted L (word_bytes L slots) end (below y ys) (y / 16) b → cs ≡ crumb_inserted (below y ys) (y % 16) (take (crumb_room L) (drop end b1))
      → take end b1 ++ (cs ++ drop (crumb_room L) (drop end b1)) ≡ back_bytes L (added y ys)
  back-inserted y b1 cs fit free e q =
      let p : ℕ = below y ys in
      let next : below (suc y) ys ≡ p + copies y ys = below_suc y ys in
      let new : added y ys ≡ take p ys ++ (y ∷ drop p ys) = added-at y p ys list.order (omega arith) (omega arith) in
      let put : b1 ≡ slot_bytes L slots (keys_of (added y ys)) ++ crumb_bytes L ys =
      e ∙ rw back_is at (slots-inserted L slots (keys_of ys) (crumb_bytes L ys) keys_in (y / 16) p (member-mini y fit) (rw (length-highs 16 ys) free)
      (omega (arith, slot-from L (y / 16) (keys_of ys), highs-from 16 y ys (lit< tt)))
      (omega (arith, slot-past L (y / 16) (keys_of ys), highs-past 16 y ys (lit< tt))))
      ∙ ap (λ (l : List ℕ). slot_bytes L slots l ++ crumb_bytes L ys) (sym (ap (highs 16) new ∙ map-inserted (λ (x : ℕ). x / 16) p y ys)) in
      rest_put end (crumb_room L) b1 cs (slot_bytes L slots (keys_of (added y ys))) (crumb_bytes L ys) (crumb_inserted p (y % 16)) put
      (length-back_slots L fits (added y ys) (omega (arith, length-added y ys))) (length-crumb_bytes L fits ys) q
      ∙ ap (λ (l : List ℕ). slot_bytes L slots (keys_of (added y ys)) ++ l)
      (crumbs-inserted L fits ys y p free (below-le-length y ys) ∙ ap (crumb_bytes L) (sym new))
      ∙ sym (back-slots L (added y ys))

  module _ (y p : ℕ) (h : p < length ys) (there : get_or ys p 0 ≡ y) where
    back-copy : 0 < copies y ys
    back-copy = holds-copy y p ys list.order h there

    pub back-lt : y < keys L * 16
    back-lt = below-copies (keys L * 16) y ys list.range back-copy

    pub back-removed : (b1 cs : List ℕ) → b1 ≡ slot_removed L (word_bytes L slots) end p (y / (tags L * 16)) b
        → cs ≡ crumb_removed p (take (crumb_room L) (drop end b1))
        → take end b1 ++ (cs ++ drop (crumb_room L) (drop end b1)) ≡ back_bytes L (removed y ys)
    back-removed b1 cs e q =
        let from : below y ys ≤ p = holds-from y p ys list.order h there in
        let past : p < below (suc y) ys = holds-past y p ys list.order h there in
        let new : removed y ys ≡ take p ys ++ drop (suc p) ys = removed-at y p ys list.order from past in
        let put : b1 ≡ slot_bytes L slots (keys_of (removed y ys)) ++ crumb_bytes L ys =
        e ∙ rw (back_is, high_parts (tags L) y) at (slots-removed L slots (keys_of ys) (crumb_bytes L ys) keys_in (y / 16 / tags L) p (member-mini y back-lt)
        (omega (arith, slot-from L (y / 16) (keys_of ys), highs-from 16 y ys (lit< tt)))
        (omega (arith, slot-past L (y / 16) (keys_of ys), highs-past 16 y ys (lit< tt))))
        ∙ ap (λ (l : List ℕ). slot_bytes L slots l ++ crumb_bytes L ys) (sym (ap (highs 16) new ∙ map-removed (λ (x : ℕ). x / 16) p ys)) in
        let less : length ys ≡ suc (length (removed y ys)) = length_removed y ys back-copy in
        rest_put end (crumb_room L) b1 cs (slot_bytes L slots (keys_of (removed y ys))) (crumb_bytes L ys) (crumb_removed p) put
        (length-back_slots L fits (removed y ys) (omega (arith, list.room))) (length-crumb_bytes L fits ys) q
        ∙ ap (λ (l : List ℕ). slot_bytes L slots (keys_of (removed y ys)) ++ l) (crumbs-removed L fits ys p list.room h ∙ ap (crumb_bytes L) (sym new))
        ∙ sym (back-slots L (removed y ys))

-- ---- layout 1: crumbs in the last 12 bytes

pub back-room : (b : List ℕ) (slot : ℕ) → length b ≡ 64 → slot < layout1.back_slots → TagRoom1 b 52 slot
back-room b slot e h = record { long = e; inside = lit≤ tt; even = refl; wide = lit≤ tt; room = omega arith }

pub crumbs-long : (b : List ℕ) → length b ≡ 64 → length (take (crumb_room layout1) (drop (slot_end layout1 layout1.back_slots) b)) ≡ crumb_room layout1
crumbs-long b e = length-take-le 12 (drop 52 b) (simp length-drop (omega arith))
