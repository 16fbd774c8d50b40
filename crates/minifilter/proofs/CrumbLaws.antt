-- What the reader asks of a backyard bucket besides word and slots, at any layout: what stands behind the last slot's crumb, and the crumbs of the
-- members. Main results: `reading-back`, `reading-room`, `marked-valid`. The last section is of layout 1.
use mathlib.Core.Path.{◌≡◌, refl, sym, ◌∙◌, ap}
use Prim.Native.Nat.{ℕ, zero, suc, ◌+◌, ◌*◌, ◌/◌, ◌%◌, ◌^◌, ◌≤◌, ◌<◌}
use mathlib.Core.Bool.{Bool, true, false, ◌&&◌}
use mathlib.Core.List.{List, [], ◌∷◌}
use mathlib.Core.Option.{Option, none, some, bind}
use native.Mathlib.Omega.{arith}
use lib.ListN.{length, take, drop, get_or, drop_of_length-le}
use lib.Seq.{drop-cons, drop-drop}
use lib.Dec.{eqb, eqb-suc-zero}
use borrow.Author.Tests.{eqb-true, eq-eqb}
use Rattle.std.specs.Prelude as S
use Rattle.multiset.specs.Multisets.{ascending, all_zero, below, Below}
use Rattle.multiset.specs.Digits.{digits, spread, joined}
use Rattle.crumbmap.specs.Layouts.{Layout, layout1}
use Rattle.crumbmap.specs.CrumbMap.{home}
use Rattle.crumbmap.specs.Steps.Marks.{Marks, bit_of}
use Rattle.buckets.specs.Buckets.{Fits64, given, is_some, valid, slot_keys, crumbs_in, back_members}
use Rattle.minifilter.specs.Steps.Readings.{reading_of}
use Rattle.minifilter.specs.Steps.Slots.{slot_list, marked}
use Rattle.minifilter.specs.declared.Reading.{Reading}
use Rattle.multiset.proofs.DigitLaws.{length-joined, length-joined-min}
use Rattle.crumbmap.proofs.MarkLaws.{ones_in}
use Rattle.buckets.proofs.PieceLaws.{all_zero-split, spread-drop}
use Rattle.buckets.proofs.SlotBytes.{slot_keys-short}
use Rattle.minifilter.proofs.PassLaws.{length-slot_crumbs}
use Rattle.minifilter.proofs.ReadLaws.{count_if, reading-given}

-- ---- behind word and slots

valid-joined : (B j : ℕ) (xs cs : List ℕ) → length xs ≤ length cs → valid B j (joined 16 xs cs) ≡ valid B j (take (length xs) cs)
unfolding valid joined
valid-joined B j [] cs h = refl
valid-joined B j (x ∷ xs) [] h = absurd (omega arith)
valid-joined B j (x ∷ xs) (c ∷ cs) h =
    let e : (x * 16 + c) % 16 ≡ c % 16 = omega arith in
    rw (e, valid-joined B j xs cs (omega arith))

reading-decide : (g : S.Option Reading → S.Option Reading) → g S.None ≡ S.None → (x : ℕ) (a z q v : Bool) (ys : List ℕ)
    → g (S.Some (record { members = length ys; below = below x ys })) ≡ count_if (q && v) (length ys) (below x ys)
    → reading_of x (given a (given (z && q) (given v (some ys)))) ≡ g (count_if (a && z) (length ys) (below x ys))
unfolding given
reading-decide g u x false z q v ys e = sym u
reading-decide g u x true false q v ys e = sym u
reading-decide g u x true true true true ys e = sym e
reading-decide g u x true true true false ys e = sym e
reading-decide g u x true true false v ys e = sym e

module _ (L : Layout) where
  -- the halves behind those of the slots are 0
  abbrev pub unused_zero : List ℕ → Bool
  unused_zero b = all_zero (drop L.back_slots (crumbs_in L b))

  -- what is left to ask of a backyard bucket whose word and slots are sound: those, and the crumbs of its members
  abbrev pub back_reading : ℕ → ℕ → List ℕ → S.Option Reading → S.Option Reading
  back_reading B j b S.None = S.None
  back_reading B j b (S.Some r) = count_if (unused_zero b && valid B j (take r.members (crumbs_in L b))) r.members r.below

  pub reading-back : Fits64 L → (x B j : ℕ) (b : List ℕ) → length b ≡ 64
      → reading_of x (back_members L B j b) ≡ back_reading B j b (reading_of x (slot_list L true b))
  unfolding back_members slot_list bind
  reading-back fits x B j b long = go (slot_keys L L.back_slots b) (λ xs e. slot_keys-short L L.back_slots b xs e)
    where
      cs : List ℕ
      cs = crumbs_in L b

      go : (o : Option (List ℕ)) → ((xs : List ℕ) → o ≡ some xs → length xs ≤ L.back_slots)
          → reading_of x (bind o (λ xs. let ys = joined 16 xs cs in given (ascending ys) (given (all_zero (drop (length xs) cs)) (given (valid B j ys) (some ys)))))
          ≡ back_reading B j b
          (reading_of x (bind o (λ xs. let ys = joined 16 xs cs in given (ascending ys && all_zero (drop (length xs) (take L.back_slots cs))) (some ys))))
      go none short = refl
      go (some xs) short =
          let n = length-slot_crumbs L fits b long in
          let h = short xs refl in
          let ys = joined 16 xs cs in
          let l : length ys ≡ length xs = length-joined 16 xs cs (omega arith) in
          let v : valid B j (take (length ys) cs) ≡ valid B j ys = rw l (sym (valid-joined B j xs cs (omega arith))) in
          let z : Bool = all_zero (drop (length xs) (take L.back_slots cs)) in
          rw (all_zero-split (length xs) L.back_slots cs h, reading-given x (ascending ys && z) ys)
          (reading-decide (back_reading B j b) refl x (ascending ys) z (unused_zero b) (valid B j ys) ys (rw v))

  -- the members of a backyard reading are at most its slots
  pub reading-room : (x : ℕ) (b : List ℕ) {r : Reading} → reading_of x (slot_list L true b) ≡ S.Some r → r.members ≤ L.back_slots
  unfolding slot_list bind
  reading-room x b {r = r} e = go (slot_keys L L.back_slots b) (λ xs f. slot_keys-short L L.back_slots b xs f) e
    where
      cs : List ℕ
      cs = crumbs_in L b

      inner : (t : Bool) (m j : ℕ) → m ≤ L.back_slots → count_if t m j ≡ S.Some r → r.members ≤ L.back_slots
      inner true m j h f = let s : record { members = m; below = j } ≡ r = cc in let t : m ≡ r.members = ap (λ (k : Reading). k.members) s in omega arith
      inner false m j h f = let z : ◌≡◌ {A = ℕ} 0 1 = cc in absurd (omega arith)

      go : (o : Option (List ℕ)) → ((xs : List ℕ) → o ≡ some xs → length xs ≤ L.back_slots)
          → reading_of x (bind o (λ xs. given (ascending (joined 16 xs cs) && all_zero (drop (length xs) (take L.back_slots cs))) (some (joined 16 xs cs))))
          ≡ S.Some r → r.members ≤ L.back_slots
      go none short f = let z : ◌≡◌ {A = ℕ} 0 1 = cc in absurd (omega arith)
      go (some xs) short f =
          let t : Bool = ascending (joined 16 xs cs) && all_zero (drop (length xs) (take L.back_slots cs)) in
          inner t (length (joined 16 xs cs)) (below x (joined 16 xs cs)) (omega (arith, short xs refl, length-joined-min 16 xs cs))
          (sym (reading-given x t (joined 16 xs cs)) ∙ f)

-- ---- the crumbs of the members

is_some-bit : (o : Option ℕ) → is_some o ≡ eqb (bit_of o) 1
is_some-bit none = refl
is_some-bit (some f) = refl

-- the bits of the valid crumbs mark just those
pub marked-valid : (B j marks : ℕ) → Marks 16 (home B j) marks → (cs : List ℕ) → Below 16 cs → valid B j cs ≡ marked marks cs
unfolding valid marked
marked-valid B j marks m [] small = refl
marked-valid B j marks m (c ∷ cs) small =
    let e : c % 16 ≡ c = omega arith in
    rw (e, is_some-bit (home B j c), m.bits c small.0, marked-valid B j marks m cs small.1)

-- all bits set: every crumb is marked
pub marked_all : (cs : List ℕ) → Below 16 cs → marked 65535 cs ≡ true
unfolding marked
marked_all [] small = refl
marked_all (c ∷ cs) small = rw (ones_in 16 c small.0) (marked_all cs small.1)

module _ (marks s : ℕ) (cs : List ℕ) (h : s < length cs) where
  pub marked-stop : marks / 2 ^ get_or cs s 0 % 2 ≡ 0 → marked marks (drop s cs) ≡ false
  unfolding marked
  marked-stop e = rw (drop-cons cs s 0 h, e)

  pub marked-on : (marks / 2 ^ get_or cs s 0 % 2 ≡ 0 → ⊥) → marked marks (drop s cs) ≡ marked marks (drop (suc s) cs)
  unfolding marked
  marked-on e = rw (drop-cons cs s 0 h, eq-eqb (marks / 2 ^ get_or cs s 0 % 2) 1 (one (marks / 2 ^ get_or cs s 0) e))
    where
      one : (x : ℕ) → (x % 2 ≡ 0 → ⊥) → x % 2 ≡ 1
      one x f = omega arith

-- ---- layout 1: 22 crumbs take all bytes behind the tags but the last

-- "byte 63 is 0": both its halves are
byte-zero : (v : ℕ) → v < 256 → eqb (v % 16) 0 && (eqb (v / 16 % 16) 0 && true) ≡ eqb v 0
byte-zero zero h = refl
byte-zero (suc v) h = go (eqb (suc v % 16) 0) (eqb (suc v / 16 % 16) 0) refl refl ∙ sym (eqb-suc-zero v)
  where
    go : (p q : Bool) → eqb (suc v % 16) 0 ≡ p → eqb (suc v / 16 % 16) 0 ≡ q → p && (q && true) ≡ false
    go true true e f = absurd (omega (arith, eqb-true (suc v % 16) 0 e, eqb-true (suc v / 16 % 16) 0 f))
    go true false e f = refl
    go false q e f = refl

pub unused1 : (b : List ℕ) → length b ≡ 64 → get_or b 63 0 < 256 → unused_zero layout1 b ≡ eqb (get_or b 63 0) 0
unfolding all_zero spread digits
unused1 b long h =
    ap (λ (x : List ℕ). all_zero x) (sym (spread-drop 16 2 11 (drop 52 b)))
    ∙ rw (drop-drop 11 52 b, drop-cons b 63 0 (omega arith), drop_of_length-le b {i = 64} (omega arith)) (byte-zero (get_or b 63 0) h)
