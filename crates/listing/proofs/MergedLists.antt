-- Two ascending lists together, head by head: the next member of `added_all` is the smaller of the two heads; and lists written member by member.
-- Main results: `merging-on`, a turn of a merge of two lists, and `merging-end`; `parts-order`, two parts in order are one
-- already, and `copy-merged`, they are one once merged; `mapped-on`, a turn of a list whose members are turned into others.
use mathlib.Core.Path.{◌≡◌, refl, sym, ap, ◌∙◌}
use mathlib.Core.Logic.{◌⊎◌, inl, inr}
use Prim.Native.Nat.{ℕ, zero, suc, ◌+◌, ◌-◌, ◌≤◌, ◌<◌}
use mathlib.Core.Bool.{Bool, true, false, cond}
use mathlib.Core.List.{List, [], ◌∷◌, ◌++◌, map, append_assoc, append-nil, map-append}
use native.Mathlib.Decide.{dec_le}
use native.Mathlib.Numerals.{add-one}
use native.Mathlib.Omega.{arith}
use lib.ListN.{length, take, drop, get_or, set, length-append, length-drop, length-set, length-map, take-append-drop, drop_of_length-le}
use lib.Seq.{length-take-le, take_all, take_at, take-add, take-suc, drop_at, drop-cons, drop-drop, set_at, take-suc-set, drop-set-lt}
use lib.Dec.{T, leb}
use borrow.Author.Tests.{leb-true, leb-false}
use Rattle.multiset.specs.Multisets.{added, copies, ascending}
use Rattle.multiset.proofs.MultisetLaws.{hit_same, added-front, added-behind, copies-cons, copies-append}
use Rattle.multiset.proofs.OrderLaws.{head-least, ascending-append, ascending-unique, largest-max}
use Rattle.multiset.proofs.SlotLaws.{ascending-drop, largest-first}
use Rattle.machine.specs.Bags.{added_all}
use Rattle.machine.proofs.BagLaws.{copies-added_all, ascending-added_all, added_all-nil}
use Rattle.listing.specs.Steps.Listings.{Mergeable, Merged, Copied, Parts, joined}

-- ---- which head comes first

-- a number that no member is below
added-least : (x : ℕ) (ys : List ℕ) → ((z : ℕ) → 0 < copies z ys → x ≤ z) → added x ys ≡ x ∷ ys
unfolding added
added-least x [] least = refl
added-least x (y ∷ ys) least = added-front x y ys (least y (omega (arith, copies-cons y y ys, hit_same y)))

-- the left list's head, and the right list's
left-first : (x : ℕ) (xs ys : List ℕ) → T (ascending (x ∷ xs)) → ((z : ℕ) → 0 < copies z ys → x ≤ z) → added_all (x ∷ xs) ys ≡ x ∷ added_all xs ys
unfolding added_all
left-first x xs ys a least = added-least x (added_all xs ys) λ z h. elim (dec_le 1 (copies z ys)) [
  | yes l ↦ least z (omega arith)
  | no n ↦ head-least z x xs a (omega (arith, h, copies-added_all z xs ys, copies-cons z x xs))
]

right-first : (y : ℕ) (xs ys : List ℕ) → ((z : ℕ) → 0 < copies z xs → y < z) → added_all xs (y ∷ ys) ≡ y ∷ added_all xs ys
unfolding added_all
right-first y [] ys more = refl
right-first y (x ∷ xs) ys more =
    rw (right-first y xs ys (λ z h. more z (omega (arith, copies-cons z x xs))))
    (added-behind x y (added_all xs ys) (more x (omega (arith, copies-cons x x xs, hit_same x))))

-- a turn of the merge, at i members of `a` and j of `b` done, both with members left
merged-left : (a b : List ℕ) (i j : ℕ) → T (ascending a) → T (ascending b) → i < length a → j < length b → get_or a i 0 ≤ get_or b j 0
    → added_all (drop i a) (drop j b) ≡ get_or a i 0 ∷ added_all (drop (suc i) a) (drop j b)
merged-left a b i j p q h k l =
    let x = drop-cons a i 0 h in
    let y = drop-cons b j 0 k in
    let ys = rw y at (ascending-drop j b q) in
    rw x (left-first (get_or a i 0) (drop (suc i) a) (drop j b) (rw x at (ascending-drop i a p))
    (rw y (λ z m. omega (arith, l, head-least z (get_or b j 0) (drop (suc j) b) ys m))))

merged-right : (a b : List ℕ) (i j : ℕ) → T (ascending a) → i < length a → j < length b → get_or b j 0 < get_or a i 0
    → added_all (drop i a) (drop j b) ≡ get_or b j 0 ∷ added_all (drop i a) (drop (suc j) b)
merged-right a b i j p h k l =
    let x = drop-cons a i 0 h in
    let xs = rw x at (ascending-drop i a p) in
    rw (drop-cons b j 0 k) (right-first (get_or b j 0) (drop i a) (drop (suc j) b)
    (rw x (λ z m. omega (arith, l, head-least z (get_or a i 0) (drop (suc i) a) xs m))))

-- where one has none left, what is left is the other
merged-rest : (a b : List ℕ) (i j : ℕ) → T (ascending a) → (length a ≤ i) ⊎ (length b ≤ j) → added_all (drop i a) (drop j b) ≡ drop i a ++ drop j b
unfolding added_all
merged-rest a b i j p (inl h) = rw (drop_of_length-le a h)
merged-rest a b i j p (inr h) = rw (drop_of_length-le b h, append-nil) (added_all-nil (drop i a) (ascending-drop i a p))

-- ---- lists that are written member by member

-- one member more is written behind those that stand
written_next : (k v : ℕ) (all rest out : List ℕ) → k < length out → all ≡ take k out ++ v ∷ rest → all ≡ take (k + 1) (set out k v) ++ rest
written_next k v all rest out h e =
    e ∙ rw (add-one, take-suc-set out k v h) (sym (append_assoc (take k out) (v ∷ []) rest))

-- and what stands behind it is as it was
written_on : (k v : ℕ) (all rest old out : List ℕ) → k < length out → length out ≡ length old → all ≡ take k out ++ v ∷ rest → drop k out ≡ drop k old
    → (length (set out k v) ≡ length old) × (all ≡ take (k + 1) (set out k v) ++ rest) × (drop (k + 1) (set out k v) ≡ drop (k + 1) old)
written_on k v all rest old out h l e d = (
  length-set out k v ∙ l,
  written_next k v all rest out h e,
  rw (drop-set-lt (k + 1) out k v (omega arith), ← drop-drop 1 k out, ← drop-drop 1 k old, d),
)

-- a merge of `a` and `b` over `old`, at i members of `a` and j of `b` done
pub record Merging (a b old out : List ℕ) (i j : ℕ) : Type 0 where
  pub left : i ≤ length a
  pub right : j ≤ length b
  pub same : length out ≡ length old
  pub stands : added_all a b ≡ take (i + j) out ++ added_all (drop i a) (drop j b)
  pub behind : drop (i + j) out ≡ drop (i + j) old

pub merging_start : (a b old : List ℕ) → Merging a b old old 0 0
merging_start a b old = record { left = omega arith; right = omega arith; same = refl; stands = refl; behind = refl }

-- a turn: the lesser of the two next members is written, and the list that gave it is one further
module _ {a b old out : List ℕ} {i j : ℕ} (m : Merging a b old out i j) (room : length a + length b ≤ length old) (h : i < length a) (k : j < length b)
  where
    pub merging-room : i + j < length out
    merging-room = omega (arith, m.same)

    merging-left : T (ascending a) → T (ascending b) → get_or a i 0 ≤ get_or b j 0 → Merging a b old (set out (i + j) (get_or a i 0)) (i + 1) (j + 0)
    merging-left p q e =
        let w = written_on (i + j) (get_or a i 0) (added_all a b) (added_all (drop (suc i) a) (drop j b)) old out merging-room m.same
        (m.stands ∙ rw (merged-left a b i j p q h k e)) m.behind in
        let n : i + 1 + (j + 0) ≡ i + j + 1 = omega arith in
        let z : j + 0 ≡ j = omega arith in
        record { left = omega arith; right = omega arith; same = w.0; stands = rw (n, z, add-one i) w.1; behind = rw n w.2 }

    merging-right : T (ascending a) → get_or b j 0 < get_or a i 0 → Merging a b old (set out (i + j) (get_or b j 0)) (i + 0) (j + 1)
    merging-right p e =
        let w = written_on (i + j) (get_or b j 0) (added_all a b) (added_all (drop i a) (drop (suc j) b)) old out merging-room m.same
        (m.stands ∙ rw (merged-right a b i j p h k e)) m.behind in
        let n : i + 0 + (j + 1) ≡ i + j + 1 = omega arith in
        let z : i + 0 ≡ i = omega arith in
        record { left = omega arith; right = omega arith; same = w.0; stands = rw (n, z, add-one j) w.1; behind = rw n w.2 }

    pub merging-on : {key left : ℕ} → T (ascending a) → T (ascending b) → let x = get_or a i 0 in let y = get_or b j 0 in
        key ≡ cond (leb x y) x y → left ≡ cond (leb x y) 1 0 → Merging a b old (set out (i + j) key) (i + left) (j + (1 - left))
    merging-on p q e f = rw (e, f) (go (leb (get_or a i 0) (get_or b j 0)) refl)
      where
        go : (t : Bool) → leb (get_or a i 0) (get_or b j 0) ≡ t
            → Merging a b old (set out (i + j) (cond t (get_or a i 0) (get_or b j 0))) (i + cond t 1 0) (j + (1 - cond t 1 0))
        go true e = merging-left p q (leb-true _ _ e)
        go false e = merging-right p (leb-false _ _ e)

-- the rest of both is copied behind what stands, where one has none left
pub merging-end : {a b old out : List ℕ} {i j : ℕ} {next new : List ℕ} → Merging a b old out i j → length a + length b ≤ length old → T (ascending a)
    → (length a ≤ i) ⊎ (length b ≤ j) → Copied a i out (i + j) next → Copied b j next (length a + j) new → Merged a b old new
merging-end {a} {b} {old} {out} {i} {j} {next} {new} m room p none e f =
    let stood = take (i + j) out ++ drop i a in
    let rest = drop (i + j + (length a - i)) out in
    let long : length stood ≡ length a + j =
    length-append (take (i + j) out) (drop i a) ∙ omega (arith, length-take-le (i + j) out (omega (arith, m.same, m.left, m.right)), length-drop i a, m.left) in
    let first : take (length a + j) next ≡ stood = rw e.stands (take_at stood rest (length a + j) long) in
    let next-rest : drop (length a + j) next ≡ rest = rw e.stands (drop_at stood rest (length a + j) long) in
    let more = length a + length b - (i + j) in
    let x : i + j + (length a - i) + (length b - j) ≡ i + j + more = omega (arith, m.left, m.right) in
    let y : length a + length b ≡ i + j + more = omega (arith, m.left, m.right) in
    let past : drop (length b - j) rest ≡ drop (length a + length b) old =
    drop-drop (length b - j) (i + j + (length a - i)) out ∙ ap (λ (k : ℕ). drop k out) x ∙ sym (drop-drop more (i + j) out)
    ∙ ap (drop more) m.behind ∙ drop-drop more (i + j) old ∙ ap (λ (k : ℕ). drop k old) (sym y) in
    let behind : drop (length a + j + (length b - j)) next ≡ drop (length a + length b) old =
    sym (drop-drop (length b - j) (length a + j) next) ∙ rw next-rest past in
    f.stands ∙ rw (first, behind) (ap (λ (l : List ℕ). l ++ drop (length a + length b) old)
    (append_assoc (take (i + j) out) (drop i a) (drop j b) ∙ sym (m.stands ∙ rw (merged-rest a b i j p none))))

-- a copy leaves the length as it was
pub copied-length : {keys old new : List ℕ} {from at : ℕ} → Copied keys from old at new → from ≤ length keys → at + (length keys - from) ≤ length old
    → length new ≡ length old
copied-length {keys} {old} {new} {from} {at} e h l = omega (
  arith,
  ap length e.stands,
  length-append (take at old ++ drop from keys) (drop (at + (length keys - from)) old),
  length-append (take at old) (drop from keys),
  length-take-le at old (omega arith),
  length-drop from keys,
  length-drop (at + (length keys - from)) old,
)

-- ---- two ascending parts of a list

-- lists in order: no member of the first exceeds one of the second
appended : (xs ys : List ℕ) → T (ascending xs) → T (ascending ys) → ((x y : ℕ) → 0 < copies x xs → 0 < copies y ys → x ≤ y) → added_all xs ys ≡ xs ++ ys
appended xs ys p q h =
    ascending-unique _ _ (ascending-added_all xs ys q) (ascending-append xs ys p q h) (λ z. copies-added_all z xs ys ∙ sym (copies-append z xs ys))

module _ {keys : List ℕ} {from end : ℕ} (p : Parts keys from end) where
  -- in order as they stand, they are one already
  parts-appended : ((x y : ℕ) → 0 < copies x (take from keys) → 0 < copies y (take (end - from) (drop from keys)) → x ≤ y) → joined keys from end ≡ keys
  parts-appended h =
      let e : from + (end - from) ≡ end = omega (arith, p.split) in
      rw (appended (take from keys) (take (end - from) (drop from keys)) p.first p.second h, sym (take-add from (end - from) keys), e)
      (take-append-drop end keys)

  pub parts-empty : (from ≡ 0) ⊎ (from ≡ end) → joined keys from end ≡ keys
  unfolding copies
  parts-empty (inl e) = parts-appended (rw e (λ x y h. absurd (omega arith)))
  parts-empty (inr e) = let z : end - from ≡ 0 = omega arith in parts-appended (rw z (λ x y h k. absurd (omega arith)))

  pub parts-order : 0 < from → from < end → get_or keys (from - 1) 0 ≤ get_or keys from 0 → joined keys from end ≡ keys
  parts-order some less h = parts-appended λ x y a b. omega (
    arith,
    h,
    largest-max x (take from keys) p.first a,
    largest-first from keys some (omega (arith, p.inside)),
    least y (end - from) (omega arith) p.second b,
  )
    where
      least : (y k : ℕ) → 0 < k → T (ascending (take k (drop from keys))) → 0 < copies y (take k (drop from keys)) → get_or keys from 0 ≤ y
      least y zero l q b = absurd (omega arith)
      least y (suc k) l q b =
          let e = drop-cons keys from 0 (omega (arith, p.inside)) in
          head-least y (get_or keys from 0) (take k (drop (suc from) keys)) (rw e at q) (rw e at b)

  -- a copy of both has the same parts
  module _ {old copy : List ℕ} (c : Copied (take end keys) 0 old 0 copy) where
    copy_is : take end copy ≡ take from keys ++ take (end - from) (drop from keys)
    copy_is =
        let l : length (take end keys) ≡ end = length-take-le end keys p.inside in
        let e : from + (end - from) ≡ end = omega (arith, p.split) in
        rw c.stands (take_at (take end keys) (drop (0 + (length (take end keys) - 0)) old) end l) ∙ sym (ap (λ (k : ℕ). take k keys) e)
        ∙ take-add from (end - from) keys

    first-long : length (take from keys) ≡ from
    first-long = length-take-le from keys (omega (arith, p.split, p.inside))

    second-long : length (take (end - from) (drop from keys)) ≡ end - from
    second-long = length-take-le (end - from) (drop from keys) (omega (arith, length-drop from keys, p.inside))

    pub copy-long : length (take end copy) ≡ end
    copy-long =
        ap length copy_is
        ∙ omega (arith, length-append (take from keys) (take (end - from) (drop from keys)), first-long, second-long, p.split)

    pub copy-first : take from (take end copy) ≡ take from keys
    copy-first = rw copy_is (take_at (take from keys) (take (end - from) (drop from keys)) from first-long)

    pub copy-second : take (length (take end copy) - from) (drop from (take end copy)) ≡ take (end - from) (drop from keys)
    copy-second =
        let d : drop from (take end copy) ≡ take (end - from) (drop from keys) =
        rw copy_is (drop_at (take from keys) (take (end - from) (drop from keys)) from first-long) in
        rw (copy-long, d) (take_all (end - from) (take (end - from) (drop from keys)) (omega (arith, second-long)))

    pub copy-mergeable : Mergeable (take from (take end copy)) (take (length (take end copy) - from) (drop from (take end copy))) (length keys)
    copy-mergeable = rw (copy-second, copy-first) (p.first, p.second, omega (arith, first-long, second-long, p.split, p.inside))

    pub copy-merged : {new : List ℕ}
        → Merged (take from (take end copy)) (take (length (take end copy) - from) (drop from (take end copy))) keys new → new ≡ joined keys from end
    copy-merged e =
        let l : length (take from keys) + length (take (end - from) (drop from keys)) ≡ end = omega (arith, first-long, second-long, p.split) in
        rw l at (rw (copy-second, copy-first) at e)

-- each member of a list turned into another, one more written
pub mapped-on : (g : ℕ → ℕ) (keys old out : List ℕ) (i : ℕ) → i < length keys → length keys ≤ length old → out ≡ map g (take i keys) ++ drop i old
    → set out i (g (get_or keys i 0)) ≡ map g (take (i + 1) keys) ++ drop (i + 1) old
mapped-on g keys old out i h k e =
    let l : length (map g (take i keys)) ≡ i = length-map (take i keys) g ∙ length-take-le i keys (omega arith) in
    let d : i < length old = omega arith in
    rw (e, drop-cons old i 0 d)
    (set_at (map g (take i keys)) (get_or old i 0) (drop (suc i) old) (g (get_or keys i 0)) i l
    ∙ rw (add-one i, take-suc keys i 0 h, map-append) (sym (append_assoc (map g (take i keys)) (g (get_or keys i 0) ∷ []) (drop (suc i) old))))

pub mapped-all : (g : ℕ → ℕ) (keys old out : List ℕ) (i : ℕ) → i ≡ length keys → out ≡ map g (take i keys) ++ drop i old
    → out ≡ map g keys ++ drop (length keys) old
mapped-all g keys old out i k e = rw (k, take_all (length keys) keys (omega arith)) at e
