-- What stays of the keys that are put into a front list one after the other, and what goes: `stays` and `goes` as lists.
-- Main results: `stays-append` and `goes-append`; `stays-ascending` and `goes-ascending`; `stays-list` and `goes-range`.
use mathlib.Core.Path.{◌≡◌, refl, sym, ◌∙◌, ap}
use Prim.Native.Nat.{ℕ, ◌≤◌, ◌<◌}
use mathlib.Core.List.{List, [], ◌∷◌, ◌++◌, append-nil}
use native.Mathlib.Omega.{arith}
use native.Mathlib.Decide.{dec_le, ℕ_discrete}
use lib.ListN.{length, take, drop, drop_of_length-le}
use lib.Seq.{take_at, drop_at, take_all, append_snoc}
use lib.Dec.{T}
use borrow.Author.Tests.{lt-ltb, le-ltb}
use Rattle.multiset.specs.Multisets.{added, removed, copies, largest, ascending, Below}
use Rattle.multiset.proofs.MultisetLaws.{hit_same, hit_other, copies-cons, copies-added, removed-added, length-added, length_removed, below-added, below-removed, below-copies}
use Rattle.multiset.proofs.OrderLaws.{largest-added-most, added-last, ascending-tail, head-least, ascending-added, ascending-removed, copies-largest}
use Rattle.crumbmap.specs.Layouts.{Layout, keys}
use Rattle.buckets.specs.Buckets.{FrontList}
use Rattle.machine.specs.Steps.Spills.{stays, goes}
use Rattle.machine.proofs.Members.{front_list-added}

-- ---- what stays and what goes, key by key

module _ (n x : ℕ) (xs ws : List ℕ) where
  abbrev top : ℕ
  top = largest (added x ws)

  abbrev rest : List ℕ
  rest = removed top (added x ws)

  pub stays-room : length ws < n → stays n (x ∷ xs) ws ≡ stays n xs (added x ws)
  unfolding stays
  stays-room h = rw (lt-ltb (length ws) n h)

  pub stays-full : n ≤ length ws → stays n (x ∷ xs) ws ≡ stays n xs rest
  unfolding stays
  stays-full h = rw (le-ltb (length ws) n h)

  pub goes-room : length ws < n → goes n (x ∷ xs) ws ≡ goes n xs (added x ws)
  unfolding goes
  goes-room h = rw (lt-ltb (length ws) n h)

  pub goes-full : n ≤ length ws → goes n (x ∷ xs) ws ≡ top ∷ goes n xs rest
  unfolding goes
  goes-full h = rw (le-ltb (length ws) n h)

module _ (n : ℕ) where
  pub stays-append : (xs ys ws : List ℕ) → stays n (xs ++ ys) ws ≡ stays n ys (stays n xs ws)
  unfolding stays
  stays-append [] ys ws = refl
  stays-append (x ∷ xs) ys ws = elim (dec_le n (length ws)) [
    | yes l ↦ stays-full n x (xs ++ ys) ws l ∙ stays-append xs ys (rest n x xs ws) ∙ ap (stays n ys) (sym (stays-full n x xs ws l))
    | no m ↦
        let l : length ws < n = omega arith in
        stays-room n x (xs ++ ys) ws l ∙ stays-append xs ys (added x ws) ∙ ap (stays n ys) (sym (stays-room n x xs ws l))
  ]

  pub goes-append : (xs ys ws : List ℕ) → goes n (xs ++ ys) ws ≡ goes n xs ws ++ goes n ys (stays n xs ws)
  unfolding stays goes
  goes-append [] ys ws = refl
  goes-append (x ∷ xs) ys ws = elim (dec_le n (length ws)) [
    | yes l ↦
        let r : List ℕ = rest n x xs ws in
        let t : ℕ = top n x xs ws in
        goes-full n x (xs ++ ys) ws l ∙ ap (λ (l : List ℕ). t ∷ l) (goes-append xs ys r) ∙ rw (goes-full n x xs ws l, stays-full n x xs ws l)
    | no m ↦
        let l : length ws < n = omega arith in
        goes-room n x (xs ++ ys) ws l ∙ goes-append xs ys (added x ws) ∙ rw (goes-room n x xs ws l, stays-room n x xs ws l)
  ]

-- ---- ascending keys: the first stay, the others go

-- no member of ws is larger than one of xs
abbrev Before : List ℕ → List ℕ → Type 0
Before ws xs = (z y : ℕ) → 0 < copies z ws → 0 < copies y xs → z ≤ y

before_head : (x : ℕ) (xs ws : List ℕ) → Before ws (x ∷ xs) → (z : ℕ) → 0 < copies z ws → z ≤ x
before_head x xs ws l z c = l z x c (omega (arith, copies-cons x x xs, hit_same x))

before-added : (x : ℕ) (xs ws : List ℕ) → T (ascending (x ∷ xs)) → Before ws (x ∷ xs) → Before (added x ws) xs
before-added x xs ws a l z y c d = elim (ℕ_discrete z x) [
  | yes e ↦ omega (arith, head-least y x xs a (omega (arith, copies-cons y x xs)))
  | no m ↦ l z y (omega (arith, copies-added z x ws, hit_other z x m)) (omega (arith, copies-cons y x xs))
]

module _ (n : ℕ) where
  in_order : (xs ws : List ℕ) → T (ascending ws) → T (ascending xs) → Before ws xs → length ws ≤ n
      → (stays n xs ws ≡ take n (ws ++ xs)) × (goes n xs ws ≡ drop n (ws ++ xs))
  unfolding stays goes
  in_order [] ws a b l r = (sym (rw append-nil (take_all n ws r)), sym (rw append-nil (drop_of_length-le ws r)))
  in_order (x ∷ xs) ws a b l r =
      let most = before_head x xs ws l in
      elim (dec_le n (length ws)) [
        | yes g ↦
            let e : length ws ≡ n = omega arith in
            let ih = in_order xs ws a (ascending-tail x xs b) (λ z y c d. l z y c (omega (arith, copies-cons y x xs))) r in
            let up : largest (added x ws) ≡ x = largest-added-most x ws a most in
            let back : removed (largest (added x ws)) (added x ws) ≡ ws = rw up (removed-added x ws) in (
              stays-full n x xs ws g ∙ rw back (ih.0 ∙ take_at ws xs n e ∙ sym (take_at ws (x ∷ xs) n e)),
              goes-full n x xs ws g ∙ rw (back, up) (ap (λ (l : List ℕ). x ∷ l) (ih.1 ∙ drop_at ws xs n e) ∙ sym (drop_at ws (x ∷ xs) n e)),
            )
        | no m ↦
            let g : length ws < n = omega arith in
            let ih = in_order xs (added x ws) (ascending-added x ws a) (ascending-tail x xs b) (before-added x xs ws b l) (omega (arith, length-added x ws)) in
            let e : added x ws ++ xs ≡ ws ++ x ∷ xs = rw (added-last x ws a most) (append_snoc ws x xs) in
            (stays-room n x xs ws g ∙ ih.0 ∙ ap (take n) e, goes-room n x xs ws g ∙ ih.1 ∙ ap (drop n) e)
      ]

  none_before : (xs : List ℕ) → Before [] xs
  unfolding copies
  none_before xs z y c d = absurd (omega arith)

  pub stays-ascending : (xs : List ℕ) → T (ascending xs) → stays n xs [] ≡ take n xs
  unfolding ascending
  stays-ascending xs a = (in_order xs [] tt a (none_before xs) (omega arith)).0

  pub goes-ascending : (xs : List ℕ) → T (ascending xs) → goes n xs [] ≡ drop n xs
  unfolding ascending
  goes-ascending xs a = (in_order xs [] tt a (none_before xs) (omega arith)).1

-- ---- what stays can stand in front

pub length_rest : (x : ℕ) (ws : List ℕ) → length (removed (largest (added x ws)) (added x ws)) ≡ length ws
length_rest x ws =
    omega (arith, length-added x ws, length_removed (largest (added x ws)) (added x ws) (copies-largest (added x ws) (omega (arith, length-added x ws))))

module _ (L : Layout) where
  pub top-range : (x : ℕ) (ws : List ℕ) → FrontList L ws → x < keys L → largest (added x ws) < keys L
  top-range x ws list k =
      below-copies (keys L) (largest (added x ws)) (added x ws) (below-added (keys L) x ws k list.range)
      (copies-largest (added x ws) (omega (arith, length-added x ws)))

  pub rest-list : (x : ℕ) (ws : List ℕ) → FrontList L ws → x < keys L → FrontList L (removed (largest (added x ws)) (added x ws))
  rest-list x ws list k = record {
    order = ascending-removed (largest (added x ws)) (added x ws) (ascending-added x ws list.order);
    range = below-removed (keys L) (largest (added x ws)) (added x ws) (below-added (keys L) x ws k list.range);
    room = omega (arith, length_rest x ws, list.room);
  }

  pub stays-list : (xs ws : List ℕ) → FrontList L ws → Below (keys L) xs → FrontList L (stays L.front_slots xs ws)
  unfolding stays
  stays-list [] ws list b = list
  stays-list (x ∷ xs) ws list b = elim (dec_le L.front_slots (length ws)) [
    | yes l ↦ rw (stays-full L.front_slots x xs ws l) (stays-list xs (removed (largest (added x ws)) (added x ws)) (rest-list x ws list b.0) b.1)
    | no m ↦
        let l : length ws < L.front_slots = omega arith in
        rw (stays-room L.front_slots x xs ws l) (stays-list xs (added x ws) (front_list-added L x ws list b.0 l) b.1)
  ]

  -- and what goes has keys in range
  pub goes-range : (xs ws : List ℕ) → FrontList L ws → Below (keys L) xs → Below (keys L) (goes L.front_slots xs ws)
  unfolding goes
  goes-range [] ws list b = tt
  goes-range (x ∷ xs) ws list b = elim (dec_le L.front_slots (length ws)) [
    | yes l ↦ rw (goes-full L.front_slots x xs ws l)
        (top-range x ws list b.0, goes-range xs (removed (largest (added x ws)) (added x ws)) (rest-list x ws list b.0) b.1)
    | no m ↦
        let l : length ws < L.front_slots = omega arith in
        rw (goes-room L.front_slots x xs ws l) (goes-range xs (added x ws) (front_list-added L x ws list b.0 l) b.1)
  ]
