-- The slots in use and the others, as lists of numbers: they ascend up to the end exactly where the members do and the others are 0, and those
-- below x are members. Main results: `order-all`, `below-slots`, `keys-split`, `zeros-joined`.
use mathlib.Core.Path.{◌≡◌, refl, sym, ◌∙◌, ap}
use Prim.Native.Nat.{ℕ, zero, suc, ◌+◌, ◌*◌, ◌≤◌}
use mathlib.Core.Bool.{Bool, cond, ◌&&◌, and-false, and_assoc}
use mathlib.Core.List.{List, [], ◌∷◌, ◌++◌, map}
use native.Mathlib.Nat.{add-zero, le_refl}
use native.Mathlib.Omega.{arith}
use lib.ListN.{length, take, drop, replicate, length-drop}
use lib.Dec.{leb, ltb, eqb-suc-zero}
use borrow.Author.Tests.{lt-leb, le-leb, le-ltb, ne_eqb}
use Rattle.multiset.specs.Multisets.{ascending, at_least, all_zero, below, Below}
use Rattle.multiset.specs.Digits.{joined}
use Rattle.buckets.proofs.PieceLaws.{joined-append}

-- ---- the order of all slots

-- numbers counted from e on
abbrev pub raised : ℕ → List ℕ → List ℕ
raised e ys = map (λ (y : ℕ). e + y) ys

-- numbers from e on ascend to e exactly where they are all e
order-rest : (e k : ℕ) (ys : List ℕ) → ascending (k ∷ (raised e ys ++ (e ∷ []))) ≡ leb k e && all_zero ys
unfolding ascending at_least all_zero
order-rest e k [] = refl
order-rest e k (zero ∷ ys) =
    rw (add-zero e) (ap (λ (x : Bool). leb k e && x) (order-rest e e ys ∙ rw (le-leb e e (le_refl e))))
order-rest e k (suc y ∷ ys) =
    ap (λ (x : Bool). leb k (e + suc y) && x) (order-rest e (e + suc y) ys ∙ rw (lt-leb (e + suc y) e (omega arith)))
    ∙ and-false (leb k (e + suc y)) ∙ sym (rw (eqb-suc-zero y) (and-false (leb k e)))

-- all slots ascend up to the end exactly where the members do and the others are at the end
pub order-all : (e k : ℕ) (xs ys : List ℕ) → k ≤ e → Below e xs
    → ascending (k ∷ ((xs ++ raised e ys) ++ (e ∷ []))) ≡ ascending (k ∷ xs) && all_zero ys
unfolding ascending at_least
order-all e k [] ys h b = order-rest e k ys ∙ rw (le-leb k e h)
order-all e k (x ∷ xs) ys h b =
    ap (λ (t : Bool). leb k x && t) (order-all e x xs ys (omega arith) b.1) ∙ sym (and_assoc (leb k x) (ascending (x ∷ xs)) (all_zero ys))

-- past the members no slot is below x, for x up to the end
below_raised : (e x : ℕ) (ys : List ℕ) → x ≤ e → below x (raised e ys) ≡ 0
unfolding below
below_raised e x [] h = refl
below_raised e x (y ∷ ys) h = rw (le-ltb (e + y) x (omega arith)) (below_raised e x ys h)

-- so the slots below x are members
pub below-slots : (e x : ℕ) (xs ys : List ℕ) → x ≤ e → below x (xs ++ raised e ys) ≡ below x xs
unfolding below
below-slots e x [] ys h = below_raised e x ys h
below-slots e x (y ∷ xs) ys h = ap (λ (n : ℕ). cond (ltb y x) (suc n) n) (below-slots e x xs ys h)

-- ---- what the slots hold, in use or not

joined-rest : (k m p : ℕ) (rs : List ℕ) → length rs ≤ p → joined k (replicate p m) rs ≡ raised (m * k) rs
unfolding joined
joined-rest k m zero [] h = refl
joined-rest k m (suc p) [] h = refl
joined-rest k m zero (r ∷ rs) h = absurd (omega arith)
joined-rest k m (suc p) (r ∷ rs) h = ap (λ (l : List ℕ). (m * k + r) ∷ l) (joined-rest k m p rs (omega arith))

pub joined-raised : (e : ℕ) (rs cs : List ℕ) → joined 16 (raised e rs) cs ≡ raised (e * 16) (joined 16 rs cs)
unfolding joined
joined-raised e [] cs = refl
joined-raised e (r ∷ rs) [] = refl
joined-raised e (r ∷ rs) (c ∷ cs) =
    let d : (e + r) * 16 + c ≡ e * 16 + (r * 16 + c) = omega arith in
    rw (d, joined-raised e rs cs)

-- the members' keys, then those of the others, counted from the end on
pub keys-split : (k m p : ℕ) (ms rs : List ℕ) → length ms ≤ length rs → length rs ≤ length ms + p
    → joined k (ms ++ replicate p m) rs ≡ joined k ms rs ++ raised (m * k) (drop (length ms) rs)
keys-split k m p ms rs h l =
    joined-append k ms (replicate p m) rs h
    ∙ rw (joined-rest k m p (drop (length ms) rs) (rw (length-drop (length ms) rs) (omega arith)))

-- the others are at the end exactly where their tags and crumbs are 0
pub zeros-joined : (n : ℕ) (rs cs : List ℕ) → length rs ≤ length cs
    → all_zero (joined 16 (drop n rs) (drop n cs)) ≡ all_zero (drop n rs) && all_zero (drop n (take (length rs) cs))
unfolding all_zero joined
zeros-joined zero [] cs h = refl
zeros-joined (suc n) [] cs h = refl
zeros-joined n (r ∷ rs) [] h = absurd (omega arith)
zeros-joined (suc n) (r ∷ rs) (c ∷ cs) h = zeros-joined n rs cs (omega arith)
zeros-joined zero (zero ∷ rs) (zero ∷ cs) h = zeros-joined zero rs cs (omega arith)
zeros-joined zero (zero ∷ rs) (suc c ∷ cs) h =
    rw (ne_eqb (0 * 16 + suc c) 0 (λ e. omega arith), eqb-suc-zero c) (sym (and-false (all_zero rs)))
zeros-joined zero (suc r ∷ rs) (c ∷ cs) h = rw (ne_eqb (suc r * 16 + c) 0 (λ e. omega arith), eqb-suc-zero r)
