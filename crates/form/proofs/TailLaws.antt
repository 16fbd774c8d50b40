-- A form is a body with a tail behind it: each is found again, and a tail of fit numbers reads as itself and is accepted.
-- Main results: `body-form`, `rest-form`, `headed-form`, `opened-form`; what an accepted tail says, `headed-parts`, and that such an image is
-- its body with just that tail behind it, `form-again`; which layout an opened image has, `opened-layout`, `opened-known`.
use mathlib.Core.Path.{◌≡◌, refl, sym, ◌∙◌}
use Prim.Native.Nat.{ℕ, ◌-◌, ◌^◌, ◌≤◌, ◌<◌}
use mathlib.Core.Bool.{Bool, true, false, cond, ◌&&◌}
use mathlib.Core.List.{List, [], ◌∷◌, ◌++◌}
use mathlib.Core.Option.{Option, none, some}
use native.Mathlib.Omega.{arith}
use native.Mathlib.Nat.{add-sub_cancel}
use lib.ListN.{length, take, drop, get_or, length-append, length-drop, take-append-drop}
use lib.Seq.{take-append_seam, drop-append_seam, length-take-le, take-add, take-suc, get_or-drop}
use lib.Dec.{T, lit<, leb}
use borrow.Author.Tests.{le-leb, leb-true}
use Rattle.multiset.specs.Multisets.{Below, all_zero}
use Rattle.multiset.specs.Digits.{digits, value, padded}
use Rattle.multiset.proofs.MultisetLaws.{below-take, below-drop, below-of-at}
use Rattle.multiset.proofs.DigitLaws.{value-digits, digits_value, padded-take}
use Rattle.crumbmap.specs.Layouts.{Layout, Numbering, layout1, known}
use Rattle.crumbmap.proofs.LayoutLaws.{known-one}
use Rattle.machine.specs.Results.{accepted, refused}
use Rattle.machine.specs.Images.{size_of, sized}
use Rattle.machine.proofs.AcceptedLaws.{same_answer, never-refused, and_then-accepted}
use Rattle.form.specs.Tails.{Tail, Header, body, rest, tail_in, tail_bytes, mark_of, slots, header_by, headed, opened}

pub length-tail_bytes : (n : ℕ) (t : Tail) → length (tail_bytes n t) ≡ 64
unfolding tail_bytes padded digits
length-tail_bytes n t = refl

pub length-form : (b : List ℕ) (n : ℕ) (t : Tail) → length (b ++ tail_bytes n t) - 64 ≡ length b
length-form b n t = rw (length-append, length-tail_bytes n t) (add-sub_cancel (length b) 64)

pub body-form : (b : List ℕ) (n : ℕ) (t : Tail) → body (b ++ tail_bytes n t) ≡ b
unfolding body
body-form b n t = rw (length-form b n t) (take-append_seam b (tail_bytes n t))

pub rest-form : (b : List ℕ) (n : ℕ) (t : Tail) → rest (b ++ tail_bytes n t) ≡ tail_bytes n t
unfolding rest
rest-form b n t = rw (length-form b n t) (drop-append_seam b (tail_bytes n t))

pub body-rest : (img : List ℕ) → body img ++ rest img ≡ img
unfolding body rest
body-rest img = take-append-drop (length img - 64) img

pub length-body : (img : List ℕ) → length (body img) ≡ length img - 64
unfolding body
length-body img = length-take-le (length img - 64) img (omega arith)

pub length_rest : (img : List ℕ) → 64 ≤ length img → length (rest img) ≡ 64
unfolding rest
length_rest img h = omega (arith, length-drop (length img - 64) img)

-- numbers that a tail can hold
pub record Small (t : Tail) : Type 0 where
  pub total : t.total < 2 ^ 64
  pub changes : t.changes < 2 ^ 64

total-bytes : (n : ℕ) (t : Tail) → t.total < 2 ^ 64 → value 256 (take 8 (tail_bytes n t)) ≡ t.total
unfolding tail_bytes padded digits
total-bytes n t h = value-digits 256 8 t.total (lit< tt) h

changes-bytes : (n : ℕ) (t : Tail) → t.changes < 2 ^ 64 → value 256 (take 8 (drop 8 (tail_bytes n t))) ≡ t.changes
unfolding tail_bytes padded digits
changes-bytes n t h = value-digits 256 8 t.changes (lit< tt) h

pub tail_in-bytes : (n : ℕ) (t : Tail) → Small t → tail_in (tail_bytes n t) ≡ t
unfolding tail_in
tail_in-bytes n t s = rw (total-bytes n t s.total, changes-bytes n t s.changes) refl

-- its layout and its rest are right, whatever its numbers
number-byte : (n : ℕ) (t : Tail) → get_or (tail_bytes n t) 16 0 ≡ n
unfolding tail_bytes padded digits
number-byte n t = refl

zero-bytes : (n : ℕ) (t : Tail) → all_zero (drop 17 (tail_bytes n t)) ≡ true
unfolding tail_bytes padded digits all_zero
zero-bytes n t = refl

pub mark_of-form : (b : List ℕ) (n : ℕ) (t : Tail) → mark_of (b ++ tail_bytes n t) ≡ n
unfolding mark_of
mark_of-form b n t = rw (rest-form b n t) (number-byte n t)

module _ (layouts : Numbering) (n : ℕ) (L : Layout) (known : layouts n ≡ some L) (B : ℕ) (b : List ℕ) (t : Tail) (small : Small t)
    (fits : t.total ≤ slots L B) where
  pub headed-form : headed layouts B (b ++ tail_bytes n t) ≡ accepted (record { size = B; number = n; layout = L; tail = t })
  unfolding headed
  headed-form =
      rw (
        mark_of-form b n t,
        known,
        rest-form b n t,
        zero-bytes n t,
        tail_in-bytes n t small,
        le-leb t.total (slots L B) fits,
        mark_of-form b n t,
      )
      refl

  pub opened-form : size_of (length b) ≡ some B → opened layouts (b ++ tail_bytes n t) ≡ accepted (record { size = B; number = n; layout = L; tail = t })
  unfolding opened
  opened-form size = rw (body-form b n t, size) headed-form

-- ---- what an accepted tail says

pub record Headed (layouts : Numbering) (B : ℕ) (img : List ℕ) (h : Header) : Type 0 where
  pub size : h.size ≡ B
  pub number : h.number ≡ mark_of img
  pub layout : layouts h.number ≡ some h.layout
  pub tail : h.tail ≡ tail_in (rest img)
  pub most : h.tail.total ≤ slots h.layout B
  pub zeros : all_zero (drop 17 (rest img)) ≡ true

pub headed-parts : (layouts : Numbering) (B : ℕ) (img : List ℕ) (h : Header) → headed layouts B img ≡ accepted h → Headed layouts B img h
unfolding headed
headed-parts layouts B img h e = go (layouts (mark_of img)) refl e
  where
    parts : (L : Layout) (z m : Bool) → layouts (mark_of img) ≡ some L
        → all_zero (drop 17 (rest img)) ≡ z → leb (tail_in (rest img)).total (slots L B) ≡ m
        → cond (z && m) (accepted (record { size = B; number = mark_of img; layout = L; tail = tail_in (rest img) })) (refused 11 0) ≡ accepted h
        → Headed layouts B img h
    parts L true true k z m a =
        rw (← same_answer a) (record { size = refl; number = refl; layout = k; tail = refl; most = leb-true _ _ m; zeros = z })
    parts L true false k z m a = absurd (never-refused (sym a))
    parts L false m k z l a = absurd (never-refused (sym a))

    go : (o : Option Layout) → layouts (mark_of img) ≡ o → header_by o B img ≡ accepted h → Headed layouts B img h
    go none k a = absurd (never-refused (sym a))
    go (some L) k a = parts L (all_zero (drop 17 (rest img))) (leb (tail_in (rest img)).total (slots L B)) k refl refl a

-- 64 bytes with zeros behind the layout's number are the bytes of the tail that they tell
tail_bytes-tail_in : (r : List ℕ) → length r ≡ 64 → Below 256 r → T (all_zero (drop 17 r)) → tail_bytes (get_or r 16 0) (tail_in r) ≡ r
unfolding tail_bytes tail_in
tail_bytes-tail_in r l b z =
    let first : digits 256 8 (value 256 (take 8 r)) ≡ take 8 r = eight r (omega arith) b in
    let second : digits 256 8 (value 256 (take 8 (drop 8 r))) ≡ take 8 (drop 8 r) =
    eight (drop 8 r) (omega (arith, length-drop 8 r)) (below-drop 256 8 r b) in
    let number : take 9 (drop 8 r) ≡ take 8 (drop 8 r) ++ (get_or r 16 0 ∷ []) =
    take-suc (drop 8 r) 8 0 (omega (arith, length-drop 8 r)) ∙ rw (get_or-drop 8 r 8 0) refl in
    rw (first, second, ← number, ← take-add 8 9 r) (padded-take 64 17 r l (omega arith) z)
  where
    eight : (s : List ℕ) → 8 ≤ length s → Below 256 s → digits 256 8 (value 256 (take 8 s)) ≡ take 8 s
    eight s h c = rw (length-take-le 8 s h) at (digits_value 256 (take 8 s) (below-take 256 8 s c))

tail_bytes-rest : (img : List ℕ) → 64 ≤ length img → ((i : ℕ) → get_or img i 0 < 256) → T (all_zero (drop 17 (rest img)))
    → tail_bytes (mark_of img) (tail_in (rest img)) ≡ rest img
unfolding mark_of
tail_bytes-rest img l bytes z =
    let b : Below 256 (rest img) = unfold rest in below-drop 256 (length img - 64) img (below-of-at 256 img bytes) in
    tail_bytes-tail_in (rest img) (length_rest img l) b z

-- an image of bytes whose tail is accepted is its body with that tail behind it
pub form-again : (layouts : Numbering) (B : ℕ) (img : List ℕ) (h : Header) → headed layouts B img ≡ accepted h → 64 ≤ length img
    → ((i : ℕ) → get_or img i 0 < 256) → img ≡ body img ++ tail_bytes h.number h.tail
form-again layouts B img h e l bytes =
    let p = headed-parts layouts B img h e in
    let z : T (all_zero (drop 17 (rest img))) = rw p.zeros tt in
    rw (p.number, p.tail, tail_bytes-rest img l bytes z) (sym (body-rest img))

-- the layout of an image that is opened is the one that its number names
pub opened-layout : (layouts : Numbering) (img : List ℕ) (h : Header) → opened layouts img ≡ accepted h → layouts h.number ≡ some h.layout
unfolding opened
opened-layout layouts img h e = let s = and_then-accepted (sized (body img)) _ h e in (headed-parts layouts s.0 img h s.2).layout

-- of the layouts that there are, layout 1
pub opened-known : (img : List ℕ) (h : Header) → opened known img ≡ accepted h → h.layout ≡ layout1
opened-known img h e = sym (known-one h.number h.layout (opened-layout known img h e))
