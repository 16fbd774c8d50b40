-- The occupancy page, for any layout: how long its lines are, and what follows from how many members each front bucket has.
-- Main results: `length-aligned`, `length-line`, `length-line_of`, `page-length`; `lines_next`, one line more; `lines_at`, line i of a page;
-- `line-members` and `lines-counted`, a page by its buckets' members; `page-counted`, the page of a good image.
use mathlib.Core.Path.{◌≡◌, refl, sym, ◌∙◌}
use Prim.Native.Nat.{ℕ, zero, suc, ◌+◌, ◌*◌, ◌-◌, ◌/◌, ◌%◌, ◌≤◌, ◌<◌, min}
use mathlib.Core.Bool.{Bool, true, false, cond}
use mathlib.Core.List.{List, [], ◌∷◌, ◌++◌, append_assoc, append-nil}
use native.Mathlib.Omega.{arith}
use native.Mathlib.Nat.{suc-mul}
use lib.ListN.{length, take, drop, replicate, length-append, length-replicate}
use lib.Seq.{take_at, drop_at, drop-drop}
use lib.Dec.{leb, ltb}
use borrow.Author.Tests.{ltb-true, ltb-false}
use Rattle.multiset.specs.Multisets.{sum}
use Rattle.crumbmap.specs.Layouts.{Layout, keys, fronts}
use Rattle.crumbmap.specs.Fingerprints.{fingerprint}
use Rattle.machine.specs.Results.{Result, accepted, refused, and_then}
use Rattle.machine.specs.Bags.{added_all}
use Rattle.machine.specs.Images.{sized, front_at}
use Rattle.machine.specs.Machine.{members_at, backyard, overflow}
use Rattle.machine.specs.OccupancyPages.{page_lines, aligned, column, line_bytes, page_bytes, bar, line, blank_line, line_at, lines_from, print_from, occupancy_of, line_with, line_of, lines_of}
use Rattle.machine.proofs.AcceptedLaws.{same_answer, test-passed, and_then-accepted}
use Rattle.machine.proofs.BagLaws.{length-added_all}
use Rattle.machine.proofs.Invariant.{Good}
use Rattle.machine.proofs.PageLaws.{Says, members-good, bucket-length}
use Rattle.machine.proofs.RoomLaws.{front_at-room}

-- ---- lengths

pub length-aligned : (w n : ℕ) → length (aligned w n) ≡ w
unfolding aligned
length-aligned zero n = refl
length-aligned (suc w) n = go (aligned w (n / 10)) (length-aligned w (n / 10)) (ltb n 10)
  where
    go : (before : List ℕ) → length before ≡ w → (b : Bool) → length (cond b (replicate {A = ℕ} w 32) before ++ ((48 + n % 10) ∷ [])) ≡ suc w
    go before e true = rw (length-append, length-replicate) (omega arith)
    go before e false = rw (length-append, e) (omega arith)

pub length-column : (w n : ℕ) → length (column w n) ≡ w + 1
unfolding column
length-column w n = rw (length-append, length-aligned w n)

module _ (L : Layout) where
  pub length-bar : (n : ℕ) → n ≤ L.front_slots → length (bar L n) ≡ L.front_slots
  unfolding bar
  length-bar n h = rw (length-append, length-replicate {A = ℕ} n 35, length-replicate {A = ℕ} (L.front_slots - n) 46) (omega arith)

  pub length-line : (f n over : ℕ) → n ≤ L.front_slots → length (line L f n over) ≡ line_bytes L
  unfolding line
  length-line f n over h =
      rw (length-append, length-append, length-append, length-append, length-column 6 f, length-column 2 n, length-column 2 over, length-bar n h)
      (omega arith)

  pub length-blank_line : length (blank_line L) ≡ line_bytes L
  unfolding blank_line
  length-blank_line = rw (length-append, length-replicate) (omega arith)

  module _ (count : ℕ → ℕ) (F : ℕ) where
    pub length-line_of : (f : ℕ) → length (line_of L count F f) ≡ line_bytes L
    unfolding line_of
    length-line_of f = go (ltb f F)
      where
        go : (b : Bool) → length (cond b (line_with L f (count f)) (blank_line L)) ≡ line_bytes L
        go true = length-line f (min (count f) L.front_slots) (count f - L.front_slots) (omega arith)
        go false = length-blank_line

    -- one line more
    pub lines_next : (n f : ℕ) → lines_of L count F (suc n) f ≡ lines_of L count F n f ++ line_of L count F (f + n)
    unfolding lines_of
    lines_next zero f = let e : f + 0 ≡ f = omega arith in rw e (append-nil (line_of L count F f))
    lines_next (suc n) f =
        let e : suc f + n ≡ f + suc n = omega arith in
        rw (lines_next n (suc f), e) (sym (append_assoc (line_of L count F f) (lines_of L count F n (suc f)) (line_of L count F (f + suc n))))

    -- line i of a page
    pub lines_at : (n f i : ℕ) → i < n → take (line_bytes L) (drop (i * line_bytes L) (lines_of L count F n f)) ≡ line_of L count F (f + i)
    unfolding lines_of
    lines_at zero f i h = absurd (omega arith)
    lines_at (suc n) f zero h =
        let e : 0 * line_bytes L ≡ 0 = omega arith in
        let k : f + 0 ≡ f = omega arith in
        rw (e, k) (take_at (line_of L count F f) (lines_of L count F n (suc f)) (line_bytes L) (length-line_of f))
    lines_at (suc n) f (suc i) h =
        let e : suc i * line_bytes L ≡ line_bytes L + i * line_bytes L = omega (arith, suc-mul i (line_bytes L)) in
        let k : f + suc i ≡ suc f + i = omega arith in
        rw (
          e,
          ← drop-drop (i * line_bytes L) (line_bytes L) (line_of L count F f ++ lines_of L count F n (suc f)),
          drop_at (line_of L count F f) (lines_of L count F n (suc f)) (line_bytes L) (length-line_of f),
          k,
        )
        (lines_at n (suc f) i (omega arith))

-- ---- a bucket's line by its members

module _ (L : Layout) (f n : ℕ) where
  pub with-few : n < L.front_slots → line L f n 0 ≡ line_with L f n
  with-few h =
      let p : min n L.front_slots ≡ n = omega arith in
      let q : n - L.front_slots ≡ 0 = omega arith in
      rw (p, q)

  pub with-many : L.front_slots ≤ n → line L f L.front_slots (n - L.front_slots) ≡ line_with L f n
  with-many h = let p : min n L.front_slots ≡ L.front_slots = omega arith in rw p

module _ (L : Layout) (B f : ℕ) where
  with-full : (xs ys : List ℕ) → length xs ≡ L.front_slots → line L f (length xs) (length ys) ≡ line_with L f (length (added_all xs ys))
  with-full xs ys h =
      let n : length (added_all xs ys) ≡ length xs + length ys = length-added_all xs ys in
      let q : length ys ≡ length (added_all xs ys) - L.front_slots = omega arith in
      rw (h, q) (with-many L f (length (added_all xs ys)) (omega arith))

  -- b0 and b1 as they were read
  behind : (xs : List ℕ) (y : Result (List ℕ × List ℕ)) → length xs ≡ L.front_slots
      → and_then y (λ b. accepted (line L f (length xs) (length (overflow L B f b))))
      ≡ and_then (and_then y (λ b. accepted (added_all xs (overflow L B f b)))) (λ ys. accepted (line_with L f (length ys)))
  behind xs (accepted b) h = rw (with-full xs (overflow L B f b) h)
  behind xs (refused n i) h = refl

  -- on any image: its line is that of its members, or it is refused as they are
  pub line-members : (img : List ℕ) → line_at L B f img ≡ and_then (members_at L B f img) (λ ys. accepted (line_with L f (length ys)))
  unfolding members_at line_at
  line-members img = go (front_at L f img) refl
    where
      read : (xs : List ℕ) → front_at L f img ≡ accepted xs → (b : Bool) → ltb (length xs) L.front_slots ≡ b
          → line_at L B f img ≡ and_then (members_at L B f img) (λ ys. accepted (line_with L f (length ys)))
      read xs e true l = rw (e, l, with-few L f (length xs) (ltb-true (length xs) L.front_slots l))
      read xs e false l =
          rw (e, l)
          (behind xs (backyard L B f img) (omega (arith, ltb-false (length xs) L.front_slots l, front_at-room L f img xs e)))

      go : (r : Result (List ℕ)) → front_at L f img ≡ r
          → line_at L B f img ≡ and_then (members_at L B f img) (λ ys. accepted (line_with L f (length ys)))
      go (accepted xs) e = read xs e (ltb (length xs) L.front_slots) refl
      go (refused n i) e = rw e

-- ---- how long a page is

module _ (L : Layout) (B : ℕ) (img : List ℕ) where
  line-length : (f : ℕ) (b : Bool) (l : List ℕ) → cond b (line_at L B f img) (accepted (blank_line L)) ≡ accepted l → length l ≡ line_bytes L
  line-length f true l e =
      let m = and_then-accepted (members_at L B f img) _ l (sym (line-members L B f img) ∙ e) in
      rw (← same_answer m.2) (length-line L f (min (length m.0) L.front_slots) (length m.0 - L.front_slots) (omega arith))
  line-length f false l e = rw (← same_answer e) (length-blank_line L)

  lines-length : (n f : ℕ) (ls : List ℕ) → lines_from L B n f img ≡ accepted ls → length ls ≡ n * line_bytes L
  unfolding lines_from
  lines-length zero f ls e = rw (← same_answer e) (omega arith)
  lines-length (suc n) f ls e =
      let a = and_then-accepted (cond (ltb f (fronts B)) (line_at L B f img) (accepted (blank_line L))) _ ls e in
      let b = and_then-accepted (lines_from L B n (suc f) img) _ ls a.2 in
      rw (← same_answer b.2, length-append, line-length f (ltb f (fronts B)) a.0 a.1, lines-length n (suc f) b.0 b.1)
      (omega (arith, suc-mul n (line_bytes L)))

-- 24 lines of 42 bytes
pub page-length : (L : Layout) (img : List ℕ) (p room : ℕ) (text : List ℕ) → occupancy_of L img p room ≡ accepted text → length text ≡ page_bytes L
unfolding occupancy_of print_from
page-length L img p room text e =
    let s = and_then-accepted (sized img) _ text e in
    let t = and_then-accepted (lines_from L s.0 page_lines (page_lines * p) img) _ text (test-passed (leb (fronts s.0) (page_lines * p)) 6 0 s.2) in
    rw (← same_answer (test-passed (ltb room (page_bytes L)) 7 0 t.2)) (lines-length L s.0 img page_lines (page_lines * p) t.0 t.1)

-- ---- a page by its buckets' members

module _ (L : Layout) (B : ℕ) (img : List ℕ) (count : ℕ → ℕ) where
  -- front bucket f is sound, and so are those behind it that count: its members are as many as the count says
  abbrev pub Counts : ℕ → Type 0
  Counts f = (xs : List ℕ) × (members_at L B f img ≡ accepted xs) × (length xs ≡ count f)

  -- so are n front buckets from f on, as far as there are
  abbrev pub CountsAll : ℕ → ℕ → Type 0
  CountsAll n f = (g : ℕ) → f ≤ g → g < f + n → g < fronts B → Counts g

  -- the line at f, of its bucket or past the last
  line-counted : (f : ℕ) → (f < fronts B → Counts f)
      → cond (ltb f (fronts B)) (line_at L B f img) (accepted (blank_line L)) ≡ accepted (line_of L count (fronts B) f)
  unfolding line_of
  line-counted f h = go (ltb f (fronts B)) refl
    where
      go : (b : Bool) → ltb f (fronts B) ≡ b
          → cond b (line_at L B f img) (accepted (blank_line L)) ≡ accepted (cond b (line_with L f (count f)) (blank_line L))
      go true e = let c = h (ltb-true f (fronts B) e) in line-members L B f img ∙ rw (c.1, c.2)
      go false e = refl

  pub lines-counted : (n f : ℕ) → CountsAll n f → lines_from L B n f img ≡ accepted (lines_of L count (fronts B) n f)
  unfolding lines_from lines_of
  lines-counted zero f h = refl
  lines-counted (suc n) f h =
      rw (line-counted f (h f (omega arith) (omega arith)), lines-counted n (suc f) (λ g l u. h g (omega arith) (omega arith)))

-- ---- a good image

-- for each front bucket all of N over its fingerprints
pub page-counted : (L : Layout) (B : ℕ) (img : List ℕ) (N : ℕ → ℕ) → Good L B img → Says L B N img → (n f : ℕ)
    → lines_from L B n f img ≡ accepted (lines_of L (λ (g : ℕ). sum N (fingerprint L g 0) (keys L)) (fronts B) n f)
page-counted L B img N good says n f =
    lines-counted L B img (λ (g : ℕ). sum N (fingerprint L g 0) (keys L)) n f λ g l u h.
    let m = members-good L B img good g h in
    (m.0, m.1, bucket-length L B img good N says g m.0 h m.2)
