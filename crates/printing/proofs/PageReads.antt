-- A page's buckets, for any layout: read as a run that has room for all of them, then printed line by line.
-- Main results: `run-refused` and `ran-lines`, what reading them says of the page; `bucket-few`, `bucket-full`, `line-here`, `line-past`, the line of a
-- bucket that was read; `lines_more`, one line more; `page-refused`, `page-short`, `page-printed`, the endings of a page.
use mathlib.Core.Path.{◌≡◌, refl, ap}
use Rattle.std.specs.Prelude as S
use Prim.Native.Nat.{ℕ, zero, suc, ◌+◌, ◌*◌, ◌-◌, ◌≤◌, ◌<◌, min}
use mathlib.Core.Bool.{Bool, true, false}
use mathlib.Core.List.{List, map}
use native.Mathlib.Nat.{suc-mul, mul-le-mul_right}
use native.Mathlib.Numerals.{add-one}
use native.Mathlib.Omega.{arith}
use lib.ListN.{length}
use lib.Dec.{leb}
use borrow.Author.Tests.{lt-ltb, le-ltb, le-leb}
use borrow.Rule.Slice.PartMut.{put_mid}
use Rattle.crumbmap.specs.Layouts.{Layout, fronts, most_members}
use Rattle.crumbmap.specs.Fingerprints.{fingerprint}
use Rattle.machine.specs.Results.{Result, accepted, refused}
use Rattle.machine.specs.Images.{in_front}
use Rattle.machine.specs.Machine.{members_at, overflow_in}
use Rattle.machine.specs.Pages.{Run, prepended, run_from}
use Rattle.machine.specs.OccupancyPages.{page_lines, line_bytes, page_bytes, line, blank_line, lines_from, print_from, line_with, line_of, lines_of}
use Rattle.machine.proofs.AcceptedLaws.{same_answer, never-refused, and_then-accepted}
use Rattle.machine.proofs.BagLaws.{length-added_all}
use Rattle.machine.proofs.RoomLaws.{members-room}
use Rattle.machine.proofs.OccupancyLaws.{length-line_of, lines_next, with-few, with-many, line-members, lines-counted}
use Rattle.answers.specs.Answers.{Prints}
use Rattle.answers.specs.declared.Refusal.TheVariants.{Unsound, NoRoom}
use Rattle.text.specs.Texts.{over}
use Rattle.listing.specs.Steps.Listings.{members_in, MembersRead}
use Rattle.listing.proofs.ListingLaws.{members-at, members-few, members-full}
use Rattle.paging.specs.Steps.PageRuns.{Ran}
use Rattle.printing.specs.Steps.Counts.{many_in, LinesRead}
use Rattle.printing.proofs.LineLaws.{Stands, stands-piece}

-- ---- reading

-- a run with a bucket's entries before it is refused as it is
prepended-refused : (gs : List ℕ) (r : Result Run) (n i : ℕ) → prepended gs r ≡ refused n i → r ≡ refused n i
prepended-refused gs (accepted s) n i e = absurd (never-refused e)
prepended-refused gs (refused m j) n i e = cc

-- a refusal says the same of any answer
same-refusal : {A C : Type 0} {n i m j : ℕ} → ◌≡◌ {A = Result A} (refused n i) (refused m j) → ◌≡◌ {A = Result C} (refused n i) (refused m j)
same-refusal {A} {C} {n} {i} {m} {j} e = let p : n ≡ m = cc in let q : i ≡ j = cc in rw (p, q)

module _ (L : Layout) (B : ℕ) (img : List ℕ) where
  -- an unsound bucket in the run is one of the page
  pub run-refused : (n m s room i : ℕ) → n ≤ m → s + n ≤ fronts B → run_from L B n s room img ≡ refused 3 i → lines_from L B m s img ≡ refused 3 i
  unfolding run_from lines_from
  run-refused zero m s room i l h e = absurd (never-refused e)
  run-refused (suc n) zero s room i l h e = absurd (omega arith)
  run-refused (suc n) (suc m) s room i l h e = go (members_at L B s img) refl (λ r. run-refused n m (suc s) r i (omega arith) (omega arith))
    where
      go : (y : Result (List ℕ)) → members_at L B s img ≡ y
          → ((r : ℕ) → run_from L B n (suc s) r img ≡ refused 3 i → lines_from L B m (suc s) img ≡ refused 3 i) → lines_from L B (suc m) s img ≡ refused 3 i
      go (refused k j) q more = rw (lt-ltb s (fronts B) (omega arith), line-members L B s img, q) (same-refusal (rw q at e))
      go (accepted xs) q more = fits (leb (length xs) room) refl
        where
          fits : (b : Bool) → leb (length xs) room ≡ b → lines_from L B (suc m) s img ≡ refused 3 i
          fits true p =
              rw (
                lt-ltb s (fronts B) (omega arith),
                line-members L B s img,
                q,
                more (room - length xs) (prepended-refused (map (fingerprint L s) xs) _ 3 i (rw (q, p) at e)),
              )
          fits false p = absurd (never-refused (rw (q, p) at e))

  -- a run with room for any members goes to its end
  run-all : (n s room : ℕ) (r : Run) → n * most_members L ≤ room → run_from L B n s room img ≡ accepted r → r.next ≡ s + n
  unfolding run_from
  run-all zero s room r h e = let k = ap (λ (t : Run). t.next) (same_answer e) in omega arith
  run-all (suc n) s room r h e =
      let a = and_then-accepted (members_at L B s img) _ r e in
      let few = members-room L B s img a.0 a.1 in
      let p = suc-mul n (most_members L) in
      let b =
      and_then-accepted (run_from L B n (suc s) (room - length a.0) img) _ r (rw (le-leb (length a.0) room (omega arith)) at a.2) in
      let k = ap (λ (t : Run). t.next) (same_answer b.2) in
      let i = run-all n (suc s) (room - length a.0) b.0 (omega arith) b.1 in
      omega arith

  -- so all its buckets were read
  pub ran-lines : (s n end room next : ℕ) → end ≡ min (s + n) (fronts B) → s < fronts B → n * most_members L ≤ room → Ran L B s end room img next
      → LinesRead L B img n s
  ran-lines s n end room next e h k r f l u i =
      let few : end - s ≤ n = omega arith in
      let m = run-all (end - s) s room _ (omega (arith, mul-le-mul_right (most_members L) few)) r.runs in
      r.sound f l (omega arith)

  pub lines-read : (n s : ℕ) → LinesRead L B img n s → lines_from L B n s img ≡ accepted (lines_of L (many_in L B img) (fronts B) n s)
  unfolding many_in
  lines-read n s r = lines-counted L B img (many_in L B img) n s (λ f l u h. (members_in L B f img, members-at (r f l u h), refl))

  -- ---- a line

  module _ (f : ℕ) where
    pub line-past : fronts B ≤ f → line_of L (many_in L B img) (fronts B) f ≡ blank_line L
    unfolding line_of
    line-past h = rw (le-ltb f (fronts B) h)

    pub line-here : f < fronts B → line_of L (many_in L B img) (fronts B) f ≡ line_with L f (many_in L B img f)
    unfolding line_of
    line-here h = rw (lt-ltb f (fronts B) h)

    pub bucket-few : MembersRead L B f img → length (in_front L f img) < L.front_slots
        → line L f (length (in_front L f img)) 0 ≡ line_with L f (many_in L B img f)
    unfolding many_in
    bucket-few r h = rw (members-few r h) (with-few L f (length (in_front L f img)) h)

    pub bucket-full : MembersRead L B f img → L.front_slots ≤ length (in_front L f img)
        → line L f (length (in_front L f img)) (length (overflow_in L B f img)) ≡ line_with L f (many_in L B img f)
    unfolding many_in
    bucket-full r h =
        let n = length-added_all (in_front L f img) (overflow_in L B f img) in
        let p : length (in_front L f img) ≡ L.front_slots = omega (arith, r.front.list.room) in
        let q : length (overflow_in L B f img) ≡ length (members_in L B f img) - L.front_slots = omega (arith, ap length (members-full r h)) in
        rw (p, q) (with-many L f (length (members_in L B f img)) (omega (arith, ap length (members-full r h))))

-- one line more
pub lines_more : (L : Layout) (count : ℕ → ℕ) (F s i : ℕ) (xs ys r : List ℕ) → Stands xs (lines_of L count F i s) (line_bytes L * i) ys
    → r ≡ line_of L count F (s + i)
    → Stands xs (lines_of L count F (i + 1) s) (line_bytes L * (i + 1))
    (put_mid (line_bytes L * i) (line_bytes L * i + line_bytes L - line_bytes L * i) ys r)
lines_more L count F s i xs ys r t e =
    let k : line_bytes L * i + line_bytes L - line_bytes L * i ≡ line_bytes L = omega arith in
    let z : line_bytes L * (i + 1) ≡ line_bytes L * i + line_bytes L = omega arith in
    rw (k, z, add-one i, lines_next L count F i s) (stands-piece t (line_of L count F (s + i)) r (line_bytes L) (length-line_of L count F (s + i)) e)

-- ---- the endings of a page

module _ (L : Layout) (B s : ℕ) (img old : List ℕ) where
  pub page-refused : {i : ℕ} → lines_from L B page_lines s img ≡ refused 3 i
      → Prints (print_from L B s (length old) img) old (S.Err (Unsound i)) old
  unfolding print_from
  page-refused e = rw e (record { answer = refl; bytes = refl })

  module _ {text : List ℕ} (e : lines_from L B page_lines s img ≡ accepted text) where
    pub page-short : length old < page_bytes L → Prints (print_from L B s (length old) img) old (S.Err NoRoom) old
    unfolding print_from
    page-short h = rw (e, lt-ltb (length old) (page_bytes L) h) (record { answer = refl; bytes = refl })

    pub page-printed : {new : List ℕ} → page_bytes L ≤ length old → new ≡ over 0 text old → Prints (print_from L B s (length old) img) old (S.Ok tt) new
    unfolding print_from over
    page-printed h f = rw (e, le-ltb (length old) (page_bytes L) h) (record { answer = refl; bytes = f })
