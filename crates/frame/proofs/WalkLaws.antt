-- A list is a whole walk: its page starts at 0, has room for every member, and so ends at the last bucket. Main result: list-whole.
use mathlib.Core.Path.{◌≡◌, sym, ◌∙◌, ap}
use Prim.Native.Nat.{ℕ, ◌*◌, ◌≤◌}
use mathlib.Core.Bool.{Bool, true, false, cond, ◌&&◌}
use mathlib.Core.List.{List}
use mathlib.Core.Option.{some}
use native.Mathlib.Omega.{arith}
use lib.ListN.{length}
use lib.Dec.{eqb, ltb}
use Rattle.crumbmap.specs.Layouts.{Layout, known, most_members, fronts}
use Rattle.crumbmap.proofs.LayoutLaws.{known-one}
use Rattle.machine.specs.Results.{accepted, refused}
use Rattle.machine.specs.Images.{size_of, length_of}
use Rattle.machine.specs.Pages.{Run, page_from}
use Rattle.machine.specs.Calls as M
use Rattle.machine.proofs.AcceptedLaws.{same_answer, and_then-accepted}
use Rattle.machine.proofs.RoomLaws.{run-whole}
use Rattle.form.specs.Tails.{body, opened}
use Rattle.form.specs.Calls.{page_of, tail_of}
use Rattle.form.proofs.TailLaws.{length-body, opened-layout}
use Rattle.form.proofs.WalkLaws.{unchanged-accepted}
use Rattle.frame.specs.Frames.{room, list_of}

kept_run : (t : Bool) (q r : Run) → t ≡ false → cond t (refused 7 0) (accepted q) ≡ accepted r → q ≡ r
kept_run true q r h e = let z : ◌≡◌ {A = ℕ} 0 1 = cc in absurd (omega arith)
kept_run false q r h e = same_answer e

page-end : (q r : Run) → q.next ≡ 24 → cond (eqb q.next 0 && ltb 0 24) (refused 7 0) (accepted q) ≡ accepted r → r.next ≡ 24
page-end q r n e =
    let g = kept_run (eqb q.next 0 && ltb 0 24) q r (ap (λ (m : ℕ). eqb m 0 && ltb 0 24) n) e in
    ap (λ (x : Run). x.next) (sym g) ∙ n

-- the room of a list is enough for 24 buckets of every layout that there is
known-room : (n : ℕ) (L : Layout) → known n ≡ some L → 24 * most_members L ≤ room
known-room n L e = rw (← known-one n L e) (omega arith)

-- the page of a body with B = 3 ends at the last bucket
body-whole : (L : Layout) (b : List ℕ) (r : Run) → 24 * most_members L ≤ room → length b ≡ 2176 → M.page_of L b 0 room ≡ accepted r → r.next ≡ 24
unfolding M.page_of page_from size_of length_of fronts
body-whole L b r h l e =
    let k = and_then-accepted {A = Run} _ _ r (rw l at e) in
    page-end k.0 r (run-whole L 3 24 0 room b k.0 h k.1) k.2

pub list-whole : (img : List ℕ) (r : Run) → length img ≡ 2240 → list_of img ≡ accepted r → r.next ≡ 24
unfolding list_of page_of
list-whole img r l e =
    let t = and_then-accepted (tail_of known img) _ r e in
    let o = and_then-accepted (opened known img) _ r t.2 in
    let b : length (body img) ≡ 2176 = omega (arith, length-body img) in
    body-whole o.0.layout (body img) r (known-room o.0.number o.0.layout (opened-layout known img o.0 o.1)) b
    (unchanged-accepted o.0.tail.changes t.0.changes _ o.2).1
