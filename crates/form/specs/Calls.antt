-- The calls on the form that C-14 gives an image: the length, the tail, then document 01's call on the body, then the tail's change.
-- Order of numbers: 1, 10, 2, 11, 13, 14, then the body's own (6, 3 in reading order, 4, 5, 7, 8), and 12 after 4, 5 and 8.
use Rattle.std.specs.Prelude.{ℕ, ◌+◌, cond, ◌&&◌, List, ◌++◌, map, eqb}
use Rattle.crumbmap.specs.Layouts.{Numbering, fronts}
use Rattle.crumbmap.specs.Fingerprints.{front_of}
use Rattle.machine.specs.Results.{Result, accepted, refused, and_then, or_refused}
use Rattle.machine.specs.Images.{sized, empty_image}
use Rattle.machine.specs.Machine.{Change, Asked, Counted}
use Rattle.machine.specs.Pages.{Run}
use Rattle.machine.specs.Checks.{check_sized}
use Rattle.machine.specs.Merges.{merge_from}
use Rattle.machine.specs.Calls as M
use Rattle.machine.specs.Calls.{written, left_of}
use Rattle.machine.specs.Rows as R
use Rattle.machine.specs.Rows.{Row, descends}
use Rattle.machine.specs.OccupancyPages as O
use Rattle.form.specs.Tails.{Tail, Header, body, tail_bytes, mark_of, started, top, members, raised, lowered, headed, opened}

-- an insert or a delete that is `m` on the body and `u` in the tail: "13, tested after 11", and 12 "after 4 and 5"
unfoldable pub changed_by : Header → Result Change → Result Tail → Result Change
changed_by h m u =
    cond (eqb h.tail.changes top) (refused 13 0)
    (and_then m λ c.
    and_then u λ t.
    accepted (record { answer = c.answer; image = c.image ++ tail_bytes h.number t }))

-- "a total that differs from the members gets 12 from check, merge and moves, after 8"
unfoldable pub checked_by : Header → List ℕ → Result (Unit {0})
checked_by h b =
    and_then (check_sized h.layout h.size b) λ _.
    cond (eqb h.tail.total (members h.layout h.size b)) (accepted tt) (refused 12 0)

-- two images with their headers into one of the first's layout, "both sides added"
unfoldable pub merged_by : Header → Header → List ℕ → List ℕ → Result (List ℕ)
merged_by g h a b =
    and_then (checked_by g a) λ _.
    and_then (checked_by h b) λ _.
    and_then (merge_from g.layout g.size (fronts g.size) 0 a b (empty_image g.layout g.size)) λ c.
    accepted (c ++ tail_bytes g.number (started (g.tail.total + h.tail.total)))

-- a page that is `m` on the body, where the image's change count is still the n "that the walk began with": "a different count gets 14, tested after 11"
unfoldable pub unchanged : ℕ → ℕ → Result Run → Result Run
unchanged changes n m = cond (eqb changes n) m (refused 14 0)

module _ (layouts : Numbering) where
  -- the image that a fresh of the layout with this number leaves
  unfoldable pub fresh_of : ℕ → List ℕ → Result (List ℕ)
  fresh_of n img =
      and_then (sized (body img)) λ B.
      and_then (or_refused 11 (layouts n)) λ L.
      accepted (empty_image L B ++ tail_bytes n (started 0))

  unfoldable pub insert_of : List ℕ → ℕ → Result Change
  insert_of img k = and_then (opened layouts img) λ h. changed_by h (M.insert_of h.layout (body img) k) (raised h.layout h.size h.tail)

  unfoldable pub delete_of : List ℕ → ℕ → Result Change
  delete_of img k = and_then (opened layouts img) λ h. changed_by h (M.delete_of h.layout (body img) k) (lowered h.tail)

  unfoldable pub ask_of : List ℕ → ℕ → Result Asked
  ask_of img k = and_then (opened layouts img) λ h. M.ask_of h.layout (body img) k

  unfoldable pub count_of : List ℕ → ℕ → Result Counted
  count_of img k = and_then (opened layouts img) λ h. M.count_of h.layout (body img) k

  -- 10 is tested before the tail
  unfoldable pub row_of : List ℕ → List ℕ → Result Row
  row_of img ks =
      and_then (sized (body img)) λ B.
      cond (descends 0 (map (front_of B) ks)) (refused 10 0)
      (and_then (headed layouts B img) λ h. R.row_of h.layout (body img) ks)

  -- from bucket s, in a walk that began with change count n, into an output with room for so many
  unfoldable pub page_of : List ℕ → ℕ → ℕ → ℕ → Result Run
  page_of img s n room = and_then (opened layouts img) λ h. unchanged h.tail.changes n (M.page_of h.layout (body img) s room)

  unfoldable pub occupancy_of : List ℕ → ℕ → ℕ → Result (List ℕ)
  occupancy_of img p room = and_then (opened layouts img) λ h. O.occupancy_of h.layout (body img) p room

  unfoldable pub check_of : List ℕ → Result (Unit {0})
  check_of img = and_then (opened layouts img) λ h. checked_by h (body img)

  -- what the tail tells: "stock lists need the member total without a walk"
  unfoldable pub tail_of : List ℕ → Result Tail
  tail_of img = and_then (opened layouts img) λ h. accepted h.tail

  -- both tails are tested before either source is checked whole; images of two layouts do not merge (2)
  unfoldable pub merge_sized_of : ℕ → List ℕ → List ℕ → Result (List ℕ)
  merge_sized_of B a b =
      and_then (headed layouts B a) λ g.
      and_then (headed layouts B b) λ h.
      cond (eqb g.number h.number) (merged_by g h (body a) (body b)) (refused 2 0)

  unfoldable pub merge_of : List ℕ → List ℕ → List ℕ → Result (List ℕ)
  merge_of a b target =
      and_then (sized (body a)) λ B.
      and_then (sized (body b)) λ C.
      and_then (sized (body target)) λ D.
      cond (eqb B C && eqb B D) (merge_sized_of B a b) (refused 2 0)

-- the target after a merge of `a` and another image: fresh with its tail, of the layout of `a`
abbrev pub target_of : Numbering → List ℕ → Result (List ℕ) → List ℕ → List ℕ
target_of layouts a m old = left_of (written (fresh_of layouts (mark_of a) old) old) m old
