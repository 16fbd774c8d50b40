-- The calls, each on lent bytes of any length, and what the lent bytes are after it, refused or not.
use Rattle.std.specs.Prelude.{ℕ, cond, ◌&&◌, List, ◌++◌, length, drop, eqb}
use Rattle.crumbmap.specs.Layouts.{Layout}
use Rattle.crumbmap.specs.Fingerprints.{front_of, key_of}
use Rattle.machine.specs.Results.{Result, accepted, refused, and_then}
use Rattle.machine.specs.Images.{sized, empty_image}
use Rattle.machine.specs.Machine.{Change, Asked, Counted, insert_at, delete_at, ask_at, count_at}
use Rattle.machine.specs.Pages.{Run, page_from}
use Rattle.machine.specs.Checks.{check_sized}
use Rattle.machine.specs.Merges.{merge_sized}

module _ (L : Layout) where
  -- the image that a fresh leaves
  unfoldable pub fresh_of : List ℕ → Result (List ℕ)
  fresh_of img = and_then (sized img) λ B. accepted (empty_image L B)

  unfoldable pub insert_of : List ℕ → ℕ → Result Change
  insert_of img k = and_then (sized img) λ B. insert_at L B (front_of B k) (key_of L k) img

  unfoldable pub delete_of : List ℕ → ℕ → Result Change
  delete_of img k = and_then (sized img) λ B. delete_at L B (front_of B k) (key_of L k) img

  unfoldable pub ask_of : List ℕ → ℕ → Result Asked
  ask_of img k = and_then (sized img) λ B. ask_at L B (front_of B k) (key_of L k) img

  unfoldable pub count_of : List ℕ → ℕ → Result Counted
  count_of img k = and_then (sized img) λ B. count_at L B (front_of B k) (key_of L k) img

  -- from bucket s, into an output with room for so many
  unfoldable pub page_of : List ℕ → ℕ → ℕ → Result Run
  page_of img s room = and_then (sized img) λ B. page_from L B s room img

  unfoldable pub check_of : List ℕ → Result (Unit {0})
  check_of img = and_then (sized img) λ B. check_sized L B img

  -- the merged image; "1: wrong length (merge: any of three)", then "2: merge lengths differ"
  unfoldable pub merge_of : List ℕ → List ℕ → List ℕ → Result (List ℕ)
  merge_of a b target =
      and_then (sized a) λ B.
      and_then (sized b) λ C.
      and_then (sized target) λ D.
      cond (eqb B C && eqb B D) (merge_sized L B a b) (refused 2 0)

-- ---- the lent bytes after a call

-- an image that a fresh or a merge wrote: on a refusal "all bytes kept"
abbrev pub written : Result (List ℕ) → List ℕ → List ℕ
written (accepted img) old = img
written (refused n i) old = old

-- an insert's or a delete's image
abbrev pub image_of : Result Change → List ℕ → List ℕ
image_of (accepted c) old = c.image
image_of (refused n i) old = old

-- a page's output; "the rest of the slice .. keeps its content"
abbrev pub output_of : Result Run → List ℕ → List ℕ
output_of (accepted r) out = r.entries ++ drop (length r.entries) out
output_of (refused n i) out = out

-- a merge's target, where `fresh` is the fresh image: "4; kept, but a merge's target is fresh", the one refusal that writes
abbrev pub left_of : List ℕ → Result (List ℕ) → List ℕ → List ℕ
left_of fresh (accepted img) old = img
left_of fresh (refused n i) old = cond (eqb n 4) fresh old
