-- "A history belongs to one image: a start, then a list." The image is of the form that C-14 gives it.
use Rattle.std.specs.Prelude.{◌≡◌, ℕ, ◌^◌, ◌<◌, List, length}
use Rattle.std.proofs.Math.Option.{get_or}
use Rattle.crumbmap.specs.Layouts.{Numbering}
use Rattle.machine.specs.Results.{number}
use Rattle.machine.specs.Images.{size_of}
use Rattle.machine.specs.Calls.{written, image_of}
use Rattle.form.specs.Tails.{body}
use Rattle.form.specs.Calls.{fresh_of, insert_of, delete_of, ask_of, count_of, page_of, merge_of}

-- "inserts, deletes, asks, counts and pages": a hash, or a page's start, its change count and the length of its output
pub data Call : Type 0 where
  insert delete ask count : ℕ → Call
  page : ℕ → ℕ → ℕ → Call

-- "an accepted fresh, or an accepted merge into this image of two histories' images", then calls; a fresh brings the number of its layout, and a
-- start the bytes that it writes over
pub data History : Type 0 where
  fresh : ℕ → List ℕ → History
  merge : History → History → List ℕ → History
  followed : History → Call → History

-- "a 64-bit hash"
abbrev pub Fits : Call → Type 0
Fits (insert k) = k < 2 ^ 64
Fits (delete k) = k < 2 ^ 64
Fits (ask k) = k < 2 ^ 64
Fits (count k) = k < 2 ^ 64
Fits (page s n room) = Unit {0}

-- B of a history's image
unfoldable pub blocks : History → ℕ
blocks (fresh n old) = get_or (size_of (length (body old))) 0
blocks (merge a b old) = get_or (size_of (length (body old))) 0
blocks (followed h c) = blocks h

-- the number of its layout: images of two layouts do not merge
unfoldable pub layout_number : History → ℕ
layout_number (fresh n old) = n
layout_number (merge a b old) = layout_number a
layout_number (followed h c) = layout_number h

module _ (layouts : Numbering) where
  -- the number that a call gives on an image, 0 when accepted
  abbrev pub number_of : List ℕ → Call → ℕ
  number_of img (insert k) = number (insert_of layouts img k)
  number_of img (delete k) = number (delete_of layouts img k)
  number_of img (ask k) = number (ask_of layouts img k)
  number_of img (count k) = number (count_of layouts img k)
  number_of img (page s n room) = number (page_of layouts img s n room)

  -- the image after a call
  abbrev pub image_after : List ℕ → Call → List ℕ
  image_after img (insert k) = image_of (insert_of layouts img k) img
  image_after img (delete k) = image_of (delete_of layouts img k) img
  image_after img (ask k) = img
  image_after img (count k) = img
  image_after img (page s n room) = img

  -- "each call gets the bytes that the start or the call before left": the bytes after a history
  unfoldable pub bytes_after : History → List ℕ
  bytes_after (fresh n old) = written (fresh_of layouts n old) old
  bytes_after (merge a b old) = written (merge_of layouts (bytes_after a) (bytes_after b) old) old
  bytes_after (followed h c) = image_after (bytes_after h) c

  -- each start in it was accepted
  abbrev pub Started : History → Type 0
  Started (fresh n old) = number (fresh_of layouts n old) ≡ 0
  Started (merge a b old) = Started a × Started b × (number (merge_of layouts (bytes_after a) (bytes_after b) old) ≡ 0)
  Started (followed h c) = Started h × Fits c
