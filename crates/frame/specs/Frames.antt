-- "A frame is 18 upper-case hex digits: operation (01 insert, 02 delete, 03 ask, 04 count, 05 list), then the hash (zeros for 05)."
-- What a line prints, and the image after it, by the plain machine.
use Rattle.std.specs.Prelude.{◌≡◌, ℕ, ◌+◌, ◌*◌, Bool, cond, ◌&&◌, List, [], ◌++◌, length, take, drop, eqb, leb}
use Rattle.std.specs.Prelude as S
use Rattle.std.specs.Option.{option_and_then}
use Rattle.crumbmap.specs.Layouts.{known}
use Rattle.machine.specs.Results.{Result, accepted, refused, and_then}
use Rattle.machine.specs.Machine.{Asked, Counted, Place, nowhere, front, first, second}
use Rattle.machine.specs.Pages.{Run}
use Rattle.machine.specs.Calls.{image_of}
use Rattle.form.specs.Calls.{insert_of, delete_of, ask_of, count_of, page_of, tail_of}
use Rattle.answers.specs.Pairs.{said_of, answer_value}
use Rattle.text.specs.Texts.{unhex, over}
use Rattle.frame.specs.declared.Frame.{Frame}
use Rattle.frame.specs.declared.Frame.TheVariants.{Insert, Delete, Ask, Count, List as Listing}
use Rattle.text.specs.Lines.{digits_of, malformed, line, told, entry_lines}

-- ---- frames

-- the frame of an operation and a hash, none where there is none of these
unfoldable pub operation : ℕ → ℕ → S.Option Frame
operation n k =
    cond (eqb n 1) (S.Some (Insert k))
    (cond (eqb n 2) (S.Some (Delete k))
    (cond (eqb n 3) (S.Some (Ask k))
    (cond (eqb n 4) (S.Some (Count k))
    (cond (eqb n 5) (cond (eqb k 0) (S.Some Listing) S.None) S.None))))

-- the frame of a line, without its newline; none where the line is malformed
unfoldable pub frame_of : List ℕ → S.Option Frame
frame_of line =
    cond (eqb (length line) 18)
    (option_and_then (λ n. option_and_then (λ k. operation n k) (digits_of (unhex 0 (drop 2 line)))) (digits_of (unhex 0 (take 2 line))))
    S.None

-- ---- the values that lines tell

-- "for count, its copies"
abbrev pub copies_value : Counted → ℕ
copies_value c = c.copies

-- "for ask, reads + 16 × place (0 none, 1 front, 2 first, 3 second)"
abbrev pub place_number : Place → ℕ
place_number nowhere = 0
place_number (front i) = 1
place_number (first i) = 2
place_number (second i) = 3

abbrev pub ask_value : Asked → ℕ
ask_value a = a.reads + 16 * place_number a.place

-- "for list, the member count, then a line of 16 digits for each g"
abbrev pub count_value : Run → ℕ
count_value r = length r.entries

abbrev pub entries_of : Result Run → List ℕ
entries_of (accepted r) = r.entries
entries_of (refused n i) = []

abbrev pub list_text : Result Run → List ℕ
list_text p = told 5 (said_of count_value p) ++ entry_lines (entries_of p)

-- room for every member of an image with B = 3: 24 front buckets of at most 28 + 22 + 22
abbrev pub room : ℕ
room = 1728

-- a list is one page from 0, and brings the change count that the image's tail tells
unfoldable pub list_of : List ℕ → Result Run
list_of img = and_then (tail_of known img) λ t. page_of known img 0 t.changes room

-- ---- what a frame prints, and the image after it; a malformed line is none

unfoldable pub text_of : S.Option Frame → List ℕ → List ℕ
text_of (S.Some (Insert k)) img = told 1 (said_of answer_value (insert_of known img k))
text_of (S.Some (Delete k)) img = told 2 (said_of answer_value (delete_of known img k))
text_of (S.Some (Ask k)) img = told 3 (said_of ask_value (ask_of known img k))
text_of (S.Some (Count k)) img = told 4 (said_of copies_value (count_of known img k))
text_of (S.Some Listing) img = list_text (list_of img)
text_of S.None img = malformed

unfoldable pub image_after : S.Option Frame → List ℕ → List ℕ
image_after (S.Some (Insert k)) img = image_of (insert_of known img k) img
image_after (S.Some (Delete k)) img = image_of (delete_of known img k) img
image_after (S.Some (Ask k)) img = img
image_after (S.Some (Count k)) img = img
image_after (S.Some Listing) img = img
image_after S.None img = img

-- a frame is performed on the image `old`: `n` bytes of text in the output, and the image `new` after it
pub record Performs (f : S.Option Frame) (old out : List ℕ) (n : ℕ) (new printed : List ℕ) : Type 0 where
  pub count : n ≡ length (text_of f old)
  pub text : printed ≡ over 0 (text_of f old) out
  pub image : new ≡ image_after f old

-- an image with B = 3, and room for the longest text: the line of a list and 1,728 entries
unfoldable pub fit : List ℕ → List ℕ → Bool
fit img out = eqb (length img) 2240 && leb 29397 (length out)

-- a line is answered on the image `old`; where image or output are unfit, nothing is written
pub record Answers (input old out : List ℕ) (r : S.Option ℕ) (new printed : List ℕ) : Type 0 where
  pub count : r ≡ cond (fit old out) (S.Some (length (text_of (frame_of input) old))) S.None
  pub text : printed ≡ cond (fit old out) (over 0 (text_of (frame_of input) old) out) out
  pub image : new ≡ cond (fit old out) (image_after (frame_of input) old) old
