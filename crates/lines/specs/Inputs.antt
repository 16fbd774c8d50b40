-- "It reads standard input, one frame a line, into a fresh image with B = 3": the text that an input of any length is answered by, and the image after it.
use Rattle.std.specs.Prelude.{ℕ, cond, List, [], ◌∷◌, ◌++◌, map, eqb}
use Rattle.std.specs.Prelude as S
use Rattle.crumbmap.specs.Layouts.{layout1}
use Rattle.machine.specs.Images.{empty_image}
use Rattle.form.specs.Tails.{tail_bytes, started}
use Rattle.frame.specs.Frames.{frame_of, text_of, image_after}
use Rattle.frame.specs.declared.Frame.{Frame}

-- ---- lines

-- what stands behind the last newline: "a last line needs no newline", and a final newline starts no line
abbrev pub last_line : List ℕ → List (List ℕ)
last_line [] = []
last_line (b ∷ bs) = (b ∷ bs) ∷ []

-- the lines of `bytes` that come after the start `line` of a line, each without its newline
unfoldable pub lines_after : List ℕ → List ℕ → List (List ℕ)
lines_after line [] = last_line line
lines_after line (b ∷ bs) = cond (eqb b 10) (line ∷ lines_after [] bs) (lines_after (line ++ (b ∷ [])) bs)

-- "one frame a line"; a malformed line is none
abbrev pub frames_after : List ℕ → List ℕ → List (S.Option Frame)
frames_after line bytes = map frame_of (lines_after line bytes)

-- ---- answers

-- the text that frames are answered by, each on the image that those before it left
unfoldable pub text_of_frames : List (S.Option Frame) → List ℕ → List ℕ
text_of_frames [] img = []
text_of_frames (f ∷ fs) img = text_of f img ++ text_of_frames fs (image_after f img)

-- the image after frames
unfoldable pub image_of_frames : List (S.Option Frame) → List ℕ → List ℕ
image_of_frames [] img = img
image_of_frames (f ∷ fs) img = image_of_frames fs (image_after f img)

-- ---- the program

-- "a fresh image with B = 3"
abbrev pub start_image : List ℕ
start_image = empty_image layout1 3 ++ tail_bytes 1 (started 0)

-- what the program prints for an input
unfoldable pub output_of : List ℕ → List ℕ
output_of input = text_of_frames (frames_after [] input) start_image

-- the image that an input leaves
unfoldable pub image_of_input : List ℕ → List ℕ
image_of_input input = image_of_frames (frames_after [] input) start_image
