-- An input that comes in pieces: what a step takes in and prints, and a whole run of steps.
use Rattle.std.specs.Prelude.{◌≡◌, ℕ, ◌+◌, ◌≤◌, ◌<◌, List, [], ◌∷◌, ◌++◌, length, take, drop, get_or}
use Rattle.std.specs.Prelude as S
use Rattle.frame.specs.Frames.{frame_of, text_of, image_after}
use Rattle.frame.specs.declared.Frame.{Frame}
use Rattle.lines.specs.Inputs.{frames_after, text_of_frames, image_of_frames, start_image}
use Rattle.lines.specs.declared.Held.{Held}
use Rattle.lines.specs.declared.Step.{Step}

-- of a line the first 19 bytes are held: one longer than 18 bytes is malformed whatever follows
unfoldable pub kept : List ℕ → List ℕ → List ℕ
kept held bytes = take 19 (held ++ bytes)

-- `bytes` after the held start of a line are these frames and a held start of the next line, whatever follows
abbrev pub Reads : List ℕ → List ℕ → List (S.Option Frame) → List ℕ → Type 0
Reads held bytes frames held' = (rest : List ℕ) → frames_after held (bytes ++ rest) ≡ frames ++ frames_after held' rest

-- `bytes` are taken in after those held: their frames are performed, and `text` is printed
pub record Turn (img held bytes text img' held' : List ℕ) : Type 0 where
  pub frames : List (S.Option Frame)
  pub reads : Reads held bytes frames held'
  pub printed : text ≡ text_of_frames frames img
  pub performed : img' ≡ image_of_frames frames img

-- ---- what the functions ask and give

-- an image with B = 3, a line of which so many bytes are held, and an output with room for the longest text
pub record Room (img line : List ℕ) (held : ℕ) (out : List ℕ) : Type 0 where
  pub image : length img ≡ 2240
  pub longest : length line ≡ 19
  pub few : held ≤ 19
  pub text : length out ≡ 29397

-- bytes up to a newline, or all of them, are held
pub record Holds (held bytes : List ℕ) (h : Held) (line : List ℕ) : Type 0 where
  pub few : h.held ≤ 19
  pub within : h.used ≤ length bytes
  pub newline : h.used < length bytes → get_or bytes h.used 0 ≡ 10
  pub reads : Reads held (take h.used bytes) [] (take h.held line)

-- a line is answered on the image `old`: `n` bytes of text in the output, and the image `new` after it
pub record Replies (line old : List ℕ) (n : ℕ) (new out : List ℕ) : Type 0 where
  pub room : n ≤ length out
  pub text : take n out ≡ text_of (frame_of line) old
  pub image : new ≡ image_after (frame_of line) old

-- a step takes in some of the bytes, where there are any
pub record Steps (img held bytes : List ℕ) (s : Step) (img' line out : List ℕ) : Type 0 where
  pub few : s.held ≤ 19
  pub room : s.text ≤ length out
  pub within : s.used ≤ length bytes
  pub some : 0 < length bytes → 0 < s.used
  pub turn : Turn img held (take s.used bytes) (take s.text out) img' (take s.held line)

-- the input has ended: what is held is the last line
pub record Ends (img held : List ℕ) (n : ℕ) (img' out : List ℕ) : Type 0 where
  pub room : n ≤ length out
  pub text : take n out ≡ text_of_frames (frames_after held []) img
  pub image : img' ≡ image_of_frames (frames_after held []) img

-- ---- a run

-- steps have taken in `at` bytes of a piece, and printed `text`
pub data Taken (img held piece : List ℕ) : ℕ → List ℕ → List ℕ → List ℕ → Type 0 where
  none : Taken img held piece 0 [] img held
  step : {at : ℕ} {text img₁ held₁ img₂ line out : List ℕ} {s : Step} → Taken img held piece at text img₁ held₁
      → Steps img₁ held₁ (drop at piece) s img₂ line out → Taken img held piece (at + s.used) (text ++ take s.text out) img₂ (take s.held line)

-- the pieces of an input, one after another, have been taken in whole
pub data Run : List (List ℕ) → List ℕ → List ℕ → List ℕ → Type 0 where
  start : Run [] [] start_image []
  piece : {pieces : List (List ℕ)} {text img held p more img' held' : List ℕ} → Run pieces text img held
      → Taken img held p (length p) more img' held' → Run (pieces ++ (p ∷ [])) (text ++ more) img' held'

-- the pieces as one input
unfoldable pub joined : List (List ℕ) → List ℕ
joined [] = []
joined (p ∷ ps) = p ++ joined ps
