-- The frame of a line of another length. Main result: frame-length.
use Rattle.std.proofs.Common.{◌≡◌, ℕ, List, length, ne_eqb}
use Rattle.std.specs.Prelude as S
use Rattle.frame.specs.Frames.{frame_of}

pub frame-length : (line : List ℕ) → (length line ≡ 18 → ⊥) → frame_of line ≡ S.None
unfolding frame_of
frame-length line h = rw (ne_eqb (length line) 18 h)
