-- The image by the turns that led to it. What was read and what was printed no contract can say of standard input and output: here they are some pieces and some text.
use Rattle.std.specs.Prelude.{ℕ, List}
use Rattle.lines.specs.Steps.Turns.{Taken, Run, Ends}

-- steps have taken in `at` bytes of a piece
pub record Took (img held piece : List ℕ) (at : ℕ) (img' held' : List ℕ) : Type 0 where
  pub text : List ℕ
  pub taken : Taken img held piece at text img' held'

-- pieces of an input have been taken in
pub record Came (img held : List ℕ) : Type 0 where
  pub pieces : List (List ℕ)
  pub text : List ℕ
  pub run : Run pieces text img held

-- and the input has ended
pub record Ran (img' : List ℕ) : Type 0 where
  pub img : List ℕ
  pub held : List ℕ
  pub came : Came img held
  pub n : ℕ
  pub out : List ℕ
  pub ends : Ends img held n img' out
