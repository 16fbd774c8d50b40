-- A call that changes an image, by what the machine's call comes to, and where it is refused.
use mathlib.Core.Path.{◌≡◌, refl}
use Prim.Native.Nat.{ℕ}
use mathlib.Core.List.{List}
use Rattle.std.specs.Prelude as S
use Rattle.machine.specs.Results.{Result}
use Rattle.machine.specs.Machine.{Change}
use Rattle.answers.specs.Answers.{refusal, Changes}
use Rattle.answers.specs.declared.Refusal.{Refusal}

pub changes : {m n : Result Change} {old new : List ℕ} {r : S.Result ℕ Refusal} → m ≡ n → Changes n old r new → Changes m old r new
changes e h = rw e h

-- "all bytes kept"
pub change-refused : (why : Refusal) (old : List ℕ) → Changes (refusal why) old (S.Err why) old
change-refused why old = record { answer = refl; bytes = refl }
