-- What the passes of a check ask and say: the members of buckets that were read, or the first that is unsound; the first bucket that fails a test;
-- an image whose buckets were all read; and the members that a check counts.
use Rattle.std.specs.Prelude.{◌≡◌, ℕ, ◌*◌, ◌≤◌, ◌<◌, List}
use Rattle.std.specs.Prelude as S
use Rattle.std.proofs.Math.Option.{Option, none, some}
use Rattle.multiset.specs.Multisets.{sum}
use Rattle.crumbmap.specs.Layouts.{Layout, fronts, backyards}
use Rattle.machine.specs.Results.{Result, accepted, and_then}
use Rattle.machine.specs.Images.{front_at, back_at}
use Rattle.machine.specs.Machine.{occupancy}
use Rattle.machine.specs.Checks.{unsound_front, unsound_back, check_sized}
use Rattle.form.specs.Tails.{members}
use Rattle.answers.specs.Answers.{refusal}
use Rattle.image.specs.Steps.ImageReads.{FrontRead, BackRead, Whole}
use Rattle.answers.specs.declared.Refusal.{Refusal}
use Rattle.answers.specs.declared.UnsoundBucket.{UnsoundBucket}

-- the first n of the buckets that are read have m members, at most k each
pub record Counts (read : ℕ → Result (List ℕ)) (k n m : ℕ) : Type 0 where
  pub many : sum (λ (i : ℕ). occupancy (read i)) 0 n ≡ m
  pub few : m ≤ n * k

-- the first bucket that fails a test, or none
abbrev pub fault_of : Option ℕ → S.Option ℕ
fault_of none = S.None
fault_of (some i) = S.Some i

module _ (L : Layout) (B : ℕ) (img : List ℕ) where
  -- no bucket of a kind is unsound, and so many members are in them
  abbrev pub FrontsCounted : ℕ → Type 0
  FrontsCounted m = (unsound_front L (fronts B) 0 img ≡ none) × Counts (λ (f : ℕ). front_at L f img) L.front_slots (fronts B) m

  abbrev pub BacksCounted : ℕ → Type 0
  BacksCounted m = (unsound_back L B (backyards B) 0 img ≡ none) × Counts (λ (j : ℕ). back_at L B j img) L.back_slots (backyards B) m

  -- what the pass over the front buckets says, and that over the backyard buckets
  abbrev pub FrontsSay : S.Result ℕ UnsoundBucket → Type 0
  FrontsSay (S.Ok m) = FrontsCounted m
  FrontsSay (S.Err i) = unsound_front L (fronts B) 0 img ≡ some i.0

  abbrev pub BacksSay : S.Result ℕ UnsoundBucket → Type 0
  BacksSay (S.Ok m) = BacksCounted m
  BacksSay (S.Err i) = unsound_back L B (backyards B) 0 img ≡ some i.0

  -- all buckets of an image of size B were read and are sound
  pub record AllRead : Type 0 where
    pub whole : Whole B img
    pub front : (f : ℕ) → f < fronts B → FrontRead L f img
    pub back : (j : ℕ) → j < backyards B → BackRead L B j img

  -- a check that counts the members on its way
  unfoldable pub counted_check : Result ℕ
  counted_check = and_then (check_sized L B img) λ _. accepted (members L B img)

-- the members that it counted, or why it refused
abbrev pub checked_of : S.Result ℕ Refusal → Result ℕ
checked_of (S.Ok n) = accepted n
checked_of (S.Err r) = refusal r
