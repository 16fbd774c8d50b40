-- What the steps of ask and count ask and say.
use Rattle.std.specs.Prelude.{◌≡◌, ℕ, ◌≤◌, List}
use Rattle.std.specs.Prelude as S
use Rattle.multiset.specs.Multisets.{copies, found_in, largest}
use Rattle.crumbmap.specs.Layouts.{Layout}
use Rattle.machine.specs.Results.{Result, accepted, refused}
use Rattle.machine.specs.Images.{in_front}
use Rattle.image.specs.declared.Target.{Target}
use Rattle.search.specs.Steps.Searches.{search_of}
use Rattle.search.specs.declared.Found.{Found}
use Rattle.answers.specs.declared.UnsoundBucket.{UnsoundBucket}
use Rattle.image.specs.Steps.ImageReads.{Placed, FrontFull}

-- "Front(f) holds 28 and g is not below its largest", with so many copies in front
pub record Reaches (L : Layout) (t : Target) (here : ℕ) (img : List ℕ) : Type 0 where
  pub placed : Placed L t img
  pub whole : FrontFull L t.front.0 img
  pub reach : largest (in_front L t.front.0 img) ≤ t.key
  pub many : here ≡ copies t.key (in_front L t.front.0 img)

-- what seeking member y in a backyard bucket finds, or the table number with which reading the bucket is refused
abbrev pub Sought : ℕ → Result (List ℕ) → S.Result (S.Option Found) UnsoundBucket → Type 0
Sought y (accepted ys) r = r ≡ S.Ok (search_of (found_in y ys))
Sought y (refused n i) r = r ≡ S.Err (record { 0 = i })
