-- What the steps of a merge ask of a source's body, and what they leave in the target.
use Rattle.std.specs.Prelude.{ℕ, ◌≤◌, List, ◌++◌}
use Rattle.std.specs.Prelude as S
use Rattle.crumbmap.specs.Layouts.{Layout, fronts}
use Rattle.machine.specs.Results.{Result, accepted, and_then}
use Rattle.machine.specs.Images.{empty_image}
use Rattle.machine.specs.Merges.{merge_from}
use Rattle.machine.specs.Calls.{left_of}
use Rattle.form.specs.Tails.{tail_bytes, started, slots}
use Rattle.answers.specs.Answers.{Leaves}
use Rattle.answers.specs.declared.Refusal.{Refusal}
use Rattle.image.specs.Steps.ImageReads.{Whole}

module _ (L : Layout) where
  -- a body of size B, and the total that its tail tells
  pub record Told (B total : ℕ) (b : List ℕ) : Type 0 where
    pub whole : Whole B b
    pub most : total ≤ slots L B

  -- n is the layout's number
  module _ (n : ℕ) where
    -- a body with a tail that begins anew, and a fresh image
    abbrev pub anew : ℕ → List ℕ → List ℕ
    anew total b = b ++ tail_bytes n (started total)

    abbrev pub fresh_form : ℕ → List ℕ
    fresh_form B = anew 0 (empty_image L B)

    -- the image that two checked bodies merge to, with the total of both
    abbrev pub both_merged : ℕ → ℕ → List ℕ → List ℕ → Result (List ℕ)
    both_merged B total a b = and_then (merge_from L B (fronts B) 0 a b (empty_image L B)) λ c. accepted (anew total c)

    -- a merge into a target of size B
    abbrev pub MergesInto : ℕ → Result (List ℕ) → List ℕ → S.Result (Unit {0}) Refusal → List ℕ → Type 0
    MergesInto B m old r new = Leaves m (left_of (fresh_form B) m old) r new
