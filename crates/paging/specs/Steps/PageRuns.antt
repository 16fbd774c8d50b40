-- What a page's run of whole buckets asks and says, at any layout: its entries, how far it goes, and what measuring it says.
use Rattle.std.specs.Prelude.{◌≡◌, ℕ, zero, suc, ◌-◌, ◌≤◌, ◌<◌, List, [], ◌++◌, map, length}
use Rattle.std.specs.Prelude as S
use Rattle.crumbmap.specs.Layouts.{Layout}
use Rattle.crumbmap.specs.Fingerprints.{fingerprint}
use Rattle.machine.specs.Results.{accepted, refused}
use Rattle.machine.specs.Pages.{run_from}
use Rattle.image.specs.Steps.ImageReads.{Whole}
use Rattle.listing.specs.Steps.Listings.{members_in, MembersRead}
use Rattle.answers.specs.declared.UnsoundBucket.{UnsoundBucket}

module _ (L : Layout) where
  -- the entries of n buckets from s
  unfoldable pub entries_in : ℕ → ℕ → ℕ → List ℕ → List ℕ
  entries_in B zero s img = []
  entries_in B (suc n) s img = map (fingerprint L s) (members_in L B s img) ++ entries_in B n (suc s) img

  -- the run from s that ends before `end` and fits `room` goes up to `next`, and its buckets were read
  pub record Ran (B s end room : ℕ) (img : List ℕ) (next : ℕ) : Type 0 where
    pub image : Whole B img
    pub from : s ≤ next
    pub upto : next ≤ end
    pub sound : (f : ℕ) → s ≤ f → f < next → MembersRead L B f img
    pub fits : length (entries_in B (next - s) s img) ≤ room
    pub runs : run_from L B (end - s) s room img ≡ accepted (record { entries = entries_in B (next - s) s img; next = next })

  -- what measuring it says
  abbrev pub EndSays : ℕ → ℕ → ℕ → ℕ → List ℕ → S.Result ℕ UnsoundBucket → Type 0
  EndSays B s end room img (S.Ok next) = Ran B s end room img next
  EndSays B s end room img (S.Err i) = run_from L B (end - s) s room img ≡ refused 3 i.0
