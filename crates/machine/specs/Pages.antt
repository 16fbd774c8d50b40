-- Page: "writes the members of the longest run of whole buckets s, s + 1, .. that fits, ascending; gives how many and the next bucket".
use Rattle.std.specs.Prelude.{ℕ, zero, suc, ◌-◌, cond, ◌&&◌, List, [], ◌++◌, map, length, leb, ltb, eqb}
use Rattle.crumbmap.specs.Layouts.{Layout, fronts}
use Rattle.crumbmap.specs.Fingerprints.{fingerprint}
use Rattle.machine.specs.Results.{Result, accepted, refused, and_then}
use Rattle.machine.specs.Machine.{members_at}

-- the fingerprints of a run of whole buckets, and "the next bucket"
pub record Run : Type 0 where
  pub entries : List ℕ
  pub next : ℕ

-- nothing, and s is next
abbrev pub stopped : ℕ → Result Run
stopped s = accepted (record { entries = []; next = s })

-- the run with one bucket's entries before it
abbrev pub prepended : List ℕ → Result Run → Result Run
prepended gs r = and_then r λ s. accepted (record { entries = gs ++ s.entries; next = s.next })

module _ (L : Layout) where
  -- the longest run of whole buckets from s, of n that are left, whose members fit into `room`;
  -- "page examines front buckets .. until one does not fit; an unsound one among all these gives 3"
  unfoldable pub run_from : ℕ → ℕ → ℕ → ℕ → List ℕ → Result Run
  run_from B zero s room img = stopped s
  run_from B (suc n) s room img =
      and_then (members_at L B s img) λ xs.
      let r : Result Run = run_from B n (suc s) (room - length xs) img in
      cond (leb (length xs) room) (prepended (map (fingerprint L s) xs) r) (stopped s)

  -- "page from s > F": 6; "bucket s does not fit": 7; "from s = F: none, next F"
  unfoldable pub page_from : ℕ → ℕ → ℕ → List ℕ → Result Run
  page_from B s room img =
      cond (ltb (fronts B) s) (refused 6 0)
      (and_then (run_from B (fronts B - s) s room img) λ r.
      cond (eqb r.next s && ltb s (fronts B)) (refused 7 0) (accepted r))
