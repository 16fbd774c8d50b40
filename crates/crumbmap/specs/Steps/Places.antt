-- The map as the code's answers give it.
use Rattle.std.specs.Prelude.{◌≡◌, ℕ, ◌+◌, ◌*◌, ◌/◌, ◌%◌, ◌<◌, ◌≤◌, Bool, true, false}
use Rattle.std.proofs.Math.Option.{some}
use Rattle.crumbmap.specs.Layouts.{backyards}
use Rattle.crumbmap.specs.CrumbMap.{stride, bucket_of, crumb_of, home}
use Rattle.crumbmap.specs.declared.Overflow.{Overflow}
use Rattle.crumbmap.specs.declared.Ways.{Ways}
use Rattle.crumbmap.specs.declared.Split.{Split}
use Rattle.crumbmap.specs.declared.Strides.{Strides}

-- the backyard bucket and the crumb of a choice for front bucket f, both in range
pub record Leads (t : Bool) (B f : ℕ) (r : Overflow) : Type 0 where
  pub bucket : r.bucket.0 ≡ bucket_of t B f
  pub crumb : r.crumb ≡ crumb_of t f
  pub inside : r.bucket.0 < backyards B
  pub small : r.crumb < 16

-- both choices
pub record LeadsBoth (B f : ℕ) (r : Ways) : Type 0 where
  pub first : Leads true B f r.first
  pub second : Leads false B f r.second

-- choice and digit of a crumb, "8 × choice + digit"
pub record Splits (c : ℕ) (r : Split) : Type 0 where
  pub value : 8 * r.0 + r.1 ≡ c
  pub choice : r.0 < 2
  pub digit : r.1 < 8

-- "e = floor(j / K), t = j mod K", in range
pub record Strided (B j : ℕ) (r : Strides) : Type 0 where
  pub whole : r.whole ≡ j / stride B
  pub rest : r.rest ≡ j % stride B
  pub few : r.whole ≤ j
  pub short : 8 * r.rest ≤ B

-- crumb c is valid in backyard bucket j
abbrev pub Homed : ℕ → ℕ → ℕ → Type 0
Homed B j c = (f : ℕ) × (home B j c ≡ some f)
