-- An ask at a front bucket whose two backyard buckets coincide (C-17): "an ask that would read this bucket a second time no longer does: it counts at
-- most 2"; and as none of its members carries choice 0, its place is never first.
use Rattle.std.specs.Prelude.{◌≡◌, ℕ, ◌≤◌}
use Rattle.machine.specs.Machine.{Asked, first}

pub record AskedOnce (a : Asked) : Type 0 where
  pub few : a.reads ≤ 2
  pub not_first : (i : ℕ) → a.place ≡ first i → ⊥
