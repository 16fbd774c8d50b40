-- What the copies that an ask tells say of all copies of its fingerprint (C-13): they are those "in the one bag where the ask ended".
use Rattle.std.specs.Prelude.{◌≡◌, ◌↔◌, ◌⊎◌, ℕ, ◌+◌, ◌<◌, ◌≤◌, List, length}
use Rattle.multiset.specs.Multisets.{largest}
use Rattle.crumbmap.specs.Layouts.{Layout}

-- front bucket xs has a slot left, or its largest exceeds key x: no copy of x stands behind it
abbrev pub Short : Layout → List ℕ → ℕ → Type 0
Short L xs x = (length xs < L.front_slots) ⊎ ((length xs ≡ L.front_slots) × (x < largest xs))

-- c copies were told of key x, which stands n times in front bucket xs and behind it, as m smaller ones do; `absent` is that its place is none
pub record Told (L : Layout) (xs : List ℕ) (x m n c : ℕ) (absent : Type 0) : Type 0 where
  -- "0 for none", and for none alone
  pub none : (c ≡ 0) ↔ absent
  pub most : c ≤ n
  pub all : absent ⊎ Short L xs x → c ≡ n
  -- the same by the members alone: no more than the front slots are up to x
  pub few : m + n ≤ L.front_slots → c ≡ n
