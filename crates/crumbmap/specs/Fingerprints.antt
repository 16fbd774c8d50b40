-- The fingerprint of a 64-bit hash k. A member of a bucket is one number, its key m × tags + r; the fingerprint is f × keys + key.
use Rattle.std.specs.Prelude.{ℕ, ◌+◌, ◌*◌, ◌/◌, ◌%◌, ◌^◌}
use Rattle.crumbmap.specs.Layouts.{Layout, tags, keys, fronts}

-- "front bucket f = floor(k / 2^32) × F / 2^32, rounded down"
unfoldable pub front_of : ℕ → ℕ → ℕ
front_of B k = k / 2 ^ 32 * fronts B / 2 ^ 32

module _ (L : Layout) where
  -- "tag r = k mod 65,536"
  unfoldable pub tag_of : ℕ → ℕ
  tag_of k = k % tags L

  -- "mini-bucket m = (floor(k / 65,536) mod 65,536) × 36 / 65,536, rounded down"
  unfoldable pub mini_of : ℕ → ℕ
  mini_of k = k / 65536 % 65536 * L.minis / 65536

  -- m and r as one number: keys are in the order of (m, r)
  unfoldable pub key_of : ℕ → ℕ
  key_of k = mini_of k * tags L + tag_of k

  -- "g = (36 × f + m) × 65,536 + r", by front bucket and key
  unfoldable pub fingerprint : ℕ → ℕ → ℕ
  fingerprint f x = f * keys L + x
