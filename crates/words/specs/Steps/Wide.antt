-- Layout 1's word: 8 bytes in a bucket of either kind, so that it is one u64; and a slot and the first bit of a mini-bucket in it.
use Rattle.std.specs.Prelude.{◌≡◌, ℕ, suc, ◌-◌, ◌≤◌, ◌<◌}
use Rattle.std.specs.Int.Count.{ones}
use Rattle.multiset.specs.Multisets.{below}
use Rattle.crumbmap.specs.Layouts.{layout1, word_bytes}
use Rattle.buckets.specs.Words.{minis_in}
use Rattle.words.specs.Select.{select_in}

-- "bytes 0 to 7: a little-endian word"
abbrev pub word_bytes1 : ℕ
word_bytes1 = word_bytes layout1 layout1.front_slots

-- slot is one of mini-bucket `mini`'s, or the one past them
pub record SlotOf1 (w mini slot : ℕ) : Type 0 where
  pub full : ones w ≡ layout1.minis
  pub within : mini < layout1.minis
  pub from : below mini (minis_in 64 layout1.minis w) ≤ slot
  pub past : slot ≤ below (suc mini) (minis_in 64 layout1.minis w)

-- end is the place of the one that ends the mini-bucket before `mini`, of mini-bucket 0's own where there is none before it
pub record EndBefore1 (w mini end : ℕ) : Type 0 where
  pub full : ones w ≡ layout1.minis
  pub within : mini < layout1.minis
  pub place : end ≡ select_in 64 w (mini - 1)
