-- `search::find::largest_front` meets its contract: where all slots are in use, the last slot's mini-bucket is 36 less the word's leading ones.
use mathlib.Core.Path.{◌≡◌, refl, ◌∙◌, sym}
use Prim.Native.Nat.{◌+◌, ◌-◌, ℕ}
use mathlib.Core.Bool.{false}
use native.Mathlib.Omega.{arith}
use lib.ListN.{get_or}
use lib.Count.{count_leading_zeros}
use Rattle.multiset.specs.Digits.{highs}
use Rattle.crumbmap.specs.Layouts.{layout1, tags}
use Rattle.buckets.specs.Buckets.{front_list}
use Rattle.multiset.proofs.DigitLaws.{length-highs}
use Rattle.multiset.proofs.SlotLaws.{largest-at}
use Rattle.buckets.proofs.ElementLaws.{below-bytes}
use Rattle.buckets.proofs.TopLaws.{last-leading}
use Rattle.buckets.proofs.BucketLaws.{fits1}
use Rattle.minifilter.proofs.HeldLaws.{Held, held, held-key}
use Rattle.search.proofs.find.largest_front.Goals.{After-word_of}
use Rattle.search.proofs.find.largest_front.Goals as goal

-- a front bucket's last slot
abbrev last : ℕ
last = layout1.front_slots - 1

-- the bucket that was read
known : (c : After-word_of) → Held layout1 false c.args.b.now (front_list layout1 c.args.b.now)
known c = let b = c.args.b.now in held layout1 fits1 false b (below-bytes b c.shared_slice_known-1.given) c.requires.0

last-mini : (c : After-word_of)
    → count_leading_zeros 64 (18446744073709551615 - c.word_of.result) + get_or (highs (tags layout1) (front_list layout1 c.args.b.now)) last 0 ≡ layout1.minis
last-mini c =
    let read = c.word_of in
    let xs = front_list layout1 c.args.b.now in
    last-leading 64 layout1.minis last (18446744073709551615 - read.result) (known c).coded (length-highs (tags layout1) xs ∙ c.requires.1)
    refl (omega (arith, read.ensures, read.type_inv))

pub overflow_sub-result : goal.overflow_sub-result
overflow_sub-result c = omega (arith, last-mini c)

pub returns : goal.returns
returns c =
    let b = c.args.b.now in
    let xs = front_list layout1 b in
    let mini : layout1.minis - count_leading_zeros 64 (18446744073709551615 - c.word_of.result) ≡ get_or (highs (tags layout1) xs) last 0 = omega (arith, last-mini (goal.at.returns c).After-word_of) in
    rw (mini, c.tag_of.ensures.0) (held-key layout1 false b xs (known (goal.at.returns c).After-word_of) last (omega arith) ∙ sym (largest-at xs last c.requires.1))
