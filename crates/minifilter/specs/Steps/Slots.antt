-- Every slot of a bucket at any layout, in use or not, as the reader goes over them. `crumbs` is true of a backyard bucket. The zeros of a word
-- past its members read as one more mini-bucket, so "members ascend" and "unused bytes and halves are 0" are one statement: the slots ascend,
-- and none is above that mini-bucket, tag 0, crumb 0.
use Rattle.std.specs.Prelude.{◌≡◌, ℕ, ◌+◌, ◌*◌, ◌-◌, ◌/◌, ◌%◌, ◌^◌, ◌≤◌, Bool, true, false, ◌&&◌, List, [], ◌∷◌, ◌++◌, length, take, drop, get_or, replicate, eqb}
use Rattle.std.specs.Prelude as S
use Rattle.std.proofs.Math.Option.{Option, some, bind}
use Rattle.std.specs.Int.Count.{ones}
use Rattle.multiset.specs.Multisets.{ascending, all_zero, below}
use Rattle.multiset.specs.Digits.{value, joined}
use Rattle.crumbmap.specs.Layouts.{Layout, tags, keys, word_bytes}
use Rattle.borders.specs.Steps.Borders.{borders_in}
use Rattle.buckets.specs.Words.{minis_in}
use Rattle.buckets.specs.Buckets.{given, slot_keys, word_in, tags_in, crumbs_in}

-- ---- a bucket of either kind

-- the slots of a backyard bucket, which have crumbs, and of a front bucket
abbrev pub slots_of : Layout → Bool → ℕ
slots_of L true = L.back_slots
slots_of L false = L.front_slots

-- the crumbs of a backyard bucket's slots; a front bucket has none
abbrev pub slot_crumbs : Layout → Bool → List ℕ → List ℕ
slot_crumbs L true b = crumbs_in L b
slot_crumbs L false b = []

-- a slot as one number: its key, in a backyard bucket key × 16 + crumb
abbrev pub member_of : Bool → ℕ → ℕ → ℕ
member_of true x c = x * 16 + c
member_of false x c = x

-- the same of all slots
abbrev pub with_crumbs : Bool → List ℕ → List ℕ → List ℕ
with_crumbs true xs cs = joined 16 xs cs
with_crumbs false xs cs = xs

-- how many members of one mini-bucket differ
abbrev pub span_of : Layout → Bool → ℕ
span_of L true = tags L * 16
span_of L false = tags L

-- one mini-bucket past the last, tag 0, crumb 0: above every member
abbrev pub end_of : Layout → Bool → ℕ
end_of L true = keys L * 16
end_of L false = keys L

-- ---- its slots

module _ (L : Layout) (crumbs : Bool) where
  -- the bytes of the word, its bits, and how many of them are 0 where as many are 1 as there are mini-buckets
  abbrev pub head_of : ℕ
  head_of = word_bytes L (slots_of L crumbs)

  abbrev pub bits_of : ℕ
  bits_of = 8 * head_of

  abbrev pub zeros_of : ℕ
  zeros_of = bits_of - L.minis

  -- the word, the tags of all slots, and that of one
  abbrev pub word_of : List ℕ → ℕ
  word_of b = word_in L (slots_of L crumbs) b

  abbrev pub tags_of : List ℕ → List ℕ
  tags_of b = tags_in L (slots_of L crumbs) b

  abbrev pub tag_at : List ℕ → ℕ → ℕ
  tag_at b slot = value 256 (take L.tag_bytes (drop (head_of + slot * L.tag_bytes) b))

  -- each member's mini-bucket, and those of all zeros of the word
  abbrev pub minis_of : ℕ → List ℕ
  minis_of w = minis_in bits_of L.minis w

  unfoldable pub slot_minis : ℕ → List ℕ
  slot_minis w = minis_of w ++ replicate (zeros_of - length (minis_of w)) L.minis

  -- what the slots hold
  unfoldable pub slot_members : ℕ → List ℕ → List ℕ
  slot_members w b = with_crumbs crumbs (joined (tags L) (slot_minis w) (tags_of b)) (slot_crumbs L crumbs b)

  -- the slots ascend, none above the end
  unfoldable pub in_order : ℕ → List ℕ → Bool
  in_order w b = ascending (slot_members w b ++ (end_of L crumbs ∷ []))

  -- a bucket's members as word and slots have them: sound but for what stands behind the last slot's crumb and the validity of crumbs
  unfoldable pub slot_list : List ℕ → Option (List ℕ)
  slot_list b =
      let cs : List ℕ = slot_crumbs L crumbs b in
      bind (slot_keys L (slots_of L crumbs) b) (λ xs.
      let ys : List ℕ = with_crumbs crumbs xs cs in
      given (ascending ys && all_zero (drop (length xs) (take (slots_of L crumbs) cs))) (some ys))

-- a word with as many ones as there are mini-buckets, over slots that are in order
pub record Ordered (L : Layout) (crumbs : Bool) (w : ℕ) (b : List ℕ) : Type 0 where
  pub full : ones w ≡ L.minis
  pub order : in_order L crumbs w b ≡ true

-- the same of a backyard bucket whose slots hold its members, with nothing behind the last slot's crumb
pub record BackOrdered (L : Layout) (w : ℕ) (b : List ℕ) : Type 0 where
  pub slots : Ordered L true w b
  pub room : length (minis_of L true w) ≤ L.back_slots
  pub unused : all_zero (drop L.back_slots (crumbs_in L b)) ≡ true

-- what the quick test says of a bucket of either kind
abbrev pub Passed : Layout → Bool → ℕ → List ℕ → Type 0
Passed L true w b = BackOrdered L w b
Passed L false w b = Ordered L false w b

-- layout 1: the borders of a word with 28 zeros, the last place's among them
pub record Bordered1 (w bits : ℕ) : Type 0 where
  pub borders : bits ≡ borders_in 63 w
  pub leads : bits / 2 ^ (27 + w / 2 ^ 63) ≡ 1

-- the crumb of one slot
abbrev pub crumb_at : Layout → List ℕ → ℕ → ℕ
crumb_at L b slot = get_or (crumbs_in L b) slot 0

-- what the bytes hold of one slot: its tag, in a backyard bucket tag × 16 + crumb
abbrev pub low_at : Layout → Bool → List ℕ → ℕ → ℕ
low_at L true b slot = tag_at L true b slot * 16 + crumb_at L b slot
low_at L false b slot = tag_at L false b slot

-- ---- what the reader says of them

-- what the pass over the slots says: how many are below x, where they are in order
abbrev pub order_of : Bool → ℕ → List ℕ → S.Option ℕ
order_of true x ks = S.Some (below x ks)
order_of false x ks = S.None

-- every crumb has its bit in `marks`
unfoldable pub marked : ℕ → List ℕ → Bool
marked marks [] = true
marked marks (c ∷ cs) = eqb (marks / 2 ^ c % 2) 1 && marked marks cs
