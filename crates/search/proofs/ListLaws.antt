-- The members of a sound bucket one by one, at any layout: the zeros of its word in turn, and its keys, all of them and those that carry a crumb.
-- Main results: `turn`, `listed-yes`, `listed-no`, `carrying-first`, `without-gaps`. The last section is of layout 1.
use mathlib.Core.Path.{◌≡◌, refl, sym, ap, ◌∙◌}
use Prim.Native.Nat.{ℕ, zero, suc, ◌+◌, ◌*◌, ◌/◌, ◌%◌, ◌-◌, ◌^◌, ◌≤◌, ◌<◌}
use mathlib.Core.Bool.{Bool, true, false}
use mathlib.Core.List.{List, [], ◌∷◌, ◌++◌, append-nil}
use native.Mathlib.Nat.{le_antisymm}
use native.Mathlib.Numerals.{add-one}
use native.Mathlib.Decide.{dec_le}
use native.Mathlib.Omega.{arith}
use lib.ListN.{length, take, drop, set, get_or, length-append}
use lib.Seq.{take-suc}
use lib.Count.{count_trailing_zeros, ones}
use lib.Bits.{bit_and}
use lib.Dec.{T}
use borrow.Author.Tests.{eq-eqb, ne_eqb, eqb-true, eqb-false}
use Rattle.std.specs.Prelude as S
use Rattle.multiset.specs.Multisets.{ascending, below}
use Rattle.multiset.specs.Digits.{value, highs}
use Rattle.crumbmap.specs.Layouts.{Layout, layout1, tags}
use Rattle.buckets.specs.Buckets.{carrying}
use Rattle.buckets.specs.Words.{minis_in}
use Rattle.words.specs.Steps.Wide.{word_bytes1}
use Rattle.search.specs.Steps.Searches.{first_of, wanted_at, chosen, without}
use Rattle.minifilter.specs.Steps.Slots.{bits_of, minis_of, slot_minis, crumb_at, tag_at, span_of}
use Rattle.multiset.proofs.SlotLaws.{slot-holds, holds-from, holds-copy}
use Rattle.buckets.proofs.WordLaws.{coded-minis_in}
use Rattle.buckets.proofs.GapLaws.{gaps}
use Rattle.buckets.proofs.PieceLaws.{store}
use Rattle.buckets.proofs.CarryLaws.{carrying-append}
use Rattle.minifilter.proofs.PassLaws.{slot_minis-used, zero-at, gaps1, tag1}
use Rattle.minifilter.proofs.HeldLaws.{Held, member_key, held-crumb, held-minis1, held-key}

-- ---- the zeros from a slot in use on

-- the lowest stands over its member's mini-bucket, the others are those from the next slot on
pub record Turn (bits : ℕ) (used all : List ℕ) (slot zeros : ℕ) : Type 0 where
  pub place : count_trailing_zeros bits zeros ≡ get_or used slot 0 + slot
  pub some : 0 < zeros
  pub next : bit_and zeros (zeros - 1) ≡ gaps (slot + 1) (drop (slot + 1) all)

pub turn : (L : Layout) (crumbs : Bool) (w : ℕ) → w < 2 ^ bits_of L crumbs → ones w ≡ L.minis → (slot zeros : ℕ) → slot < length (minis_of L crumbs w)
    → zeros ≡ gaps slot (drop slot (slot_minis L crumbs w)) → Turn (bits_of L crumbs) (minis_of L crumbs w) (slot_minis L crumbs w) slot zeros
turn L crumbs w small full slot zeros l e =
    let z = zero-at L crumbs w small full slot zeros (omega (arith, (coded-minis_in (bits_of L crumbs) L.minis w small full).1)) e in
    record {
      place = z.place ∙ ap (λ (m : ℕ). m + slot) (slot_minis-used L crumbs w small full slot l);
      some = z.some;
      next = rw (add-one slot) z.next;
    }

-- ---- the keys asked for

chosen_on : (crumbs : Bool) (c slot : ℕ) (ys : List ℕ) → slot < length ys
    → chosen crumbs c (take (suc slot) ys) ≡ chosen crumbs c (take slot ys) ++ chosen crumbs c (get_or ys slot 0 ∷ [])
chosen_on false c slot ys h = take-suc ys slot 0 h
chosen_on true c slot ys h = ap (carrying c) (take-suc ys slot 0 h) ∙ carrying-append c (take slot ys) (get_or ys slot 0 ∷ [])

chosen-one : (L : Layout) (crumbs : Bool) (c : ℕ) (b ys : List ℕ) → Held L crumbs b ys → (i : ℕ) → i < length ys → wanted_at L crumbs c b i ≡ true
    → chosen crumbs c (get_or ys i 0 ∷ []) ≡ member_key crumbs (get_or ys i 0) ∷ []
unfolding carrying
chosen-one L false c b ys h i l e = refl
chosen-one L true c b ys h i l e = rw (eq-eqb (get_or ys i 0 % 16) c (sym (held-crumb L b ys h i l) ∙ eqb-true (crumb_at L b i) c e))

chosen_none : (L : Layout) (crumbs : Bool) (c : ℕ) (b ys : List ℕ) → Held L crumbs b ys → (i : ℕ) → i < length ys → wanted_at L crumbs c b i ≡ false
    → chosen crumbs c (get_or ys i 0 ∷ []) ≡ []
unfolding carrying
chosen_none L false c b ys h i l e = let z : ◌≡◌ {A = ℕ} 0 1 = cc in absurd (omega arith)
chosen_none L true c b ys h i l e =
    rw (ne_eqb (get_or ys i 0 % 16) c (λ p. eqb-false (crumb_at L b i) c e (held-crumb L b ys h i l ∙ p)))

pub carrying-none : (c : ℕ) (ys : List ℕ) → ((i : ℕ) → i < length ys → get_or ys i 0 % 16 ≡ c → ⊥) → carrying c ys ≡ []
unfolding carrying
carrying-none c [] h = refl
carrying-none c (y ∷ ys) h = rw (ne_eqb (y % 16) c (h 0 (omega arith))) (carrying-none c ys (λ i l. h (suc i) (omega arith)))

-- the first that does leads them
carrying-head : (c r : ℕ) (all ys : List ℕ) → r < length ys → ((i : ℕ) → i < r → get_or ys i 0 % 16 ≡ c → ⊥) → get_or ys r 0 % 16 ≡ c
    → first_of c all (carrying c ys) ≡ S.Some (record { key = get_or ys r 0 / 16; slot = below (get_or ys r 0 / 16 * 16 + c) all })
unfolding carrying
carrying-head c r all [] l h e = absurd (omega arith)
carrying-head c zero all (y ∷ ys) l h e = rw (eq-eqb (y % 16) c e)
carrying-head c (suc r) all (y ∷ ys) l h e =
    rw (ne_eqb (y % 16) c (h 0 (omega arith))) (carrying-head c r all ys (omega arith) (λ i k. h (suc i) (omega arith)) e)

module _ (c r : ℕ) (ys : List ℕ) (a : T (ascending ys)) (l : r < length ys) (h : (i : ℕ) → i < r → get_or ys i 0 % 16 ≡ c → ⊥)
    (e : get_or ys r 0 % 16 ≡ c) where
  -- and those before it are below it: the lowest slot that holds its equal is its own
  first_below : below (get_or ys r 0) ys ≡ r
  first_below =
      let y : ℕ = get_or ys r 0 in
      elim (dec_le r (below y ys)) [
        | yes g ↦ le_antisymm (holds-from y r ys a l refl) g
        | no n ↦ absurd (h (below y ys) (omega arith) (ap (λ (x : ℕ). x % 16) (slot-holds y ys a (holds-copy y r ys a l refl)) ∙ e))
      ]

  pub carrying-first : first_of c ys (carrying c ys) ≡ S.Some (record { key = get_or ys r 0 / 16; slot = r })
  carrying-first =
      let y : ℕ = get_or ys r 0 in
      let same : y / 16 * 16 + c ≡ y = omega arith in
      carrying-head c r ys ys l h e ∙ rw (same, first_below)

-- ---- a turn of the loop over the slots in use

-- what a turn leaves: the keys of the slots passed, in front of what stood there
pub record Listed (crumbs : Bool) (c slot n : ℕ) (ys out before : List ℕ) : Type 0 where
  pub many : n ≡ length (chosen crumbs c (take slot ys))
  pub keys : out ≡ chosen crumbs c (take slot ys) ++ drop n before

pub listed_start : (crumbs : Bool) (c : ℕ) (ys out : List ℕ) → Listed crumbs c 0 0 ys out out
unfolding carrying
listed_start false c ys out = record { many = refl; keys = refl }
listed_start true c ys out = record { many = refl; keys = refl }

module _ (L : Layout) (crumbs : Bool) (c : ℕ) (b ys : List ℕ) (h : Held L crumbs b ys) (slot n : ℕ) (out before : List ℕ) (l : slot < length ys)
    (s : Listed crumbs c slot n ys out before) where
  pub listed-no : (test : Bool) → test ≡ wanted_at L crumbs c b slot → test ≡ false → Listed crumbs c (slot + 1) n ys out before
  listed-no test is e =
      let same : chosen crumbs c (take (slot + 1) ys) ≡ chosen crumbs c (take slot ys) =
      rw (add-one slot) (chosen_on crumbs c slot ys l
      ∙ ap (λ (k : List ℕ). chosen crumbs c (take slot ys) ++ k) (chosen_none L crumbs c b ys h slot l (sym is ∙ e))
      ∙ append-nil (chosen crumbs c (take slot ys))) in
      record { many = rw same s.many; keys = rw same s.keys }

  pub listed-yes : (test : Bool) → test ≡ wanted_at L crumbs c b slot → test ≡ true → (key : ℕ) → key ≡ member_key crumbs (get_or ys slot 0)
      → n < length before → Listed crumbs c (slot + 1) (n + 1) ys (set out n key) before
  listed-yes test is e key q room =
      let ws : List ℕ = chosen crumbs c (take slot ys) in
      let more : chosen crumbs c (take (slot + 1) ys) ≡ ws ++ (key ∷ []) =
      rw (add-one slot, q) (chosen_on crumbs c slot ys l ∙ ap (λ (k : List ℕ). ws ++ k) (chosen-one L crumbs c b ys h slot l (sym is ∙ e))) in
      record {
        many = rw (more, length-append ws (key ∷ [])) (ap (λ (k : ℕ). k + 1) s.many);
        keys = rw more (ap (λ (o : List ℕ). set o n key) s.keys ∙ store ws before n key (sym s.many) room);
      }

-- ---- layout 1: a word is one u64 in either kind of bucket

pub turn1 : (crumbs : Bool) (w : ℕ) → w < 2 ^ 64 → ones w ≡ layout1.minis → (slot zeros : ℕ) → slot < length (minis_in 64 layout1.minis w)
    → zeros ≡ gaps slot (drop slot (slot_minis layout1 crumbs w)) → Turn 64 (minis_in 64 layout1.minis w) (slot_minis layout1 crumbs w) slot zeros
turn1 true w small full slot zeros l e = turn layout1 true w small full slot zeros l e
turn1 false w small full slot zeros l e = turn layout1 false w small full slot zeros l e

-- the key of a slot in use, by the lowest of its zeros
pub key1 : (crumbs : Bool) (b ys : List ℕ) (w slot zeros : ℕ) → w ≡ value 256 (take word_bytes1 b) → Held layout1 crumbs b ys
    → Turn 64 (minis_in 64 layout1.minis w) (slot_minis layout1 crumbs w) slot zeros → slot < length ys
    → (count_trailing_zeros 64 zeros - slot) * tags layout1 + tag_at layout1 false b slot ≡ member_key crumbs (get_or ys slot 0)
key1 crumbs b ys w slot zeros e h t l =
    let same = ap (λ (ms : List ℕ). get_or ms slot 0) (held-minis1 b ys w e crumbs h) in
    let mini : count_trailing_zeros 64 zeros - slot ≡ get_or (highs (span_of layout1 crumbs) ys) slot 0 = omega (arith, t.place, same) in
    rw (mini, ← tag1 crumbs b slot) (held-key layout1 crumbs b ys h slot l)

-- the zeros of a word without the lowest are those from a slot on
pub without-gaps : (crumbs : Bool) (w : ℕ) → w < 2 ^ 64 → ones w ≡ layout1.minis → (slot : ℕ) → slot ≤ length (minis_in 64 layout1.minis w)
    → without slot (2 ^ 64 - 1 - w) ≡ gaps slot (drop slot (slot_minis layout1 crumbs w))
unfolding without
without-gaps crumbs w small full zero l = omega (arith, gaps1 w small full crumbs)
without-gaps crumbs w small full (suc slot) l =
    let before = without-gaps crumbs w small full slot (omega arith) in
    rw (← add-one slot) (turn1 crumbs w small full slot (without slot (2 ^ 64 - 1 - w)) (omega arith) before).next
