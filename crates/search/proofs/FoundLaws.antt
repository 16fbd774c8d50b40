-- What a search's answer says of the members that it was made in.
use mathlib.Core.Path.{◌≡◌, refl, sym, ◌∙◌}
use Prim.Native.Nat.{ℕ, ◌≤◌, ◌<◌}
use mathlib.Core.List.{List}
use mathlib.Core.Option.{Option, none, some}
use mathlib.Core.Logic.{⊎_elim}
use native.Mathlib.Nat.{eq-zero-or-pos}
use native.Mathlib.Omega.{arith}
use lib.ListN.{length}
use lib.Dec.{T}
use Rattle.std.specs.Prelude as S
use Rattle.multiset.specs.Multisets as M
use Rattle.multiset.specs.Multisets.{ascending, below, copies, found_in}
use Rattle.multiset.proofs.RankLaws.{absent-copies, found-copies, found_none, found_some}
use Rattle.multiset.proofs.SlotLaws.{slot-inside}
use Rattle.search.specs.Steps.Searches.{search_of, many_in, slot_else}
use Rattle.search.specs.declared.Found.{Found}

pub search-some : (o : Option M.Found) {r : S.Option Found} {f : Found} → r ≡ search_of o → r ≡ S.Some f → o ≡ some (record { slot = f.slot; copies = f.copies })
search-some none e h = let q = sym e ∙ h in let z : ◌≡◌ {A = ℕ} 0 1 = cc in absurd (omega arith)
search-some (some s) {f = f} e h =
    let q = sym e ∙ h in
    let a : record { slot = s.slot; copies = s.copies } ≡ f = cc in
    rw (← a)

pub search-none : (o : Option M.Found) {r : S.Option Found} → r ≡ search_of o → r ≡ S.None → o ≡ none
search-none none e h = refl
search-none (some s) e h = let q = sym e ∙ h in let z : ◌≡◌ {A = ℕ} 0 1 = cc in absurd (omega arith)

module _ (x : ℕ) (ys : List ℕ) (order : T (ascending ys)) {r : S.Option Found} (said : r ≡ search_of (found_in x ys)) where
  pub search-absent : r ≡ S.None → copies x ys ≡ 0
  search-absent e = absent-copies x ys order (search-none (found_in x ys) said e)

  -- a copy stands at the slot that has all smaller members before it
  pub search-at : {f : Found} → r ≡ S.Some f → (f.slot ≡ below x ys) × (f.copies ≡ copies x ys) × (0 < copies x ys)
  search-at e = found-copies x ys _ order (search-some (found_in x ys) said e)

  pub search-many : {m : ℕ} → m ≡ many_in r → m ≡ copies x ys
  search-many e = e ∙ go r refl
    where
      go : (t : S.Option Found) → r ≡ t → many_in t ≡ copies x ys
      go S.None h = sym (search-absent h)
      go (S.Some f) h = (search-at h).1

-- the slot alone, n where no copy stands, for a list of at most n members
module _ (n x : ℕ) (ys : List ℕ) (order : T (ascending ys)) (room : length ys ≤ n) {r : ℕ} (said : r ≡ slot_else n (found_in x ys)) where
  there-at : 0 < copies x ys → r ≡ below x ys
  there-at p = said ∙ rw (found_some x ys order p)

  pub slot-none : r ≡ n → found_in x ys ≡ none
  slot-none e = ⊎_elim (λ z. found_none x ys z) (λ p. absurd (omega (arith, there-at p, slot-inside x ys order p))) (eq-zero-or-pos (copies x ys))

  pub slot-some : (r ≡ n → ⊥) → (r ≡ below x ys) × (0 < copies x ys)
  slot-some e = ⊎_elim (λ z. absurd (e (said ∙ rw (found_none x ys z)))) (λ p. (there-at p, p)) (eq-zero-or-pos (copies x ys))
