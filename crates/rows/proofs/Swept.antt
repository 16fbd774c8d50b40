-- What a sweep's loop keeps, of lists alone: the entries before i are done, and the rest are as they were, each ready in its turn.
-- And what three sweeps one after the other come to.
use mathlib.Core.Path.{◌≡◌, refl, sym, ◌∙◌, ap, subst}
use Prim.Native.Nat.{ℕ, suc, ◌+◌, ◌^◌, ◌<◌, ◌≤◌}
use native.Mathlib.Numerals.{add-one}
use native.Mathlib.Omega.{arith}
use mathlib.Core.Bool.{Bool, true, false, cond}
use mathlib.Core.List.{List, ◌∷◌, ◌++◌, append_assoc, append-nil}
use lib.ListN.{length, take, drop, get_or, set, length-set}
use lib.Dec.{eqb}
use lib.Seq.{drop-cons, drop-set-lt, take-suc-set, drop-length, take-length}
use Rattle.std.specs.Prelude as S
use Rattle.multiset.specs.Multisets.{Below}
use Rattle.crumbmap.specs.Layouts.{Layout, known}
use Rattle.buckets.specs.Buckets.{Fits64}
use Rattle.machine.specs.Results.{Result, accepted, refused}
use Rattle.machine.specs.Machine.{Asked}
use Rattle.machine.specs.Calls.{ask_of}
use Rattle.form.specs.Tails.{body}
use Rattle.answers.specs.Rows.{hashes, rowed_of, Rows}
use Rattle.answers.specs.declared.Entry.{Entry}
use Rattle.answers.specs.declared.Refusal.{Refusal}
use Rattle.grouping.specs.Steps.Grouping.{fetched, tested, told_by, turned, Ready, begun, resumed, result_of}
use Rattle.grouping.specs.declared.State.{State}
use Rattle.grouping.specs.declared.Turned.{Turned}
use Rattle.rows.specs.Steps.Sweeps.{state_from, row_from, ReadyFrom, state_after, row_after, AllReady}
use Rattle.rows.proofs.FormRowLaws.{Only}
use Rattle.rows.proofs.SweepLaws.{first-ready, second-ready, third-ready, all-swept}

-- an entry of noughts, for `get_or` past the end
abbrev pub blank : Entry
blank = record { hash = 0; reads = 0; place = 0; slot = 0; copies = 0 }

abbrev turn : State → Entry → Turned
turn s e = record { state = s; entry = e }

-- an entry keeps its hash
pub hash_stays : (L : Layout) (img : List ℕ) (p : ℕ) (s : State) (e : Entry) → (turned L img p s e).entry.hash ≡ e.hash
unfolding turned
hash_stays L img p s e = go (eqb p 0) (eqb p 1) (eqb p 2) (ask_of L img e.hash)
  where
    go : (a b c : Bool) (r : Result Asked)
        → (cond a (turn (fetched img s e.hash) e) (cond b (turn (tested L img s e.hash) e) (cond c (turn s (told_by e r)) (turn s e)))).entry.hash
        ≡ e.hash
    go true b c r = refl
    go false true c r = refl
    go false false true (accepted a) = refl
    go false false true (refused n i) = refl
    go false false false r = refl

-- where i entries are done: the state s and the list zs still lead to the end that s₀ and ys lead to, in the phase of s₀
pub record Kept (L : Layout) (img : List ℕ) (s₀ : State) (ys : List Entry) (i : ℕ) (s : State) (zs : List Entry) : Type 0 where
  pub within : i ≤ length ys
  pub long : length zs ≡ length ys
  pub ready : ReadyFrom L img s₀.phase s (drop i zs)
  pub small : Below (2 ^ 64) (hashes (drop i zs)) → Below (2 ^ 64) (hashes ys)
  pub state : state_from L img s₀.phase s (drop i zs) ≡ state_after L img s₀ ys
  pub row : take i zs ++ row_from L img s₀.phase s (drop i zs) ≡ row_after L img s₀ ys

module _ (L : Layout) (img : List ℕ) (s₀ : State) (ys : List Entry) where
  pub begins : AllReady L img s₀ ys → Kept L img s₀ ys 0 s₀ ys
  begins all = record { within = omega arith; long = refl; ready = all; small = λ b. b; state = refl; row = refl }

  -- the entries from i on, entry i apart
  split : (i : ℕ) (s : State) (zs : List Entry) (d : Entry) → i < length ys → Kept L img s₀ ys i s zs → drop i zs ≡ get_or zs i d ∷ drop (suc i) zs
  split i s zs d h k = drop-cons zs i d (omega (arith, k.long))

  all-ready : (i : ℕ) (s : State) (zs : List Entry) (d : Entry) → i < length ys → Kept L img s₀ ys i s zs
      → ReadyFrom L img s₀.phase s (get_or zs i d ∷ drop (suc i) zs)
  all-ready i s zs d h k = subst (ReadyFrom L img s₀.phase s) (split i s zs d h k) k.ready

  -- entry i is ready
  pub ready_at : (i : ℕ) (s : State) (zs : List Entry) (d : Entry) → i < length ys → Kept L img s₀ ys i s zs
      → Ready L img s₀.phase s (get_or zs i d).hash
  ready_at i s zs d h k = (all-ready i s zs d h k).0

  -- one entry more
  pub more : (i : ℕ) (s : State) (zs : List Entry) (d : Entry) (r : Turned) → i < length ys → Kept L img s₀ ys i s zs → (get_or zs i d).hash < 2 ^ 64
      → r ≡ turned L img s₀.phase s (get_or zs i d) → Kept L img s₀ ys (i + 1) r.state (set zs i r.entry)
  more i s zs d r h k b e =
      let l : i < length zs = omega (arith, k.long) in
      let c : drop i zs ≡ get_or zs i d ∷ drop (suc i) zs = split i s zs d h k in
      let t : drop (suc i) (set zs i r.entry) ≡ drop (suc i) zs = drop-set-lt (suc i) zs i r.entry (omega arith) in
      record {
        within = omega arith;
        long = length-set zs i r.entry ∙ k.long;
        ready = rw (add-one, t, e) ((all-ready i s zs d h k).1 b);
        small = rw (add-one, t) (λ bs. k.small (rw c (b, bs)));
        state = rw (add-one, t, e) (sym (ap (λ (es : List Entry). state_from L img s₀.phase s es) c) ∙ k.state);
        row = rw (add-one, t, take-suc-set zs i r.entry l, append_assoc, e)
            (sym (ap (λ (es : List Entry). take i zs ++ row_from L img s₀.phase s es) c) ∙ k.row);
      }

  -- what a sweep that ended with the state s and the list zs has left
  abbrev pub Leaves : State → List Entry → Type 0
  Leaves s zs = (s ≡ state_after L img s₀ ys) × (zs ≡ row_after L img s₀ ys) × Below (2 ^ 64) (hashes ys)

  -- all entries are done
  pub ends : (i : ℕ) (s : State) (zs : List Entry) → length ys ≤ i → Kept L img s₀ ys i s zs → Leaves s zs
  ends i s zs h k =
      let l : i ≡ length zs = omega (arith, k.long, k.within) in
      (rw (l, drop-length) at k.state, rw (l, drop-length, take-length, append-nil) at k.row, (rw (l, drop-length) at k.small) tt)

-- ---- a row swept three times, on the body of an image: the states s₀, s₁ and s₂ before the sweeps, r₁, r₂ and r₃ after them, with the entries
-- zs₁, zs₂ and zs₃
module _ (L : Layout) (img : List ℕ) (ys : List Entry) (s₀ : State) (e₀ : s₀ ≡ begun known img) where
  -- every entry is ready at each
  pub ready-first : AllReady L (body img) s₀ ys
  ready-first = rw e₀ (first-ready L known img ys)

  module _ (r₁ s₁ : State) (zs₁ : List Entry) (l₁ : Leaves L (body img) s₀ ys r₁ zs₁) (e₁ : s₁ ≡ resumed r₁) where
    pub ready-second : Fits64 L → AllReady L (body img) s₁ zs₁
    ready-second fits = rw (e₁, l₁.0, l₁.1, e₀) (second-ready L known img fits ys)

    module _ (r₂ s₂ : State) (zs₂ : List Entry) (l₂ : Leaves L (body img) s₁ zs₁ r₂ zs₂) (e₂ : s₂ ≡ resumed r₂) where
      pub ready-third : Only L known img → AllReady L (body img) s₂ zs₂
      ready-third only = rw (e₂, l₂.0, l₂.1, e₁, l₁.0, l₁.1, e₀) (third-ready L known img only ys)

      -- what the three leave is the row of the image with its tail
      pub rowed : Only L known img → (r₃ : State) (zs₃ : List Entry) (a : S.Result ℕ Refusal) → Leaves L (body img) s₂ zs₂ r₃ zs₃ → rowed_of a ≡ result_of r₃
          → Rows img ys a zs₃
      rowed only r₃ zs₃ a l₃ e₃ =
          let t = all-swept L known img only ys in
          record {
            held = l₁.2;
            answer = rw (e₃, l₃.0, e₂, l₂.0, l₂.1, e₁, l₁.0, l₁.1, e₀) t.0;
            entries = rw (l₃.1, e₂, l₂.0, l₂.1, e₁, l₁.0, l₁.1, e₀) t.1;
          }
