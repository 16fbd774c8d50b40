-- The steps of a check, for any layout: what a pass over buckets or members still has before it, and what it has counted, turn by turn; what is known
-- once every bucket was read; what a check that counts says. Main results: `front-on`, `back_on`, `early-on`, `members-on` with their `-stop` and
-- `-end`; `counts-on`; `turn-short`, `turn-full`, `member-homed`; `all_read`; `check-refused`, `check-counted`.
use mathlib.Core.Path.{◌≡◌, refl, sym, ◌∙◌}
use Rattle.std.specs.Prelude as S
use Prim.Native.Nat.{ℕ, suc, ◌+◌, ◌/◌, ◌%◌, ◌-◌, ◌≤◌, ◌<◌}
use mathlib.Core.Bool.{Bool, true, false, not}
use mathlib.Core.List.{List}
use mathlib.Core.Option.{Option, none, some}
use native.Mathlib.Numerals.{add-one}
use native.Mathlib.Nat.{zero-add, add-mul}
use native.Mathlib.Omega.{arith}
use lib.ListN.{length, drop, get_or}
use lib.Seq.{drop-cons, drop-length}
use lib.Dec.{T, leb}
use borrow.Author.Tests.{eq-eqb, ne_eqb, not-true, not-false}
use Rattle.multiset.specs.Multisets.{largest}
use Rattle.multiset.proofs.SlotLaws.{copies_at}
use Rattle.multiset.proofs.SumLaws.{sum-last}
use Rattle.crumbmap.specs.Layouts.{Layout, fronts, backyards}
use Rattle.crumbmap.specs.CrumbMap.{home}
use Rattle.crumbmap.specs.Steps.Places.{Homed}
use Rattle.buckets.specs.Buckets.{Fits64, is_some, valid}
use Rattle.machine.specs.Results.{Result, accepted, refused, and_then}
use Rattle.machine.specs.Images.{front_at, back_at, in_front, in_back}
use Rattle.machine.specs.Machine.{occupancy}
use Rattle.machine.specs.Checks.{unsound_front, unsound_back, in_turn, home_in_turn, all_in_turn, early, check_sized}
use Rattle.machine.proofs.ChoiceLaws.{valid-member}
use Rattle.machine.proofs.CheckLaws.{fronts-read, backs-read}
use Rattle.machine.proofs.AcceptedLaws.{same_answer, never-refused, and_then-accepted}
use Rattle.form.specs.Tails.{members}
use Rattle.image.specs.Steps.ImageReads.{FrontRead, BackRead, FrontFull, Whole}
use Rattle.image.proofs.ImageReadLaws.{front-in, back_in}
use Rattle.image.proofs.PartLaws.{front_read, back_read}
use Rattle.validation.specs.Steps.Passes.{Counts, fault_of, AllRead, counted_check}

-- none is counted, and one more
module _ (read : ℕ → Result (List ℕ)) (k : ℕ) where
  pub counts-none : Counts read k 0 0
  counts-none = record { many = refl; few = omega arith }

  pub counts-on : {n m l : ℕ} {xs : List ℕ} → Counts read k n m → read n ≡ accepted xs → length xs ≡ l → length xs ≤ k → Counts read k (n + 1) (m + l)
  counts-on {n} {m} {l} c e h most =
      let one : occupancy (read (0 + n)) ≡ l = rw (zero-add n, e) h in
      record {
        many = rw (add-one n) (omega (arith, sum-last (λ (i : ℕ). occupancy (read i)) 0 n, c.many));
        few = rw (add-mul n 1 k) (omega (arith, c.few));
      }

-- what a fault says
pub fault-none : (o : Option ℕ) → S.None ≡ fault_of o → o ≡ none
fault-none none e = refl
fault-none (some i) e = cc

pub fault-some : (o : Option ℕ) {i : ℕ} → S.Some i ≡ fault_of o → o ≡ some i
fault-some none e = cc
fault-some (some j) e = cc

-- one is left, and then one less
left : (n f : ℕ) → f < n → n - f ≡ suc (n - (f + 1))
left n f h = omega arith

none_left : (n f : ℕ) → n ≤ f → n - f ≡ 0
none_left n f h = omega arith

-- ---- a pass that looks for the first bucket that fails a test: what it finds is what it finds from here on

-- over front buckets, at f of n
module _ (L : Layout) (n f : ℕ) (img : List ℕ) {o : Option ℕ} (p : o ≡ unsound_front L (n - f) f img) where
  pub front-on : {xs : List ℕ} → f < n → front_at L f img ≡ accepted xs → o ≡ unsound_front L (n - (f + 1)) (f + 1) img
  unfolding unsound_front
  front-on h e = p ∙ rw (left n f h, e, add-one f)

  pub front-stop : {i : ℕ} → f < n → front_at L f img ≡ refused 3 i → o ≡ some i
  unfolding unsound_front
  front-stop h e = p ∙ rw (left n f h, e)

  pub front-end : n ≤ f → o ≡ none
  unfolding unsound_front
  front-end h = p ∙ rw (none_left n f h)

-- over backyard buckets, at j of n
module _ (L : Layout) (B n j : ℕ) (img : List ℕ) {o : Option ℕ} (p : o ≡ unsound_back L B (n - j) j img) where
  pub back_on : {ys : List ℕ} → j < n → back_at L B j img ≡ accepted ys → o ≡ unsound_back L B (n - (j + 1)) (j + 1) img
  unfolding unsound_back
  back_on h e = p ∙ rw (left n j h, e, add-one j)

  pub back-stop : {i : ℕ} → j < n → back_at L B j img ≡ refused 3 i → o ≡ some i
  unfolding unsound_back
  back-stop h e = p ∙ rw (left n j h, e)

  pub back_end : n ≤ j → o ≡ none
  unfolding unsound_back
  back_end h = p ∙ rw (none_left n j h)

-- over backyard buckets that were read, and t is told of the members of bucket j
module _ (L : Layout) (B n j : ℕ) (img : List ℕ) {o : Option ℕ} (p : o ≡ early L B (n - j) j img) where
  module _ (h : j < n) (r : BackRead L B j img) {t : Bool} (said : t ≡ all_in_turn L B j img (in_back L B j img)) where
    pub early-on : not t ≡ false → o ≡ early L B (n - (j + 1)) (j + 1) img
    unfolding early
    early-on e = p ∙ rw (left n j h, r.accepts, sym said, not-false t e, add-one j)

    pub early-stop : not t ≡ true → o ≡ some (fronts B + j)
    unfolding early
    early-stop e = p ∙ rw (left n j h, r.accepts, sym said, not-true t e)

  pub early-end : n ≤ j → o ≡ none
  unfolding early
  early-end h = p ∙ rw (none_left n j h)

-- over the members of one backyard bucket, at a slot, and t is told of the member there
module _ (L : Layout) (B j : ℕ) (img ys : List ℕ) (slot : ℕ) {o : Bool} (p : o ≡ all_in_turn L B j img (drop slot ys)) where
  module _ (h : slot < length ys) {t : Bool} (said : t ≡ home_in_turn L (home B j (get_or ys slot 0 % 16)) (get_or ys slot 0 / 16) img) where
    pub members-on : not t ≡ false → o ≡ all_in_turn L B j img (drop (slot + 1) ys)
    unfolding all_in_turn
    members-on e = p ∙ rw (add-one slot, drop-cons ys slot 0 h, sym said, not-false t e)

    pub members-stop : not t ≡ true → false ≡ o
    unfolding all_in_turn
    members-stop e = sym (p ∙ rw (drop-cons ys slot 0 h, sym said, not-true t e))

  pub members-end : slot ≡ length ys → true ≡ o
  unfolding all_in_turn
  members-end h = sym (p ∙ rw (h, drop-length ys))

-- ---- one member: its front bucket

pub turn-short : {L : Layout} {f : ℕ} {img : List ℕ} → FrontRead L f img → (x : ℕ) → length (in_front L f img) < L.front_slots
    → in_turn L x (front_at L f img) ≡ false
turn-short {L} {f} {img} r x h = rw (r.accepts, ne_eqb (length (in_front L f img)) L.front_slots (omega arith))

pub turn-full : {L : Layout} {f : ℕ} {img : List ℕ} → FrontFull L f img → (x : ℕ) → in_turn L x (front_at L f img) ≡ leb (largest (in_front L f img)) x
turn-full {L} {f} {img} w x = rw (w.read.accepts, eq-eqb (length (in_front L f img)) L.front_slots w.full)

-- each member of a sound bucket has a front bucket
pub member-homed : (B j s : ℕ) (ys : List ℕ) → T (valid B j ys) → s < length ys → Homed B j (get_or ys s 0 % 16)
member-homed B j s ys v l = go (home B j (get_or ys s 0 % 16)) refl (valid-member B j (get_or ys s 0) ys v (copies_at s ys l))
  where
    go : (o : Option ℕ) → home B j (get_or ys s 0 % 16) ≡ o → T (is_some o) → Homed B j (get_or ys s 0 % 16)
    go none e t = absurd t
    go (some f) e t = (f, e)

-- ---- every bucket of an image was read, where neither pass found an unsound one

module _ {L : Layout} (fits : Fits64 L) {B : ℕ} {img : List ℕ} (whole : Whole B img) (bytes : (i : ℕ) → get_or img i 0 < 256) where
  pub front-was-read : (f : ℕ) {xs : List ℕ} → f < fronts B → front_at L f img ≡ accepted xs → FrontRead L f img
  front-was-read f h e = front_read L fits f img (front-in (record { whole = whole; front = h })) bytes e

  pub back-was-read : (j : ℕ) {ys : List ℕ} → j < backyards B → back_at L B j img ≡ accepted ys → BackRead L B j img
  back-was-read j h e = back_read L fits B j img (back_in whole h) bytes e

  pub all_read : unsound_front L (fronts B) 0 img ≡ none → unsound_back L B (backyards B) 0 img ≡ none → AllRead L B img
  all_read p q = record {
    whole = whole;
    front = λ f h. front-was-read f h (fronts-read L B img p f h);
    back = λ j h. back-was-read j h (backs-read L B img q j h);
  }

-- ---- a check that counts

-- a result that goes on to an answer was refused before it
answered-refused : {A C : Type 0} (r : Result A) (a : C) {n i : ℕ} → and_then r (λ _. accepted a) ≡ refused n i → r ≡ refused n i
answered-refused (accepted b) a e = absurd (never-refused e)
answered-refused (refused m j) a e = cc

module _ (L : Layout) (B : ℕ) (img : List ℕ) where
  pub check-refused : {n i : ℕ} → refused n i ≡ counted_check L B img → check_sized L B img ≡ refused n i
  unfolding counted_check
  check-refused e = answered-refused (check_sized L B img) (members L B img) (sym e)

  pub check-counted : {n : ℕ} → accepted n ≡ counted_check L B img → (check_sized L B img ≡ accepted tt) × (members L B img ≡ n)
  unfolding counted_check
  check-counted {n} e =
      let p = and_then-accepted (check_sized L B img) (λ _. accepted (members L B img)) n (sym e) in
      (p.1, same_answer p.2)
