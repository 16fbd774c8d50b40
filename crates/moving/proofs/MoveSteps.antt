-- The steps of the moves: the size that a source and a target share, and what a move is that was refused or went on.
-- Main results: `sizes-refused`, `sizes-shared`, `moved_on`; `move-refused`.
use mathlib.Core.Path.{◌≡◌, refl}
use Prim.Native.Nat.{ℕ}
use mathlib.Core.Bool.{Bool, true, false, cond}
use mathlib.Core.List.{List}
use mathlib.Core.Option.{Option, none, some}
use lib.ListN.{length}
use lib.Dec.{eqb}
use borrow.Author.Tests.{eq-eqb, eqb-true}
use Rattle.std.specs.Prelude as S
use Rattle.std.specs.Result.{IsErr, IsErrAnd}
use Rattle.std.proofs.lemmas.Result.{err_from_is_err_and}
use Rattle.machine.specs.Results.{Result, refused, and_then, or_refused}
use Rattle.machine.specs.Images.{size_of}
use Rattle.answers.specs.Answers.{refusal, Starts}
use Rattle.answers.specs.declared.Refusal.{Refusal}
use Rattle.answers.specs.declared.Refusal.TheVariants.{WrongLength, LengthsDiffer}
use Rattle.image.specs.Steps.ImageReads.{sizing, Whole}
use Rattle.image.proofs.ImageReadLaws.{whole-sized}
use Rattle.moving.specs.Steps.Moves.{shared_of}

-- a move goes on at the size of both, 1 for either, then 2
abbrev goes_on : {A : Type 0} → Option ℕ → Option ℕ → (ℕ → Result A) → Result A
goes_on o p k = and_then (or_refused 1 o) λ B. and_then (or_refused 1 p) λ C. cond (eqb B C) (k B) (refused 2 0)

-- refused for the lengths
tested-refused : {A : Type 0} (b : Bool) (B : ℕ) (k : ℕ → Result A) {why : Refusal} → S.Err why ≡ cond b (S.Ok B) (S.Err LengthsDiffer)
    → cond b (k B) (refused 2 0) ≡ refusal why
tested-refused true B k e = cc
tested-refused false B k {why} e = let w : why ≡ LengthsDiffer = cc in rw w

pub sizes-refused : {A : Type 0} (o p : Option ℕ) (k : ℕ → Result A) {why : Refusal} → S.Err why ≡ shared_of (sizing o) (sizing p)
    → goes_on o p k ≡ refusal why
sizes-refused none p k {why} e = let w : why ≡ WrongLength = cc in rw w
sizes-refused (some B) none k {why} e = let w : why ≡ WrongLength = cc in rw w
sizes-refused (some B) (some C) k e = tested-refused (eqb B C) B k e

-- of one size
tested-shared : (b : Bool) (B C : ℕ) {n : ℕ} → eqb B C ≡ b → S.Ok n ≡ cond b (S.Ok B) (S.Err LengthsDiffer) → (B ≡ n) × (C ≡ n)
tested-shared true B C p e = let s = eqb-true B C p in (cc, cc)
tested-shared false B C p e = (cc, cc)

pub sizes-shared : (o p : Option ℕ) {n : ℕ} → S.Ok n ≡ shared_of (sizing o) (sizing p) → (o ≡ some n) × (p ≡ some n)
sizes-shared none p e = (cc, cc)
sizes-shared (some B) none e = (cc, cc)
sizes-shared (some B) (some C) e = let s = tested-shared (eqb B C) B C refl e in rw (s.0, s.1) (refl, refl)

pub moved_on : {A : Type 0} {B : ℕ} (a b : List ℕ) (k : ℕ → Result A) → Whole B a → Whole B b → goes_on (size_of (length a)) (size_of (length b)) k ≡ k B
moved_on {B} a b k p q = rw (whole-sized p, whole-sized q, eq-eqb B B refl)

-- a move that passes a refusal on keeps the target
pub move-refused : (m : Result (List ℕ)) (old : List ℕ) (r : S.Result (Unit {0}) Refusal) (why : Refusal) → IsErr r × IsErrAnd r (λ w. w ≡ why)
    → m ≡ refusal why → Starts m old r old
move-refused m old r why q e = let p = err_from_is_err_and r q.1 in rw (p.1, p.2, e) record { answer = refl; bytes = refl }
