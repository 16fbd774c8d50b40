-- `merging::merge::merge` meets its contract. Merge is the machine's at the size that the three images share, or the refusal of their lengths.
use mathlib.Core.Path.{◌≡◌, refl}
use mathlib.Core.Logic.{◌⊎◌, inl, inr}
use mathlib.Core.Bool.{false, ◌&&◌}
use Prim.Native.Nat.{ℕ, ◌-◌}
use lib.ListN.{length}
use lib.Dec.{eqb}
use borrow.Author.Tests.{eq-eqb, ne_eqb}
use Rattle.std.proofs.lemmas.Result.{err_from_is_err_and}
use Rattle.machine.specs.Images.{size_of}
use Rattle.form.specs.Tails.{body}
use Rattle.form.specs.Calls.{merge_of}
use Rattle.answers.specs.declared.Refusal.TheVariants.{WrongLength}
use Rattle.image.specs.Steps.ImageReads.{Whole}
use Rattle.image.proofs.ImageReadLaws.{size-some, size_none, whole-sized}
use Rattle.tails.proofs.OpenLaws.{form-whole, form-none}
use Rattle.merging.proofs.merge.merge.Goals.{In_ok-size, In_ok-other, In_ok-into}
use Rattle.merging.proofs.merge.merge.Goals as goal

-- the sizes of the three
first : (c : In_ok-size) → Whole c.in_ok-size.size (body c.args.first.now)
first c =
    let img = c.args.first.now in
    form-whole img (size-some (size_of (length img - 64)) c.form_size.ensures c.in_ok-size.ensures.ok_part)

second : (c : In_ok-other) → Whole c.in_ok-other.other (body c.args.second.now)
second c =
    let img = c.args.second.now in
    form-whole img (size-some (size_of (length img - 64)) c.form_size-2.ensures c.in_ok-other.ensures.ok_part)

target : (c : In_ok-into) → Whole c.in_ok-into.into (body c.args.target.now)
target c =
    let img = c.args.target.now in
    form-whole img (size-some (size_of (length img - 64)) c.form_size-3.ensures c.in_ok-into.ensures.ok_part)

-- of three sizes that are not one the machine says so
differ : (B C D : ℕ) → (B ≡ C → ⊥) ⊎ ((B ≡ C) × (B ≡ D → ⊥)) → eqb B C && eqb B D ≡ false
differ B C D (inl p) = rw (ne_eqb B C p)
differ B C D (inr p) = rw (eq-eqb B C p.0, ne_eqb B D p.1)

pub returns-in_err-size : goal.returns-in_err-size
unfolding merge_of
returns-in_err-size c =
    let img = c.args.first.now in
    let p = err_from_is_err_and c.from_residual.result c.from_residual.ensures.1 in
    let w = rw c.in_err-size.ensures.ok_part at c.in_err-size.ensures.value in
    let e : c.in_err-size.field-0.0 ≡ WrongLength = cc in
    rw (p.1, p.2, e, form-none img (size_none (size_of (length img - 64)) c.form_size.ensures c.in_err-size.ensures.ok_part)) record { answer = refl; bytes = refl }

pub returns-in_err-other : goal.returns-in_err-other
unfolding merge_of
returns-in_err-other c =
    let img = c.args.second.now in
    let p = err_from_is_err_and c.from_residual-in_err-other.result c.from_residual-in_err-other.ensures.1 in
    let w = rw c.in_err-other.ensures.ok_part at c.in_err-other.ensures.value in
    let e : c.in_err-other.field-0.0 ≡ WrongLength = cc in
    rw (
      p.1,
      p.2,
      e,
      whole-sized (first (goal.at.returns-in_err-other c).In_ok-size),
      form-none img (size_none (size_of (length img - 64)) c.form_size-2.ensures c.in_err-other.ensures.ok_part),
    ) record { answer = refl; bytes = refl }

pub returns-in_err-into : goal.returns-in_err-into
unfolding merge_of
returns-in_err-into c =
    let img = c.args.target.now in
    let p = err_from_is_err_and c.from_residual-in_err-into.result c.from_residual-in_err-into.ensures.1 in
    let w = rw c.in_err-into.ensures.ok_part at c.in_err-into.ensures.value in
    let e : c.in_err-into.field-0.0 ≡ WrongLength = cc in
    rw (
      p.1,
      p.2,
      e,
      whole-sized (first (goal.at.returns-in_err-into c).In_ok-size),
      whole-sized (second (goal.at.returns-in_err-into c).In_ok-other),
      form-none img (size_none (size_of (length img - 64)) c.form_size-3.ensures c.in_err-into.ensures.ok_part),
    ) record { answer = refl; bytes = refl }

pub returns-then-size-other : goal.returns-then-size-other
unfolding merge_of
returns-then-size-other c =
    let at = goal.at.returns-then-size-other c in
    rw (
      whole-sized (first at.In_ok-size),
      whole-sized (second at.In_ok-other),
      whole-sized (target at.In_ok-into),
      differ c.in_ok-size.size c.in_ok-other.other c.in_ok-into.into c.then-size-other.either,
    ) record { answer = refl; bytes = refl }

pub merge_sized-requires : goal.merge_sized-requires
merge_sized-requires c =
    let at = goal.at.merge_sized-requires c in (
      first at.In_ok-size,
      rw c.if-size-other.false (second at.In_ok-other),
      rw c.if-size-into.false (target at.In_ok-into),
    )

pub returns : goal.returns
unfolding merge_of
returns c =
    rw (
      whole-sized (first (goal.at.returns c).In_ok-size),
      whole-sized (second (goal.at.returns c).In_ok-other),
      whole-sized (target (goal.at.returns c).In_ok-into),
      eq-eqb c.in_ok-size.size c.in_ok-other.other c.if-size-other.false,
      eq-eqb c.in_ok-size.size c.in_ok-into.into c.if-size-into.false,
    ) c.merge_sized.ensures
