-- The moves undo each other. Old, new, old gives the first bytes: `old-new-old`. New, old, new gives the same image with change count 0:
-- `new-old-new`; so the same bytes, where its change count is 0 already: `new-again`.
-- What an accepted check or move has found: `checked-parts`, `attach-parts`, `detach-parts`. No length is of both forms: `old-length`.
use mathlib.Core.Path.{◌≡◌, refl, sym, ap, ◌∙◌}
use Prim.Native.Nat.{ℕ, ◌≤◌, ◌<◌}
use mathlib.Core.Bool.{Bool, true, false, cond}
use mathlib.Core.List.{List, ◌++◌}
use mathlib.Core.Option.{Option, none, some}
use native.Mathlib.Omega.{arith}
use lib.ListN.{length, get_or}
use lib.Dec.{eqb, lit<}
use borrow.Author.Tests.{eq-eqb, eqb-true}
use Rattle.crumbmap.specs.Layouts.{Layout, Numbering}
use Rattle.buckets.specs.Buckets.{Fits64}
use Rattle.machine.specs.Results.{Result, accepted, refused, or_refused}
use Rattle.machine.specs.Images.{length_of, size_of, sized}
use Rattle.machine.specs.Checks.{check_sized}
use Rattle.machine.proofs.AcceptedLaws.{same_answer, never-refused, and_then-accepted}
use Rattle.machine.proofs.ImageLaws.{size_of-some}
use Rattle.form.specs.Tails.{Tail, Header, body, rest, tail_in, tail_bytes, started, members, headed}
use Rattle.form.specs.Calls.{checked_by}
use Rattle.form.specs.Moves.{attach_of, detach_of}
use Rattle.form.proofs.TailLaws.{Small, length-body, body-form, headed-form, headed-parts, form-again}
use Rattle.form.proofs.CountLaws.{members-most, slots_small}

-- what was found, and a test that held, where the answer was accepted
was-found : {A : Type 0} (n : ℕ) (o : Option A) {a : A} → or_refused n o ≡ accepted a → o ≡ some a
was-found n none e = absurd (never-refused (sym e))
was-found n (some b) e = cc

test-held : {A : Type 0} (b : Bool) (n i : ℕ) {r : Result A} {a : A} → cond b r (refused n i) ≡ accepted a → (b ≡ true) × (r ≡ accepted a)
test-held true n i e = (refl, e)
test-held false n i e = absurd (never-refused (sym e))

-- ---- what was accepted

pub record Checked (h : Header) (b : List ℕ) : Type 0 where
  pub sound : check_sized h.layout h.size b ≡ accepted tt
  pub total : h.tail.total ≡ members h.layout h.size b

pub checked-parts : (h : Header) (b : List ℕ) → checked_by h b ≡ accepted tt → Checked h b
unfolding checked_by
checked-parts h b e =
    let p = and_then-accepted _ _ tt e in
    let q = test-held _ 12 0 p.2 in
    record { sound = p.1; total = eqb-true _ _ q.0 }

-- a move from an old image to the new form
pub record Attached (layouts : Numbering) (n : ℕ) (old target new : List ℕ) : Type 0 where
  pub size : ℕ
  pub layout : Layout
  pub source : size_of (length old) ≡ some size
  pub room : size_of (length (body target)) ≡ some size
  pub known : layouts n ≡ some layout
  pub sound : check_sized layout size old ≡ accepted tt
  pub written : new ≡ old ++ tail_bytes n (started (members layout size old))

pub attach-parts : (layouts : Numbering) (n : ℕ) (old target new : List ℕ) → attach_of layouts n old target ≡ accepted new
    → Attached layouts n old target new
unfolding attach_of
attach-parts layouts n old target new e =
    let p = and_then-accepted (or_refused 1 (size_of (length old))) _ new e in
    let q = and_then-accepted (or_refused 1 (size_of (length (body target)))) _ new p.2 in
    let r = test-held (eqb p.0 q.0) 2 0 q.2 in
    let s = and_then-accepted (or_refused 11 (layouts n)) _ new r.1 in
    let u = and_then-accepted (check_sized s.0 p.0 old) _ new s.2 in
    record {
      size = p.0;
      layout = s.0;
      source = was-found 1 (size_of (length old)) p.1;
      room = was-found 1 (size_of (length (body target))) q.1 ∙ ap some (sym (eqb-true p.0 q.0 r.0));
      known = was-found 11 (layouts n) s.1;
      sound = u.1;
      written = sym (same_answer u.2);
    }

-- a move from the new form to an old image
pub record Detached (layouts : Numbering) (n : ℕ) (img target old : List ℕ) : Type 0 where
  pub header : Header
  pub source : size_of (length (body img)) ≡ some header.size
  pub room : size_of (length target) ≡ some header.size
  pub told : headed layouts header.size img ≡ accepted header
  pub number : header.number ≡ n
  pub checked : Checked header (body img)
  pub written : old ≡ body img

pub detach-parts : (layouts : Numbering) (n : ℕ) (img target old : List ℕ) → detach_of layouts n img target ≡ accepted old
    → Detached layouts n img target old
unfolding detach_of
detach-parts layouts n img target old e =
    let p = and_then-accepted (or_refused 1 (size_of (length (body img)))) _ old e in
    let q = and_then-accepted (or_refused 1 (size_of (length target))) _ old p.2 in
    let r = test-held (eqb p.0 q.0) 2 0 q.2 in
    let s = and_then-accepted (headed layouts p.0 img) _ old r.1 in
    let u = test-held (eqb s.0.number n) 11 0 s.2 in
    let v = and_then-accepted (checked_by s.0 (body img)) _ old u.1 in
    let size : s.0.size ≡ p.0 = (headed-parts layouts p.0 img s.0 s.1).size in
    record {
      header = s.0;
      source = rw size (was-found 1 (size_of (length (body img))) p.1);
      room = rw size (was-found 1 (size_of (length target)) q.1 ∙ ap some (sym (eqb-true p.0 q.0 r.0)));
      told = rw size s.1;
      number = eqb-true s.0.number n u.0;
      checked = checked-parts s.0 (body img) v.1;
      written = sym (same_answer v.2);
    }

-- ---- there and back

-- whatever target the first move was given, and any target of the old length for the second
pub old-new-old : (layouts : Numbering) (n : ℕ) (L : Layout) → layouts n ≡ some L → Fits64 L → (old target new back : List ℕ)
    → attach_of layouts n old target ≡ accepted new → length back ≡ length old → detach_of layouts n new back ≡ accepted old
unfolding detach_of checked_by
old-new-old layouts n L known fits old target new back e l =
    let p = attach-parts layouts n old target new e in
    let same : p.layout ≡ L = cc in
    rw (p.written, same) (again p.size p.source (rw same at p.sound))
  where
    again : (B : ℕ) → size_of (length old) ≡ some B → check_sized L B old ≡ accepted tt
        → detach_of layouts n (old ++ tail_bytes n (started (members L B old))) back ≡ accepted old
    again B size sound =
        let m : ℕ = members L B old in
        let small : Small (started m) =
        record { total = omega (arith, members-most L B old, slots_small L fits B (length old) size); changes = lit< tt } in
        rw (
          body-form old n (started m),
          size,
          l,
          size,
          eq-eqb B B refl,
          headed-form layouts n L known B old (started m) small (members-most L B old),
          eq-eqb n n refl,
          sound,
          eq-eqb m m refl,
        )
        refl

unchanged : (t : Tail) → t.changes ≡ 0 → t ≡ started t.total
unchanged t z = ap {B = Tail} (λ (c : ℕ). record { total = t.total; changes = c }) z

-- any target of the image's length
module _ (layouts : Numbering) (n : ℕ) (img back old target : List ℕ) (moved : detach_of layouts n img back ≡ accepted old)
    (room : length target ≡ length img) where
  pub new-old-new : attach_of layouts n old target ≡ accepted (body img ++ tail_bytes n (started (tail_in (rest img)).total))
  unfolding attach_of
  new-old-new =
      let p = detach-parts layouts n img back old moved in
      let h = headed-parts layouts p.header.size img p.header p.told in
      let size : size_of (length (body target)) ≡ some p.header.size = rw (length-body target, room, ← length-body img) p.source in
      rw (
        p.written,
        p.source,
        size,
        eq-eqb p.header.size p.header.size refl,
        rw p.number at h.layout,
        p.checked.sound,
        ← p.checked.total,
        h.tail,
      )
      refl

  -- where no change was counted, the image is as it was
  pub new-again : ((i : ℕ) → get_or img i 0 < 256) → (tail_in (rest img)).changes ≡ 0 → attach_of layouts n old target ≡ accepted img
  unfolding length_of
  new-again bytes z =
      let p = detach-parts layouts n img back old moved in
      let h = headed-parts layouts p.header.size img p.header p.told in
      let long : 64 ≤ length img = omega (arith, (size_of-some _ _ p.source).0, length-body img) in
      let same = form-again layouts p.header.size img p.header p.told long bytes in
      let tail : p.header.tail ≡ started (tail_in (rest img)).total = h.tail ∙ unchanged (tail_in (rest img)) z in
      new-old-new ∙ ap accepted (sym (rw (p.number, tail) at same))

-- ---- no length is of both forms

-- an image of document 01's form has no length of the new one
pub old-length : (old : List ℕ) (B : ℕ) → size_of (length old) ≡ some B → sized (body old) ≡ refused 1 0
old-length old B e = go (size_of (length (body old))) refl
  where
    go : (o : Option ℕ) → size_of (length (body old)) ≡ o → or_refused 1 o ≡ refused 1 0
    go none f = refl
    go (some C) f = absurd (never_both (size_of-some _ B e).0 (size_of-some _ C f).0 (size_of-some _ C f).1)
      where
        never_both : length old ≡ length_of B → length (body old) ≡ length_of C → 0 < C → ⊥
        never_both p q r = unfold length_of in omega (arith, p, q, r, length-body old)
