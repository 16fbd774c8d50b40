-- The two moves by their contracts. Old, new, old gives the first bytes, of any image that the first move accepts (`moves-undo`). The image that a run
-- left is its body with the tail of its total and change count (`calls-leave`), and new, old, new gives it again with change count 0 (`moves-restart`).
use mathlib.Core.Path.{◌≡◌, refl, sym, ap}
use Prim.Native.Nat.{ℕ}
use mathlib.Core.List.{List, ◌++◌}
use lib.ListN.{length}
use Rattle.std.specs.Prelude as S
use Rattle.crumbmap.specs.Layouts.{known, layout1}
use Rattle.buckets.proofs.BucketLaws.{fits1}
use Rattle.machine.specs.Results.{Result, accepted, refused, number}
use Rattle.machine.proofs.AcceptedLaws.{never-refused}
use Rattle.form.specs.Tails.{body, tail_bytes, started}
use Rattle.form.specs.Moves.{attach_of, detach_of}
use Rattle.form.proofs.MoveLaws.{old-new-old}
use Rattle.answers.specs.Answers.{Starts, Attaches, Detaches}
use Rattle.answers.specs.declared.Refusal.{Refusal}
use Rattle.history.specs.Histories.{History}
use Rattle.history.specs.Ledgers.{filed}
use Rattle.history.proofs.Theorem.{known-fit, image_said, new-old-new}
use Rattle.catalogue.specs.Runs.{Happened}
use Rattle.catalogue.proofs.ToldRuns.{refusal-never, kept, numbered}

-- a call that writes over `old`: what it wrote where it was accepted, and that it is accepted where the machine's is
wrote : (m : Result (List ℕ)) (old new : List ℕ) → Starts m old (S.Ok tt) new → m ≡ accepted new
wrote (accepted img) old new c = ap accepted (sym c.bytes)
wrote (refused n i) old new c = absurd (never-refused c.answer)

writes : (m : Result (List ℕ)) (img old new : List ℕ) (r : S.Result (Unit {0}) Refusal) → m ≡ accepted img → Starts m old r new → (r ≡ S.Ok tt) × (new ≡ img)
writes m img old new (S.Ok u) e c = (refl, rw e at c.bytes)
writes m img old new (S.Err x) e c = absurd (refusal-never (Unit {0}) x (rw e at (ap number c.answer)))

-- whatever target the first move was given, and any target of the old length for the second
pub moves-undo : (old target new room back : List ℕ) (r : S.Result (Unit {0}) Refusal) → Attaches old target (S.Ok tt) new → length room ≡ length old
    → Detaches new room r back → (r ≡ S.Ok tt) × (back ≡ old)
moves-undo old target new room back r a l d =
    let moved : attach_of known 1 old target ≡ accepted new = wrote (attach_of known 1 old target) target new a in
    writes (detach_of known 1 new room) old room back r (old-new-old known 1 layout1 refl fits1 old target new room moved l) d

pub calls-leave : {h : History} {img : List ℕ} → Happened h img → img ≡ body img ++ tail_bytes 1 (filed known h)
calls-leave {h} happened =
    let x = kept happened in
    rw (x.1, ← numbered happened) (image_said known known-fit h x.0)

-- targets of the right length
pub moves-restart : {h : History} {img : List ℕ} → Happened h img → (target old room new : List ℕ) (q r : S.Result (Unit {0}) Refusal) → length target ≡ length (body img)
    → length room ≡ length img → Detaches img target q old → Attaches old room r new
    → (q ≡ S.Ok tt) × (old ≡ body img) × (r ≡ S.Ok tt) × (new ≡ body img ++ tail_bytes 1 (started (filed known h).total))
moves-restart {h} {img} happened target old room new q r a b d c =
    let x = kept happened in
    let t = new-old-new known known-fit h x.0 target room (rw x.1 at a) (rw x.1 at b) in
    let moved : detach_of known 1 img target ≡ accepted (body img) = rw (x.1, ← numbered happened) t.0 in
    let again : attach_of known 1 (body img) room ≡ accepted (body img ++ tail_bytes 1 (started (filed known h).total)) =
    rw (x.1, ← numbered happened) t.1 in
    let first = writes (detach_of known 1 img target) (body img) target old q moved d in
    let second = writes (attach_of known 1 (body img) room) _ room new r again (rw first.1 at c) in
    (first.0, first.1, second.0, second.1)
