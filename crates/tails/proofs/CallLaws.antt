-- A call on an opened image is document 01's call on its body: `body-whole`, `body-long`, `body-placed`, what the body's steps ask; `body_call`,
-- `sized-call` and `hash-call`, what they say.
use mathlib.Core.Path.{◌≡◌, sym, ◌∙◌}
use Prim.Native.Nat.{ℕ}
use mathlib.Core.List.{List}
use lib.ListN.{length, take}
use Rattle.crumbmap.specs.Layouts.{Layout, layout1, known}
use Rattle.crumbmap.specs.Fingerprints.{front_of, key_of}
use Rattle.machine.specs.Results.{Result, and_then}
use Rattle.machine.specs.Images.{sized}
use Rattle.form.specs.Tails.{body, opened}
use Rattle.form.proofs.TailLaws.{length-body}
use Rattle.image.specs.Steps.ImageReads.{Whole, Locates, Placed}
use Rattle.image.specs.declared.Target.{Target}
use Rattle.image.proofs.ImageReadLaws.{whole-sized, located, placed}
use Rattle.tails.specs.Steps.Openings.{Opens}
use Rattle.tails.specs.declared.Opened.{Opened}
use Rattle.tails.proofs.OpenLaws.{then-opened}
use Rattle.tails.proofs.PartLaws.{body-part}

module _ {o : Opened} {img : List ℕ} (s : Opens o img) where
  pub body-whole : Whole o.size (take o.end img)
  body-whole = rw (body-part img s.end) s.whole

  -- as long as it was lent
  pub body-long : o.end ≡ length (take o.end img)
  body-long = sym (rw (body-part img s.end) (length-body img) ∙ sym s.end)

  -- a call that is `g` of the layout and the body, whatever the tail tells
  pub body_call : {A : Type 0} (g : Layout → List ℕ → Result A) → and_then (opened known img) (λ h. g h.layout (body img)) ≡ g layout1 (take o.end img)
  body_call g = then-opened (λ h. g h.layout (body img)) s ∙ rw (body-part img s.end)

  -- a call that is `g` at a size
  pub sized-call : {A : Type 0} (g : ℕ → List ℕ → Result A) → g o.size (take o.end img) ≡ and_then (sized (body img)) λ B. g B (body img)
  sized-call g = rw (body-part img s.end, whole-sized s.whole)

  -- a call that is `g` at a size, a front bucket and a key
  module _ {k : ℕ} {t : Target} (l : Locates layout1 o.size k t) where
    pub body-placed : Placed layout1 t (take o.end img)
    body-placed = placed l body-whole

    pub hash-call : {A : Type 0} (g : ℕ → ℕ → ℕ → List ℕ → Result A)
        → g t.size t.front.0 t.key (take o.end img) ≡ and_then (sized (body img)) λ B. g B (front_of B k) (key_of layout1 k) (body img)
    hash-call g =
        located l (λ B f x. g B f x (take o.end img)) ∙ sized-call (λ B b. g B (front_of B k) (key_of layout1 k) b)
