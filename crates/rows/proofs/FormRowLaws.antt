-- A row of an image with its tail, by what opening the image gives, for any numbering of layouts. Main results: the body's row where the image is
-- opened (`row_opened`), 10 and then 11 where its tail is bad (`row-barred`), and that a row which is accepted is the body's (`row-accepted`).
use mathlib.Core.Path.{◌≡◌, refl, sym, ◌∙◌, ap}
use Prim.Native.Nat.{ℕ}
use mathlib.Core.Bool.{Bool, true, false, cond, ◌&&◌}
use mathlib.Core.List.{List, map}
use mathlib.Core.Option.{Option, none, some}
use lib.ListN.{length, drop}
use lib.Dec.{leb}
use Rattle.multiset.specs.Multisets.{all_zero}
use Rattle.crumbmap.specs.Layouts.{Layout, Numbering}
use Rattle.crumbmap.specs.Fingerprints.{front_of}
use Rattle.machine.specs.Results.{Result, accepted, refused, and_then, or_refused}
use Rattle.machine.specs.Images.{size_of}
use Rattle.machine.specs.Rows as R
use Rattle.machine.specs.Rows.{Row, descends}
use Rattle.machine.proofs.AcceptedLaws.{never-refused, test-passed}
use Rattle.form.specs.Tails.{Header, body, rest, tail_in, mark_of, slots, header_by, headed, opened}
use Rattle.form.specs.Calls.{row_of}

-- an image of layout L, where it can be opened
abbrev pub Only : Layout → Numbering → List ℕ → Type 0
Only L layouts img = (h : Header) → opened layouts img ≡ accepted h → h.layout ≡ L

-- a test that is made twice
again : {A : Type 0} (b : Bool) (x y : A) → cond b x (cond b x y) ≡ cond b x y
again true x y = refl
again false x y = refl

module _ (layouts : Numbering) (img : List ℕ) where
  -- an image of size B is opened by its tail
  opened-by : {B : ℕ} → size_of (length (body img)) ≡ some B → opened layouts img ≡ headed layouts B img
  unfolding opened
  opened-by s = rw s

  -- a tail is refused with 11
  headed-refused : (B : ℕ) {n i : ℕ} → headed layouts B img ≡ refused n i → headed layouts B img ≡ refused 11 0
  unfolding headed
  headed-refused B {n} {i} e = go (layouts (mark_of img)) refl e
    where
      tested : (b : Bool) (h : Header) → cond b (accepted h) (refused 11 0) ≡ refused n i → cond b (accepted h) (refused 11 0) ≡ refused 11 0
      tested true h e = absurd (never-refused e)
      tested false h e = refl

      go : (o : Option Layout) → layouts (mark_of img) ≡ o → header_by o B img ≡ refused n i → header_by o B img ≡ refused 11 0
      go none k e = refl
      go (some L) k e = tested (all_zero (drop 17 (rest img)) && leb (tail_in (rest img)).total (slots L B)) _ e

  pub tail-refused : {B n i : ℕ} → size_of (length (body img)) ≡ some B → opened layouts img ≡ refused n i → n ≡ 11
  tail-refused {B} s e =
      let h = headed-refused B (sym (opened-by s) ∙ e) in
      let z : refused 11 0 ≡ refused _ _ = sym h ∙ sym (opened-by s) ∙ e in
      cc

  module _ (ks : List ℕ) where
    pub row-unsized : size_of (length (body img)) ≡ none → row_of layouts img ks ≡ refused 1 0
    unfolding row_of
    row-unsized s = rw s

    pub row_opened : {h : Header} → opened layouts img ≡ accepted h → row_of layouts img ks ≡ R.row_of h.layout (body img) ks
    unfolding opened row_of R.row_of
    row_opened {h} e = go (size_of (length (body img))) refl e
      where
        go : (o : Option ℕ) → size_of (length (body img)) ≡ o → (and_then (or_refused 1 o) λ B. headed layouts B img) ≡ accepted h
            → row_of layouts img ks ≡ R.row_of h.layout (body img) ks
        go none s e = absurd (never-refused (sym e))
        go (some B) s e = rw (s, e) (again (descends 0 (map (front_of B) ks)) (refused 10 0) _)

    pub row-barred : {B n i : ℕ} → size_of (length (body img)) ≡ some B → opened layouts img ≡ refused n i
        → row_of layouts img ks ≡ cond (descends 0 (map (front_of B) ks)) (refused 10 0) (refused 11 0)
    unfolding row_of
    row-barred {B} s e = rw (s, headed-refused B (sym (opened-by s) ∙ e))

    pub row-accepted : {L : Layout} → Only L layouts img → {w : Row} → row_of layouts img ks ≡ accepted w → R.row_of L (body img) ks ≡ accepted w
    row-accepted {L} only {w} e = go (size_of (length (body img))) (opened layouts img) refl refl
      where
        go : (o : Option ℕ) (r : Result Header) → size_of (length (body img)) ≡ o → opened layouts img ≡ r → R.row_of L (body img) ks ≡ accepted w
        go none r s q = absurd (never-refused (sym e ∙ row-unsized s))
        go (some B) (accepted h) s q = sym (ap (λ (M : Layout). R.row_of M (body img) ks) (only h q)) ∙ sym (row_opened q) ∙ e
        go (some B) (refused n i) s q =
            absurd (never-refused (sym (test-passed (descends 0 (map (front_of B) ks)) 10 0 (sym (row-barred s q) ∙ e))))
