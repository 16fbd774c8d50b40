-- A walk of the calls is a walk of its history on the machine, with the same entries: an accepted page wrote the machine's run of entries.
-- Main result: `walk-told`.
use mathlib.Core.Path.{◌≡◌, refl, sym, ◌∙◌, ap}
use Prim.Native.Nat.{ℕ}
use mathlib.Core.List.{List, ◌++◌}
use native.Mathlib.Omega.{arith}
use lib.ListN.{length, take, drop}
use lib.Seq.{take-append_seam}
use Rattle.std.specs.Prelude as S
use Rattle.crumbmap.specs.Layouts.{known, layout1}
use Rattle.machine.specs.Results.{Result, accepted, refused}
use Rattle.machine.specs.Pages.{Run}
use Rattle.form.specs.Calls.{page_of}
use Rattle.answers.specs.Answers.{extent_of}
use Rattle.history.specs.Histories as H
use Rattle.history.specs.Histories.{Call, History, bytes_after}
use Rattle.history.specs.Walks as W
use Rattle.catalogue.specs.Runs.{Performed, inserted, deleted, asked, counted, paged, Happened}
use Rattle.catalogue.specs.Walks.{Walk, begun, continued, meanwhile, FullWalk, entries_of, next_of}
use Rattle.machine.proofs.AcceptedLaws.{same_answer}
use Rattle.catalogue.proofs.ToldRuns.{refusal-never, kept}

-- on the machine, a page from s with change count n into so much room gives these entries and this next bucket
pub record Gives (img : List ℕ) (s n room : ℕ) (gs : List ℕ) (next : ℕ) : Type 0 where
  pub run : Run
  pub page : page_of known img s n room ≡ accepted run
  pub entries : gs ≡ run.entries
  pub goes_on : next ≡ run.next

-- that, of a call that is a page
abbrev GivesIf : List ℕ → Call → List ℕ → ℕ → Type 0
GivesIf img (H.insert k) gs next = Unit {0}
GivesIf img (H.delete k) gs next = Unit {0}
GivesIf img (H.ask k) gs next = Unit {0}
GivesIf img (H.count k) gs next = Unit {0}
GivesIf img (H.page s n room) gs next = Gives img s n room gs next

-- a run whose extent is accepted is accepted
extent-accepted : (m : Result Run) (n next : ℕ) → accepted (n, next) ≡ extent_of m → (r : Run) × (m ≡ accepted r) × (n ≡ length r.entries) × (next ≡ r.next)
extent-accepted (accepted r) n next e =
    let same = same_answer e in
    (r, refl, ap (λ (p : ℕ × ℕ). p.0) same, ap (λ (p : ℕ × ℕ). p.1) same)
extent-accepted (refused i j) n next e = let z : ◌≡◌ {A = ℕ} 0 1 = cc in absurd (omega arith)

-- the first entries of an output that begins with them
first-entries : (out es rest : List ℕ) (n : ℕ) → out ≡ es ++ rest → n ≡ length es → take n out ≡ es
first-entries out es rest n o e = rw (o, e) (take-append_seam es rest)

-- an accepted page wrote the entries that the machine gives
page-wrote : {img new : List ℕ} {c : Call} {n : ℕ} (p : Performed img c n new) → n ≡ 0 → GivesIf img c (entries_of p) (next_of p)
page-wrote (inserted k r new p) e = tt
page-wrote (deleted k r new p) e = tt
page-wrote (asked k r p) e = tt
page-wrote (counted k r p) e = tt
page-wrote (paged s changes old (S.Err x) out p) e = absurd (refusal-never (ℕ × ℕ) x e)
page-wrote {img} (paged s changes old (S.Ok g) out p) e =
    let x = extent-accepted (page_of known img s changes (length old)) g.entries g.next p.answer in
    let wrote : out ≡ x.0.entries ++ drop (length x.0.entries) old = cc (p.bytes, x.1) in
    record { run = x.0; page = x.1; entries = first-entries out x.0.entries (drop (length x.0.entries) old) g.entries wrote x.2; goes_on = x.3 }

-- a page on the image that a run left is a page after its history
page-after : {h : History} {img : List ℕ} (run : Happened h img) {s n room : ℕ} {gs : List ℕ} {next : ℕ} (g : Gives img s n room gs next)
    → page_of known (bytes_after known h) s n room ≡ accepted g.run
page-after run {s} {n} {room} g = ap (λ (i : List ℕ). page_of known i s n room) (sym (kept run).1) ∙ g.page

walked : {n : ℕ} {h : History} {img : List ℕ} {run : Happened h img} {N : ℕ → ℕ} {gs : List ℕ} {s : ℕ} → Walk n h img run N gs s
    → W.Walk known layout1 n h N gs s
walked (begun h img new run room p) =
    let g = page-wrote p refl in
    rw (g.entries, g.goes_on) (W.begun h room g.run (page-after run g))
walked (continued h img new run N gs s room p w) =
    let g = page-wrote p refl in
    rw (g.entries, g.goes_on) (W.continued h N gs s room g.run (walked w) (page-after run g))
walked (meanwhile h img new run N gs s c m fits p w) = W.meanwhile h N gs s c (walked w)

pub walk-told : {h : History} {img : List ℕ} (run : Happened h img) {N : ℕ → ℕ} {gs : List ℕ} → FullWalk run N gs → W.FullWalk known layout1 h N gs
walk-told run w = (w.0, walked w.1)
