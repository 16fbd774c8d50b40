-- The code's answers as the documents give them: each answer or refusal as the machine's `Result`, with its number and values;
-- and for each call that writes, its answer and the bytes after it.
use Rattle.std.specs.Prelude.{◌≡◌, ℕ, List, length}
use Rattle.std.specs.Prelude as S
use Rattle.crumbmap.specs.Layouts.{known}
use Rattle.machine.specs.Results.{Result, accepted, refused, and_then}
use Rattle.machine.specs.Machine as M
use Rattle.machine.specs.Pages.{Run}
use Rattle.machine.specs.Calls.{written, image_of, output_of}
use Rattle.machine.specs.OccupancyPages.{printed}
use Rattle.form.specs.Tails.{Tail}
use Rattle.form.specs.Calls as F
use Rattle.form.specs.Moves.{attach_of, detach_of}
use Rattle.answers.specs.declared.Refusal.{Refusal}
use Rattle.answers.specs.declared.Refusal.TheVariants.{WrongLength, LengthsDiffer, Unsound, Full, Absent, PastEnd, NoRoom, Early, Descending, BadTail, Miscounted, Spent, Changed}
use Rattle.answers.specs.declared.Place.{Place}
use Rattle.answers.specs.declared.Place.TheVariants as P
use Rattle.answers.specs.declared.Asked.{Asked}
use Rattle.answers.specs.declared.Counted.{Counted}
use Rattle.answers.specs.declared.Paged.{Paged}
use Rattle.answers.specs.declared.Tail as D

-- "the numbers a caller may get": a refusal's number, and its table number or 0
abbrev pub numbered : Refusal → ℕ × ℕ
numbered WrongLength = (1, 0)
numbered LengthsDiffer = (2, 0)
numbered (Unsound i) = (3, i)
numbered Full = (4, 0)
numbered Absent = (5, 0)
numbered PastEnd = (6, 0)
numbered NoRoom = (7, 0)
numbered (Early i) = (8, i)
numbered Descending = (10, 0)
numbered BadTail = (11, 0)
numbered Miscounted = (12, 0)
numbered Spent = (13, 0)
numbered Changed = (14, 0)

abbrev pub refusal : {A : Type 0} → Refusal → Result A
refusal r = refused (numbered r).0 (numbered r).1

-- "fresh, check and merge give 0 when accepted"; an occupancy page and a move too
abbrev pub outcome_of : S.Result (Unit {0}) Refusal → Result (Unit {0})
outcome_of (S.Ok u) = accepted tt
outcome_of (S.Err r) = refusal r

-- "the answer is 0, or 1 + the backyard number"
abbrev pub change_of : S.Result ℕ Refusal → Result ℕ
change_of (S.Ok a) = accepted a
change_of (S.Err r) = refusal r

abbrev pub place_of : Place → M.Place
place_of P.Nowhere = M.nowhere
place_of (P.Front i) = M.front i
place_of (P.First i) = M.first i
place_of (P.Second i) = M.second i

abbrev pub asked_of : S.Result Asked Refusal → Result M.Asked
asked_of (S.Ok a) = accepted (record { reads = a.reads; place = place_of a.place; copies = a.copies })
asked_of (S.Err r) = refusal r

abbrev pub counted_of : S.Result Counted Refusal → Result M.Counted
counted_of (S.Ok c) = M.counted c.reads c.copies
counted_of (S.Err r) = refusal r

-- the machine's result without the image
abbrev pub blank : Result (List ℕ) → Result (Unit {0})
blank r = and_then r λ _. accepted tt

abbrev pub answer_of : Result M.Change → Result ℕ
answer_of r = and_then r λ c. accepted c.answer

-- a call that is `m` on the machine: its answer, and the image `new` after it
pub record Changes (m : Result M.Change) (old : List ℕ) (r : S.Result ℕ Refusal) (new : List ℕ) : Type 0 where
  pub answer : change_of r ≡ answer_of m
  pub bytes : new ≡ image_of m old

-- an insert of a hash, and a delete of one
abbrev pub Inserts : List ℕ → ℕ → S.Result ℕ Refusal → List ℕ → Type 0
Inserts old k r new = Changes (F.insert_of known old k) old r new

abbrev pub Deletes : List ℕ → ℕ → S.Result ℕ Refusal → List ℕ → Type 0
Deletes old k r new = Changes (F.delete_of known old k) old r new

-- a page "gives how many and the next bucket"
abbrev pub paged_of : S.Result Paged Refusal → Result (ℕ × ℕ)
paged_of (S.Ok p) = accepted (p.entries, p.next)
paged_of (S.Err r) = refusal r

-- the machine's result without the entries
abbrev pub extent_of : Result Run → Result (ℕ × ℕ)
extent_of r = and_then r λ s. accepted (length s.entries, s.next)

-- a call that gives the run `m` on the machine: its answer, and the output `new` after it
pub record Writes (m : Result Run) (old : List ℕ) (r : S.Result Paged Refusal) (new : List ℕ) : Type 0 where
  pub answer : paged_of r ≡ extent_of m
  pub bytes : new ≡ output_of m old

-- a page of an image from bucket s, with change count n, into the output `old`
abbrev pub Pages : List ℕ → ℕ → ℕ → List ℕ → S.Result Paged Refusal → List ℕ → Type 0
Pages img s n old r new = Writes (F.page_of known img s n (length old)) old r new

-- what the tail of an image tells
abbrev pub tailed_of : S.Result D.Tail Refusal → Result Tail
tailed_of (S.Ok t) = accepted (record { total = t.total; changes = t.changes })
tailed_of (S.Err r) = refusal r

-- a call that is `m` on the machine and leaves the bytes `left`: its answer, and the bytes `new` after it
pub record Leaves (m : Result (List ℕ)) (left : List ℕ) (r : S.Result (Unit {0}) Refusal) (new : List ℕ) : Type 0 where
  pub answer : outcome_of r ≡ blank m
  pub bytes : new ≡ left

-- one that writes an image over `old`, and one that prints over `old`
abbrev pub Starts : Result (List ℕ) → List ℕ → S.Result (Unit {0}) Refusal → List ℕ → Type 0
Starts m old r new = Leaves m (written m old) r new

abbrev pub Prints : Result (List ℕ) → List ℕ → S.Result (Unit {0}) Refusal → List ℕ → Type 0
Prints m old r new = Leaves m (printed m old) r new

-- a fresh on the image `old`
abbrev pub Freshens : List ℕ → S.Result (Unit {0}) Refusal → List ℕ → Type 0
Freshens old r new = Starts (F.fresh_of known 1 old) old r new

-- a move of an image into the target `old`, to the new form and to document 01's
abbrev pub Attaches : List ℕ → List ℕ → S.Result (Unit {0}) Refusal → List ℕ → Type 0
Attaches img old r new = Starts (attach_of known 1 img old) old r new

abbrev pub Detaches : List ℕ → List ℕ → S.Result (Unit {0}) Refusal → List ℕ → Type 0
Detaches img old r new = Starts (detach_of known 1 img old) old r new

-- a merge of two images into the target `old`
abbrev pub Merges : List ℕ → List ℕ → List ℕ → S.Result (Unit {0}) Refusal → List ℕ → Type 0
Merges a b old r new = Leaves (F.merge_of known a b old) (F.target_of known a (F.merge_of known a b old) old) r new

-- the occupancy page p of an image into the output `old`
abbrev pub Occupancies : List ℕ → ℕ → List ℕ → S.Result (Unit {0}) Refusal → List ℕ → Type 0
Occupancies img p old r new = Prints (F.occupancy_of known img p (length old)) old r new
