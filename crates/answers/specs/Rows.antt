-- A row of asks on lent entries: what an entry receives, the code's answer, and the entries after the call, refused or not.
use Rattle.std.specs.Prelude.{◌≡◌, ℕ, ◌^◌, List, [], ◌∷◌, map}
use Rattle.std.specs.Prelude as S
use Rattle.multiset.specs.Multisets.{Below}
use Rattle.crumbmap.specs.Layouts.{known}
use Rattle.machine.specs.Results.{Result, accepted, refused, and_then}
use Rattle.machine.specs.Machine.{Asked, Place, nowhere, front, first, second}
use Rattle.machine.specs.Rows.{Row}
use Rattle.form.specs.Calls.{row_of}
use Rattle.answers.specs.Answers.{refusal}
use Rattle.answers.specs.declared.Entry.{Entry}
use Rattle.answers.specs.declared.Refusal.{Refusal}

-- a place as two numbers: 0 none, 1 front, 2 first, 3 second; and its slot, 0 where none
abbrev pub place_number : Place → ℕ
place_number nowhere = 0
place_number (front i) = 1
place_number (first i) = 2
place_number (second i) = 3

abbrev pub slot_number : Place → ℕ
slot_number nowhere = 0
slot_number (front i) = i
slot_number (first i) = i
slot_number (second i) = i

-- "each entry holding its hash and receiving its place and reads", and the copies
abbrev pub received_of : Entry → Asked → Entry
received_of e a = record { hash = e.hash; reads = a.reads; place = place_number a.place; slot = slot_number a.place; copies = a.copies }

abbrev pub hashes : List Entry → List ℕ
hashes es = map (λ (e : Entry). e.hash) es

-- each entry with its answer
abbrev pub received_all : List Entry → List Asked → List Entry
received_all [] rs = []
received_all (e ∷ es) [] = e ∷ es
received_all (e ∷ es) (a ∷ rs) = received_of e a ∷ received_all es rs

-- the entries after a row; each number "keeps every lent byte"
abbrev pub entries_of : Result Row → List Entry → List Entry
entries_of (accepted r) es = received_all es r.answers
entries_of (refused n i) es = es

abbrev pub rowed_of : S.Result ℕ Refusal → Result ℕ
rowed_of (S.Ok n) = accepted n
rowed_of (S.Err r) = refusal r

-- the machine's result without the answers
abbrev pub total_of : Result Row → Result ℕ
total_of r = and_then r λ w. accepted w.total

-- a row of asks of the entries `old`, which hold hashes of 64 bits: its answer, and the entries `new` after it
pub record Rows (img : List ℕ) (old : List Entry) (r : S.Result ℕ Refusal) (new : List Entry) : Type 0 where
  pub held : Below (2 ^ 64) (hashes old)
  pub answer : rowed_of r ≡ total_of (row_of known img (hashes old))
  pub entries : new ≡ entries_of (row_of known img (hashes old)) old
