-- An answer packed into one number, number × 2^56 + value, and the value of each call's answer.
use Rattle.std.specs.Prelude.{◌≡◌, ℕ, ◌+◌, ◌*◌, ◌/◌, ◌%◌, ◌^◌, ◌<◌, length}
use Rattle.machine.specs.Results.{Result, accepted, refused}
use Rattle.machine.specs.Machine.{Asked, Counted, Place, nowhere, front, first, second}
use Rattle.machine.specs.Pages.{Run}
use Rattle.machine.specs.Rows.{Row}
use Rattle.answers.specs.Pairs.{said_of}
use Rattle.answers.specs.Rows.{place_number, slot_number}
use Rattle.answers.specs.declared.pairs.Said.{Said}

abbrev pub pack : Said → ℕ
pack s = s.number * 2 ^ 56 + s.value

-- a result by the value of its answer
abbrev pub packed : {A : Type 0} → (A → ℕ) → Result A → ℕ
packed v r = pack (said_of v r)

-- a result whose number is below 256 and whose value is below n, so that packing loses nothing at n = 2^56
pub data Within {A : Type 0} (v : A → ℕ) (n : ℕ) : Result A → Type 0 where
  taken : {a : A} → v a < n → Within v n (accepted a)
  barred : {m i : ℕ} → m < 256 → i < n → Within v n (refused m i)

pub record Packs (s : Said) : Type 0 where
  pub number : s.number < 256
  pub value : s.value < 2 ^ 56

-- ---- values

-- fresh, check, merge, a move, a tail and an occupancy page: 0
abbrev pub nothing : {A : Type 0} → A → ℕ
nothing a = 0

-- ask: reads + 16 × place + 256 × slot + 2^16 × copies, place 0 none, 1 front, 2 first, 3 second
abbrev pub place_word : Place → ℕ
place_word nowhere = 0
place_word (front i) = 16 + 256 * i
place_word (first i) = 32 + 256 * i
place_word (second i) = 48 + 256 * i

abbrev pub ask_word : Asked → ℕ
ask_word a = a.reads + place_word a.place + 2 ^ 16 * a.copies

-- what the header's macros take out of it again
pub record Unpacks (w : ℕ) (a : Asked) : Type 0 where
  pub reads : w % 16 ≡ a.reads
  pub place : w / 16 % 16 ≡ place_number a.place
  pub slot : w / 256 % 256 ≡ slot_number a.place
  pub copies : w / 2 ^ 16 ≡ a.copies

-- count: copies + 2^32 × reads
abbrev pub count_word : Counted → ℕ
count_word c = c.copies + 2 ^ 32 * c.reads

-- page: how many + 2^32 × next
abbrev pub extent_word : ℕ × ℕ → ℕ
extent_word e = e.0 + 2 ^ 32 * e.1

abbrev pub run_word : Run → ℕ
run_word r = extent_word (length r.entries, r.next)

-- row: the total
abbrev pub row_word : Row → ℕ
row_word r = r.total
