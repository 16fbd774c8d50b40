-- What reading a tail and opening an image say.
use Rattle.std.specs.Prelude.{◌≡◌, ℕ, ◌-◌, ◌≤◌, cond, ◌&&◌, List, length, drop, get_or, leb, eqb}
use Rattle.std.specs.Prelude as S
use Rattle.multiset.specs.Multisets.{all_zero}
use Rattle.crumbmap.specs.Layouts.{layout1, known}
use Rattle.machine.specs.Results.{accepted, refused}
use Rattle.form.specs.Tails.{Header, body, tail_in, headed, opened}
use Rattle.answers.specs.Answers.{refusal}
use Rattle.answers.specs.declared.Refusal.{Refusal}
use Rattle.answers.specs.declared.Tail.{Tail}
use Rattle.image.specs.Steps.ImageReads.{Whole}
use Rattle.tails.specs.declared.Opened.{Opened}

-- a tail as the code reads it: layout 1 in byte 16, noughts behind it, and at most so many members
unfoldable pub tail_reading_of : ℕ → List ℕ → S.Option Tail
tail_reading_of most b =
    cond (eqb (get_or b 16 0) 1 && all_zero (drop 17 b) && leb (tail_in b).total most)
    (S.Some (record { total = (tail_in b).total; changes = (tail_in b).changes })) S.None

-- the header of an image of layout 1
abbrev pub header_of : ℕ → ℕ → ℕ → Header
header_of B total changes = record { size = B; number = 1; layout = layout1; tail = record { total = total; changes = changes } }

-- what the tail of an image of size B says
abbrev pub TailSays : ℕ → List ℕ → S.Option Tail → Type 0
TailSays B img (S.Some t) = headed known B img ≡ accepted (header_of B t.total t.changes)
TailSays B img S.None = headed known B img ≡ refused 11 0

-- an image that was opened
pub record Opens (o : Opened) (img : List ℕ) : Type 0 where
  pub long : 64 ≤ length img
  pub end : o.end ≡ length img - 64
  pub whole : Whole o.size (body img)
  pub header : headed known o.size img ≡ accepted (header_of o.size o.total o.changes)

-- opened, or the refusal that comes before any other
abbrev pub OpenSays : List ℕ → S.Result Opened Refusal → Type 0
OpenSays img (S.Ok o) = Opens o img
OpenSays img (S.Err r) = opened known img ≡ refusal r
