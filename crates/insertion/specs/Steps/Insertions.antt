-- What the steps of insert ask and say: its plan, and the overflow of a full front bucket with the backyard bucket that takes it.
use Rattle.std.specs.Prelude.{◌≡◌, ℕ, ◌+◌, ◌*◌, Bool, true, false, List}
use Rattle.std.specs.Prelude as S
use Rattle.std.proofs.Math.Option.{Option, none, some}
use Rattle.multiset.specs.Multisets.{added, removed, below, largest}
use Rattle.crumbmap.specs.Layouts.{Layout}
use Rattle.crumbmap.specs.declared.Overflow.{Overflow}
use Rattle.machine.specs.Images.{in_front, in_back, put_front, put_back}
use Rattle.machine.specs.Machine.{changed, insert_at}
use Rattle.answers.specs.Answers.{refusal, Changes}
use Rattle.answers.specs.declared.Refusal.{Refusal}
use Rattle.image.specs.declared.Target.{Target}
use Rattle.image.specs.declared.BackReading.{BackReading}
use Rattle.image.specs.Steps.ImageReads.{Placed, FrontFull, FrontJoin, BackJoin}
use Rattle.tails.specs.Steps.Changing.{within}
use Rattle.insertion.specs.declared.Choice.{Choice}
use Rattle.insertion.specs.declared.Choice.TheVariants as C
use Rattle.insertion.specs.declared.InsertPlan.{InsertPlan}
use Rattle.insertion.specs.declared.InsertPlan.TheVariants as P
use Rattle.insertion.specs.declared.Spilling.{Spilling}

-- the taker of an overflow, as the code names it
abbrev pub taking_of : Option Bool → S.Option Choice
taking_of none = S.None
taking_of (some true) = S.Some C.First
taking_of (some false) = S.Some C.Second

-- the plan by which an overflow goes to the backyard bucket of a reading
abbrev pub spilling_to : ℕ → ℕ → BackReading → InsertPlan
spilling_to over slot r = P.Spills (record { over = over; slot = slot; way = r.way; to = r.below })

module _ (L : Layout) where
  -- an insert at a target, as the machine has it, where the total has room or not
  abbrev pub InsertsAt : Target → Bool → List ℕ → S.Result ℕ Refusal → List ℕ → Type 0
  InsertsAt t room old r new = Changes (within room (insert_at L t.size t.front.0 t.key old)) old r new

  -- the target's front bucket is full, and so many of its members are below the key
  pub record FullAt (t : Target) (slot : ℕ) (img : List ℕ) : Type 0 where
    pub placed : Placed L t img
    pub whole : FrontFull L t.front.0 img
    pub rank : slot ≡ below t.key (in_front L t.front.0 img)

  -- the largest of the target's front bucket and its key
  abbrev pub overflow_at : Target → List ℕ → ℕ
  overflow_at t img = largest (added t.key (in_front L t.front.0 img))

  -- the image after it went to backyard bucket and crumb w
  unfoldable pub spilled : Target → Overflow → List ℕ → List ℕ
  spilled t w img =
      let over : ℕ = overflow_at t img in
      put_back L t.size w.bucket.0 (added (over * 16 + w.crumb) (in_back L t.size w.bucket.0 img))
      (put_front L t.front.0 (removed over (added t.key (in_front L t.front.0 img))) img)

  -- it can go there, and that is the machine's insert
  pub record Spills (t : Target) (s : Spilling) (img : List ℕ) : Type 0 where
    pub full : FullAt t s.slot img
    pub over : s.over ≡ overflow_at t img
    pub joins : BackJoin L t.size s.way.bucket.0 s.to (s.over * 16 + s.way.crumb) img
    pub insert : insert_at L t.size t.front.0 t.key img ≡ changed (1 + s.way.bucket.0) (spilled t s.way img)

  -- what a plan says
  abbrev pub Plans : Target → List ℕ → S.Result InsertPlan Refusal → Type 0
  Plans t img (S.Err why) = insert_at L t.size t.front.0 t.key img ≡ refusal why
  Plans t img (S.Ok (P.Joins slot)) = FrontJoin L t.front.0 slot t.key img
  Plans t img (S.Ok (P.Spills s)) = Spills t s img
