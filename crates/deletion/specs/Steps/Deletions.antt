-- What the steps of delete ask and say: its plan, a copy in front, and a member that leaves the backyard.
use Rattle.std.specs.Prelude.{◌≡◌, ℕ, ◌+◌, ◌*◌, ◌<◌, Bool, true, false, cond, List, length, ltb}
use Rattle.std.specs.Prelude as S
use Rattle.std.proofs.Math.Option.{Option, none, some}
use Rattle.multiset.specs.Multisets.{added, removed, below, copies, Found, found_in}
use Rattle.crumbmap.specs.Layouts.{Layout, keys}
use Rattle.crumbmap.specs.CrumbMap.{first_bucket, second_bucket}
use Rattle.crumbmap.specs.Steps.Places.{Leads}
use Rattle.crumbmap.specs.declared.Overflow.{Overflow}
use Rattle.buckets.specs.Buckets.{carrying}
use Rattle.search.specs.Steps.Searches.{first_of}
use Rattle.search.specs.declared.Carried.{Carried}
use Rattle.machine.specs.Images.{in_front, in_back, put_front, put_back}
use Rattle.machine.specs.Bags.{from_first}
use Rattle.machine.specs.Machine.{changed, bag_in, delete_at}
use Rattle.answers.specs.Answers.{refusal, Changes}
use Rattle.answers.specs.declared.Refusal.{Refusal}
use Rattle.image.specs.declared.Target.{Target}
use Rattle.image.specs.Steps.ImageReads.{At, Placed, FrontRead, BackRead, FrontFull, FrontSwapAt}
use Rattle.tails.specs.Steps.Changing.{within}
use Rattle.deletion.specs.declared.Departure.{Departure}
use Rattle.deletion.specs.declared.Refill.{Refill}
use Rattle.deletion.specs.declared.DeletePlan.{DeletePlan}
use Rattle.deletion.specs.declared.DeletePlan.TheVariants as P

-- ---- the member that leaves the backyard

-- of two members, one of First(f) and one of Second(f), the smaller; of equal ones "from First if n0 > n1, else from Second"
abbrev pub pick_of : S.Option Departure → S.Option Departure → ℕ → ℕ → S.Option Departure
pick_of S.None s n0 n1 = s
pick_of (S.Some a) S.None n0 n1 = S.Some a
pick_of (S.Some a) (S.Some b) n0 n1 =
    cond (ltb a.key b.key) (S.Some a) (cond (ltb b.key a.key) (S.Some b) (cond (ltb n1 n0) (S.Some a) (S.Some b)))

-- the first key of a crumb, as a member that leaves
abbrev pub departing : Overflow → S.Option Carried → S.Option Departure
departing w (S.Some c) = S.Some (record { way = w; slot = c.slot; key = c.key })
departing w S.None = S.None

-- where a key was found, as a copy that leaves
abbrev pub leaving : Overflow → ℕ → Option Found → S.Option Departure
leaving w x none = S.None
leaving w x (some s) = S.Some (record { way = w; slot = s.slot; key = x })

module _ (L : Layout) where
  -- the smallest member of a backyard bucket that carries a crumb
  abbrev pub least_in : ℕ → Overflow → List ℕ → S.Option Departure
  least_in B w img = let ys : List ℕ = in_back L B w.bucket.0 img in departing w (first_of w.crumb ys (carrying w.crumb ys))

  -- a copy of key x with the crumb, the lowest in a backyard bucket
  abbrev pub copy_in : ℕ → ℕ → Overflow → List ℕ → S.Option Departure
  copy_in B x w img = leaving w x (found_in (x * 16 + w.crumb) (in_back L B w.bucket.0 img))

  -- a member stands in its backyard bucket, the lowest copy at its slot
  pub record Stands (B : ℕ) (d : Departure) (img : List ℕ) : Type 0 where
    pub back : BackRead L B d.way.bucket.0 img
    pub there : 0 < copies (d.key * 16 + d.way.crumb) (in_back L B d.way.bucket.0 img)
    pub slot : d.slot ≡ below (d.key * 16 + d.way.crumb) (in_back L B d.way.bucket.0 img)
    pub crumb : d.way.crumb < 16
    pub key : d.key < keys L

  -- "a value standing in both First and Second is taken from First if n0 > n1, else from Second"
  abbrev pub firstly : ℕ → ℕ → ℕ → List ℕ → Bool
  firstly B f v img =
      from_first v (bag_in L B f true img) (bag_in L B f false img) (length (in_back L B (first_bucket f) img)) (length (in_back L B (second_bucket B f) img))

  -- it leaves First(f) or Second(f), by that choice
  pub record Leaves (B f : ℕ) (d : Departure) (img : List ℕ) : Type 0 where
    pub choice : Bool
    pub leads : Leads choice B f d.way
    pub chosen : firstly B f d.key img ≡ choice
    pub stands : Stands B d img

  -- the image without it
  unfoldable pub without : ℕ → Departure → List ℕ → List ℕ
  without B d img =
      put_back L B d.way.bucket.0 (removed (d.key * 16 + d.way.crumb) (in_back L B d.way.bucket.0 img)) img

  -- ---- the plan

  -- a delete at a target, as the machine has it, where the total has room or not
  abbrev pub DeletesAt : Target → Bool → List ℕ → S.Result ℕ Refusal → List ℕ → Type 0
  DeletesAt t room old r new = Changes (within room (delete_at L t.size t.front.0 t.key old)) old r new

  -- a front bucket of n members, none of them the key
  pub record Elsewhere (t : Target) (n : ℕ) (img : List ℕ) : Type 0 where
    pub placed : Placed L t img
    pub read : FrontRead L t.front.0 img
    pub many : length (in_front L t.front.0 img) ≡ n
    pub absent : copies t.key (in_front L t.front.0 img) ≡ 0

  -- a full front bucket with a copy of the key at a slot
  pub record FullWith (t : Target) (slot : ℕ) (img : List ℕ) : Type 0 where
    pub placed : Placed L t img
    pub whole : FrontFull L t.front.0 img
    pub here : At t.key slot (in_front L t.front.0 img)

  -- the copy at a slot in front leaves, and that is the machine's delete
  pub record LeavesFront (t : Target) (slot : ℕ) (img : List ℕ) : Type 0 where
    pub read : FrontRead L t.front.0 img
    pub here : At t.key slot (in_front L t.front.0 img)
    pub delete : delete_at L t.size t.front.0 t.key img ≡ changed 0 (put_front L t.front.0 (removed t.key (in_front L t.front.0 img)) img)

  -- the image after a member from behind took the room of a copy in front
  unfoldable pub refilled : Target → Departure → List ℕ → List ℕ
  refilled t d img =
      put_back L t.size d.way.bucket.0 (removed (d.key * 16 + d.way.crumb) (in_back L t.size d.way.bucket.0 img))
      (put_front L t.front.0 (added d.key (removed t.key (in_front L t.front.0 img))) img)

  -- it can, and that is the machine's delete
  pub record Refills (t : Target) (r : Refill) (img : List ℕ) : Type 0 where
    pub placed : Placed L t img
    pub swap : FrontSwapAt L t.front.0 r.slot t.key r.to r.member.key img
    pub stands : Stands t.size r.member img
    pub delete : delete_at L t.size t.front.0 t.key img ≡ changed (1 + r.member.way.bucket.0) (refilled t r.member img)

  -- a copy behind leaves, and that is the machine's delete
  pub record TakesOut (t : Target) (d : Departure) (img : List ℕ) : Type 0 where
    pub stands : Stands t.size d img
    pub delete : delete_at L t.size t.front.0 t.key img ≡ changed (1 + d.way.bucket.0) (without t.size d img)

  -- what a plan says
  abbrev pub Plans : Target → List ℕ → S.Result DeletePlan Refusal → Type 0
  Plans t img (S.Err why) = delete_at L t.size t.front.0 t.key img ≡ refusal why
  Plans t img (S.Ok (P.Leaves slot)) = LeavesFront t slot img
  Plans t img (S.Ok (P.Refills r)) = Refills t r img
  Plans t img (S.Ok (P.TakesOut d)) = TakesOut t d img
