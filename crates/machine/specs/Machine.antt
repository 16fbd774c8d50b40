-- The plain machine at one front bucket f, by key x: insert, delete, ask, count, and the members that a page and a merge list.
-- Each is a chain of reads in document 01's order; any read may refuse, and only an accepted call has an image to leave.
use Rattle.std.specs.Prelude.{ℕ, ◌+◌, ◌*◌, Bool, true, false, cond, ◌&&◌, List, [], ◌∷◌, length, leb, ltb, eqb}
use Rattle.std.proofs.Math.Option.{Option, none, some}
use Rattle.multiset.specs.Multisets.{added, removed, copies, Found, found_in, largest}
use Rattle.crumbmap.specs.Layouts.{Layout}
use Rattle.crumbmap.specs.CrumbMap.{first_bucket, second_bucket, first_crumb, second_crumb, bucket_of, crumb_of, coincide}
use Rattle.buckets.specs.Buckets.{carrying}
use Rattle.machine.specs.Results.{Result, accepted, refused, and_then, or_refused}
use Rattle.machine.specs.Images.{front_at, back_at, in_back, put_front, put_back}
use Rattle.machine.specs.Bags.{added_all, has, from_first}

-- an insert's or a delete's answer, and the image after it
pub record Change : Type 0 where
  pub answer : ℕ
  pub image : List ℕ

abbrev pub changed : ℕ → List ℕ → Result Change
changed a img = accepted (record { answer = a; image = img })

-- "a place: none, front, first or second, the last three with the lowest slot of g in that bag"
pub data Place : Type 0 where
  nowhere : Place
  front first second : ℕ → Place

-- "an ask gives its reads and a place" and the copies, "0 for none": those "in the one bag where the ask ended"
pub record Asked : Type 0 where
  pub reads : ℕ
  pub place : Place
  pub copies : ℕ

-- an ask that ended after n reads with what it found in a bag, and one that found nothing
abbrev pub asked : ℕ → (ℕ → Place) → Found → Result Asked
asked n bag s = accepted (record { reads = n; place = bag s.slot; copies = s.copies })

abbrev pub denied : ℕ → Result Asked
denied n = accepted (record { reads = n; place = nowhere; copies = 0 })

-- "count gives copies and reads"
pub record Counted : Type 0 where
  pub reads : ℕ
  pub copies : ℕ

abbrev pub counted : ℕ → ℕ → Result Counted
counted n c = accepted (record { reads = n; copies = c })

-- what was sought, or what to do where it is not there
abbrev pub found : {A : Type 0} → Option Found → (Found → Result A) → Result A → Result A
found none at other = other
found (some s) at other = at s

-- how many members a bucket has
abbrev pub occupancy : Result (List ℕ) → ℕ
occupancy (accepted xs) = length xs
occupancy (refused n i) = 0

-- which backyard bucket takes an overflow, by n0 and n1: "If both hold 22: full. Else .. First(f) if n0 < n1, else .. Second(f)"
unfoldable pub taker : Layout → ℕ → ℕ → Option Bool
taker L n0 n1 = cond (eqb n0 L.back_slots && eqb n1 L.back_slots) none (some (ltb n0 n1))

-- how many buckets are read by who looks into both bags behind front bucket f: where b0 = b1, "an ask that would read this bucket a second time
-- no longer does: it counts at most 2, a count 2 likewise" (C-17)
unfoldable pub reads_behind : ℕ → ℕ → ℕ
reads_behind B f = cond (coincide B f) 2 3

module _ (L : Layout) (B f : ℕ) where
  -- "b0 and b1 are read"
  abbrev pub backyard : List ℕ → Result (List ℕ × List ℕ)
  backyard img =
      and_then (back_at L B (first_bucket f) img) λ ys.
      and_then (back_at L B (second_bucket B f) img) λ zs.
      accepted (ys, zs)

  -- v joins one of the backyard buckets b, in an image whose front bucket is done; "1 + the backyard number that took the overflow"
  unfoldable pub take_in : ℕ → List ℕ × List ℕ → List ℕ → Result Change
  take_in v b img =
      and_then (or_refused 4 (taker L (length b.0) (length b.1))) λ t.
      changed (1 + bucket_of t B f) (put_back L B (bucket_of t B f) (added (v * 16 + crumb_of t f) (cond t b.0 b.1)) img)

  -- v leaves the backyard buckets b, in an image whose front bucket is done; "1 + the backyard number a member left"
  unfoldable pub take_out : ℕ → List ℕ × List ℕ → List ℕ → Result Change
  take_out v b img =
      let t : Bool = from_first v (carrying (first_crumb f) b.0) (carrying (second_crumb f) b.1) (length b.0) (length b.1) in
      changed (1 + bucket_of t B f) (put_back L B (bucket_of t B f) (removed (v * 16 + crumb_of t f) (cond t b.0 b.1)) img)

  -- "If Front(f) has fewer than 28, g joins it. Otherwise read b0 and b1. If both hold 22: full. Else the largest of
  -- Front(f) and g goes to First(f) if n0 < n1, else to Second(f); the rest are Front(f)."
  unfoldable pub insert_at : ℕ → List ℕ → Result Change
  insert_at x img =
      and_then (front_at L f img) λ xs.
      cond (ltb (length xs) L.front_slots) (changed 0 (put_front L f (added x xs) img))
      (and_then (backyard img) λ b.
      let over : ℕ = largest (added x xs) in
      take_in over b (put_front L f (removed over (added x xs)) img))

  -- First(f) and Second(f) together
  unfoldable pub overflow : List ℕ × List ℕ → List ℕ
  overflow b = added_all (carrying (first_crumb f) b.0) (carrying (second_crumb f) b.1)

  -- First(f), or Second(f), and both together, in an image in which b0 and b1 are sound
  abbrev pub bag_in : Bool → List ℕ → List ℕ
  bag_in t img = carrying (crumb_of t f) (in_back L B (bucket_of t B f) img)

  abbrev pub overflow_in : List ℕ → List ℕ
  overflow_in img = added_all (bag_in true img) (bag_in false img)

  -- "the smallest member of First(f) and Second(f), if any, refills it"
  unfoldable pub refill : List ℕ → List ℕ → List ℕ × List ℕ → List ℕ → Result Change
  refill xs [] b img = changed 0 (put_front L f xs img)
  refill xs (v ∷ vs) b img = take_out v b (put_front L f (added v xs) img)

  -- "If g is in Front(f), one copy goes. If Front(f) held 28, b0 and b1 are read .. If g is not in Front(f), and Front(f)
  -- holds 28 and g exceeds its largest, b0 and b1 are read and one copy goes from there; else absent."
  unfoldable pub delete_at : ℕ → List ℕ → Result Change
  delete_at x img =
      and_then (front_at L f img) λ xs.
      cond (has x xs)
      (cond (ltb (length xs) L.front_slots) (changed 0 (put_front L f (removed x xs) img))
      (and_then (backyard img) λ b. refill (removed x xs) (overflow b) b img))
      (cond (eqb (length xs) L.front_slots && ltb (largest xs) x)
      (and_then (backyard img) λ b. cond (has x (overflow b)) (take_out x b img) (refused 5 0))
      (refused 5 0))

  -- an ask that comes to Second(f), the last bag
  unfoldable pub ask_second : ℕ → List ℕ → Result Asked
  ask_second x img =
      and_then (back_at L B (second_bucket B f) img) λ zs.
      found (found_in (x * 16 + second_crumb f) zs) (asked (reads_behind B f) second) (denied (reads_behind B f))

  -- "reads the front bucket; if g is not there, and Front(f) holds 28 and g exceeds its largest, b0, then, if not found, b1"
  unfoldable pub ask_at : ℕ → List ℕ → Result Asked
  ask_at x img =
      and_then (front_at L f img) λ xs.
      found (found_in x xs) (asked 1 front)
      (cond (eqb (length xs) L.front_slots && ltb (largest xs) x)
      (and_then (back_at L B (first_bucket f) img) λ ys.
      found (found_in (x * 16 + first_crumb f) ys) (asked 2 first) (ask_second x img))
      (denied 1))

  -- "those in Front(f), 1 read; if Front(f) holds 28 and g is not below its largest, those in First(f) and Second(f) too, 3 reads";
  -- 2 where b0 = b1
  unfoldable pub count_at : ℕ → List ℕ → Result Counted
  count_at x img =
      and_then (front_at L f img) λ xs.
      cond (eqb (length xs) L.front_slots && leb (largest xs) x)
      (and_then (backyard img) λ b.
      counted (reads_behind B f) (copies x xs + copies (x * 16 + first_crumb f) b.0 + copies (x * 16 + second_crumb f) b.1))
      (counted 1 (copies x xs))

  -- the members of f, ascending: "b0 and b1 are read where Front holds 28; elsewhere the members are those of Front alone"
  unfoldable pub members_at : List ℕ → Result (List ℕ)
  members_at img =
      and_then (front_at L f img) λ xs.
      cond (ltb (length xs) L.front_slots) (accepted xs)
      (and_then (backyard img) λ b. accepted (added_all xs (overflow b)))

  -- "full": Front(f) and both of its backyard buckets have no slot left
  unfoldable pub full : List ℕ → Bool
  full img =
      eqb (occupancy (front_at L f img)) L.front_slots
      && eqb (occupancy (back_at L B (first_bucket f) img)) L.back_slots
      && eqb (occupancy (back_at L B (second_bucket B f) img)) L.back_slots
