-- Keys put into a front bucket one after the other: inserts are one front write, of what stays, and then pushes of what goes.
-- Main results: `inserts-spill`; `push_all-append` and `push_all-next`.
use mathlib.Core.Path.{◌≡◌, refl, sym, ◌∙◌, ap}
use Prim.Native.Nat.{ℕ, suc, ◌+◌, ◌*◌, ◌≤◌, ◌<◌}
use mathlib.Core.Bool.{Bool, true, false, cond}
use mathlib.Core.List.{List, [], ◌∷◌, ◌++◌}
use native.Mathlib.Numerals.{add-one}
use native.Mathlib.Omega.{arith}
use native.Mathlib.Decide.{dec_le}
use lib.ListN.{length, drop, get_or}
use lib.Seq.{drop-cons}
use lib.Dec.{ltb}
use Rattle.multiset.specs.Multisets.{added, removed, largest, Below}
use Rattle.crumbmap.specs.Layouts.{Layout, keys, fronts}
use Rattle.crumbmap.specs.CrumbMap.{bucket_of, crumb_of}
use Rattle.crumbmap.proofs.CrumbMapLaws.{bucket_of-lt}
use Rattle.buckets.specs.Buckets.{Fits64, FrontList, BackList}
use Rattle.machine.specs.Results.{Result, accepted, refused, and_then}
use Rattle.machine.specs.Images.{front_at, back_at, in_back, put_front, put_back}
use Rattle.machine.specs.Machine.{Change, changed, take_in, insert_at}
use Rattle.machine.specs.Merges.{insert_all}
use Rattle.machine.specs.Steps.Spills.{stays, goes, push_at, push_all}
use Rattle.machine.proofs.AcceptedLaws.{same_answer, never-refused}
use Rattle.machine.proofs.ImageLaws.{in_front-read}
use Rattle.machine.proofs.BucketWrites.{length-put_front, front_at-put_front, back_at-put_front, front_at-put_back, put_front-put, put_front-put_back}
use Rattle.machine.proofs.Invariant.{Good}
use Rattle.machine.proofs.OverflowLaws.{bucket_of-read, backyard-good, bucket_of-list}
use Rattle.machine.proofs.ChoiceLaws.{chosen-allowed}
use Rattle.machine.proofs.Members.{cond-choice, front_list-added, back_list-added}
use Rattle.machine.proofs.Changes.{good-front-inside, good-back-inside}
use Rattle.machine.proofs.TakeLaws.{TakesIn, refuses, takes, take_in-full, take_in-on, take_in-cases, backyard-read, push_at-read, insert_at-room, insert_at-over}
use Rattle.machine.proofs.InsertLaws.{Inserted, took, stuck, insert-keeps}
use Rattle.machine.proofs.StayLaws.{stays-room, stays-full, goes-room, goes-full, stays-list, top-range, rest-list}

module _ (L : Layout) (B f : ℕ) where
  pub push_all-append : (xs ys img : List ℕ) → push_all L B f (xs ++ ys) img ≡ and_then (push_all L B f xs img) (push_all L B f ys)
  unfolding push_all
  push_all-append [] ys img = refl
  push_all-append (x ∷ xs) ys img = go (push_at L B f x img) (push_all-append xs ys)
    where
      go : (r : Result Change) → ((now : List ℕ) → push_all L B f (xs ++ ys) now ≡ and_then (push_all L B f xs now) (push_all L B f ys))
          → and_then r (λ c. push_all L B f (xs ++ ys) c.image) ≡ and_then (and_then r (λ c. push_all L B f xs c.image)) (push_all L B f ys)
      go (accepted c) k = k c.image
      go (refused n i) k = refl

  pub push_all-one : (x : ℕ) (img : List ℕ) → push_all L B f (x ∷ []) img ≡ and_then (push_at L B f x img) (λ c. accepted c.image)
  unfolding push_all
  push_all-one x img = refl

  -- the key at i comes next
  pub push_all-next : (i : ℕ) (vs img : List ℕ) → i < length vs
      → push_all L B f (drop i vs) img ≡ and_then (push_all L B f (get_or vs i 0 ∷ []) img) (push_all L B f (drop (i + 1) vs))
  push_all-next i vs img l = rw (drop-cons vs i 0 l, add-one i) (push_all-append (get_or vs i 0 ∷ []) (drop (suc i) vs) img)

-- ---- inserts as one front write and pushes

module _ (L : Layout) (fits : Fits64 L) (B f : ℕ) (h : f < fronts B) where
  abbrev Spilled : List ℕ → List ℕ → List ℕ → Type 0
  Spilled xs ws img = insert_all L B f xs img ≡ push_all L B f (goes L.front_slots xs ws) (put_front L f (stays L.front_slots xs ws) img)

  module _ (img : List ℕ) (good : Good L B img) where
    abbrev ys : Bool → List ℕ
    ys t = in_back L B (bucket_of t B f) img

    inside : 64 * f + 64 ≤ length img
    inside = good-front-inside L B f img good h

    -- a push behind any front list
    push-behind : (v : ℕ) (zs : List ℕ) → FrontList L zs
        → push_at L B f v (put_front L f zs img) ≡ take_in L B f v (ys true, ys false) (put_front L f zs img)
    push-behind v zs list =
        push_at-read L B f v (put_front L f zs img) (ys true) (ys false)
        (backyard-read L B f (ys true) (ys false) (put_front L f zs img) (read true) (read false))
      where
        read : (t : Bool) → back_at L B (bucket_of t B f) (put_front L f zs img) ≡ accepted (ys t)
        read t = back_at-put_front L fits f zs img inside list B (bucket_of t B f) h ∙ bucket_of-read L B f img good h t

    -- one more key x put in
    module _ (x : ℕ) (ws : List ℕ) (read : front_at L f img ≡ accepted ws) (k : x < keys L) where
      list : FrontList L ws
      list = rw (in_front-read L f img ws read) at (good.front_good f h)

      abbrev most : ℕ
      most = largest (added x ws)

      abbrev kept : List ℕ
      kept = removed most (added x ws)

      kept-list : FrontList L kept
      kept-list = rest-list L x ws list k

      -- an insert that was accepted keeps the image good
      good-after : {c : Change} → insert_at L B f x img ≡ accepted c → Good L B c.image
      good-after {c} e = go (insert-keeps L fits B f x img good h k)
        where
          go : Inserted L B f x img → Good L B c.image
          go (took a end q full g m) = let s : record { answer = a; image = end } ≡ c = same_answer (sym q ∙ e) in rw (← s) g
          go (stuck q full) = absurd (never-refused (sym e ∙ q))

      -- ---- a slot is left in front

      abbrev wider : List ℕ
      wider = put_front L f (added x ws) img

      spill-room : (xs : List ℕ) → length ws < L.front_slots → Spilled xs (added x ws) wider → Spilled (x ∷ xs) ws img
      unfolding insert_all
      spill-room xs r ih =
          rw (insert_at-room L B f x img ws read r, goes-room L.front_slots x xs ws r, stays-room L.front_slots x xs ws r)
          (ih ∙ ap (push_all L B f (goes L.front_slots xs (added x ws)))
          (put_front-put L fits f (added x ws) img inside (front_list-added L x ws list k r) (stays L.front_slots xs (added x ws))))

      -- ---- none is left in front

      module _ (l : L.front_slots ≤ length ws) where
        insert-over : insert_at L B f x img ≡ take_in L B f most (ys true, ys false) (put_front L f kept img)
        insert-over = insert_at-over L B f x img ws (ys true) (ys false) read l (backyard-good L B f img good h)

        -- nor behind
        spill-full : (xs : List ℕ) → Below (keys L) xs → length (ys true) ≡ L.back_slots → length (ys false) ≡ L.back_slots → Spilled (x ∷ xs) ws img
        unfolding insert_all push_all
        spill-full xs b p q =
            let zs : List ℕ = stays L.front_slots xs kept in
            rw (
              insert-over,
              take_in-full L B f most (ys true) (ys false) (put_front L f kept img) p q,
              goes-full L.front_slots x xs ws l,
              stays-full L.front_slots x xs ws l,
              push-behind most zs (stays-list L xs kept kept-list b),
              take_in-full L B f most (ys true) (ys false) (put_front L f zs img) p q,
            )

        -- the largest goes behind, by choice t
        module _ (t : Bool) (e : ltb (length (ys true)) (length (ys false)) ≡ t) (r : length (cond t (ys true) (ys false)) < L.back_slots) where
          abbrev behind : List ℕ
          behind = added (most * 16 + crumb_of t f) (ys t)

          behind-list : BackList L B (bucket_of t B f) behind
          behind-list =
              back_list-added L B f most t (ys t) (bucket_of-list L B f img good h t) h
              (chosen-allowed B f (λ (j : ℕ). length (in_back L B j img)) t e) (top-range L x ws list k) (rw (cond-choice ys t) at r)

          taken : (old : List ℕ) → take_in L B f most (ys true, ys false) old ≡ changed (1 + bucket_of t B f) (put_back L B (bucket_of t B f) behind old)
          taken old = rw (cond-choice ys t) at (take_in-on L B f most (ys true) (ys false) old t e r)

          abbrev next : List ℕ
          next = put_back L B (bucket_of t B f) behind (put_front L f kept img)

          next-good : Good L B next
          next-good = good-after (insert-over ∙ taken (put_front L f kept img))

          back_inside : 64 * (fronts B + bucket_of t B f) + 64 ≤ length (put_front L f kept img)
          back_inside = rw (length-put_front L fits f kept img inside kept-list) (good-back-inside L B (bucket_of t B f) img good (bucket_of-lt t B f h))

          next-read : front_at L f next ≡ accepted kept
          next-read =
              front_at-put_back L fits B (bucket_of t B f) behind (put_front L f kept img) back_inside behind-list f h
              ∙ front_at-put_front L fits f kept img inside kept-list

          -- another front list over it
          next-front : (zs : List ℕ) → FrontList L zs → put_front L f zs next ≡ put_back L B (bucket_of t B f) behind (put_front L f zs img)
          next-front zs w =
              put_front-put_back L fits B f (bucket_of t B f) zs behind (put_front L f kept img) h back_inside w.room behind-list.room
              ∙ ap (put_back L B (bucket_of t B f) behind) (put_front-put L fits f kept img inside kept-list zs)

          spill-on : (xs : List ℕ) → Below (keys L) xs → Spilled xs kept next → Spilled (x ∷ xs) ws img
          unfolding insert_all push_all
          spill-on xs b ih =
              let zs : List ℕ = stays L.front_slots xs kept in
              let w : FrontList L zs = stays-list L xs kept kept-list b in
              rw (
                insert-over,
                taken (put_front L f kept img),
                goes-full L.front_slots x xs ws l,
                stays-full L.front_slots x xs ws l,
                push-behind most zs w,
                taken (put_front L f zs img),
              )
              (ih ∙ ap (push_all L B f (goes L.front_slots xs kept)) (next-front zs w))

  -- where the front bucket's bytes are those of its members
  pub inserts-spill : (xs ws img : List ℕ) → Good L B img → front_at L f img ≡ accepted ws → put_front L f ws img ≡ img → Below (keys L) xs
      → insert_all L B f xs img ≡ push_all L B f (goes L.front_slots xs ws) (put_front L f (stays L.front_slots xs ws) img)
  inserts-spill [] ws img good read same b = unfold insert_all goes stays push_all in ap accepted (sym same)
  inserts-spill (x ∷ xs) ws img good read same b = elim (dec_le L.front_slots (length ws)) [
    | yes l ↦ at-full (inserts-spill xs) l (take_in-cases L B f (most img good x ws read b.0) (ys img good true) (ys img good false) img
        (bucket_of-list L B f img good h true).room (bucket_of-list L B f img good h false).room)
    | no m ↦
        let r : length ws < L.front_slots = omega arith in
        let w : FrontList L (added x ws) = front_list-added L x ws (list img good x ws read b.0) b.0 r in
        spill-room img good x ws read b.0 xs r
        (inserts-spill xs (added x ws) (put_front L f (added x ws) img) (good-after img good x ws read b.0 (insert_at-room L B f x img ws read r))
        (front_at-put_front L fits f (added x ws) img (inside img good) w) (put_front-put L fits f (added x ws) img (inside img good) w (added x ws)) b.1)
  ]
    where
      at-full : ((zs now : List ℕ) → Good L B now → front_at L f now ≡ accepted zs → put_front L f zs now ≡ now → Below (keys L) xs → Spilled xs zs now)
          → L.front_slots ≤ length ws → TakesIn L B f (most img good x ws read b.0) (ys img good true) (ys img good false) img → Spilled (x ∷ xs) ws img
      at-full ih l (refuses p q e) = spill-full img good x ws read b.0 l xs b.1 p q
      at-full ih l (takes t c r e) =
          spill-on img good x ws read b.0 l t c r xs b.1
          (ih (kept img good x ws read b.0) (next img good x ws read b.0 l t c r) (next-good img good x ws read b.0 l t c r)
          (next-read img good x ws read b.0 l t c r)
          (next-front img good x ws read b.0 l t c r (kept img good x ws read b.0) (kept-list img good x ws read b.0)) b.1)
