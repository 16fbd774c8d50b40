-- The turns of `settle`: after i keys of b were put in after a, what stays is the first `kept` of a and the first `taken` of b.
-- Main results: `settling-start`, `settling-room`, `settling-way`, `settling-stop` and `settling-end`, and `way-none` and `way-last` for `gives_way`;
-- what settled lists leave in front, `settled-mergeable` and `settled-front`.
use mathlib.Core.Path.{◌≡◌, refl, sym, ◌∙◌, ap}
use Prim.Native.Nat.{ℕ, zero, suc, ◌+◌, ◌-◌, ◌≤◌, ◌<◌}
use mathlib.Core.Bool.{true, false}
use mathlib.Core.List.{List, [], ◌∷◌, ◌++◌, append-nil}
use native.Mathlib.Numerals.{add-one}
use native.Mathlib.Omega.{arith}
use native.Mathlib.Decide.{dec_le, ℕ_discrete}
use lib.ListN.{length, take, get_or, set, length-set}
use lib.Seq.{take_all, take_at, take-suc, take-suc-set, length-take-le}
use lib.Dec.{T, ltb}
use borrow.Author.Tests.{le-ltb, ltb-true, ltb-false}
use Rattle.multiset.specs.Multisets.{added, removed, copies, largest, ascending}
use Rattle.multiset.proofs.MultisetLaws.{hit_same, copies-one, copies-append, copies-added, copies-removed, removed-added}
use Rattle.multiset.proofs.OrderLaws.{ascending-added, ascending-removed, ascending-unique}
use Rattle.multiset.proofs.OrderLaws.{largest-max, largest-added, largest-is, largest-added-most}
use Rattle.multiset.proofs.SlotLaws.{ascending-take, ascending-at, first-le, largest-first}
use Rattle.crumbmap.specs.Layouts.{Layout, most_members}
use Rattle.machine.specs.Bags.{added_all}
use Rattle.machine.specs.Steps.Spills.{stays, goes}
use Rattle.machine.proofs.BagLaws.{copies-added_all, length-added_all, ascending-added_all, added_all-nil}
use Rattle.machine.proofs.StayLaws.{stays-room, stays-full, goes-room, goes-full, stays-append, goes-append}
use Rattle.spill.specs.Steps.Settling.{Sharing, Settled}
use Rattle.spill.specs.declared.Split.{Split}

pub way-none : (k x : ℕ) (xs : List ℕ) → k ≡ 0 → false ≡ ltb x (largest (take k xs))
unfolding largest
way-none k x xs e = sym (rw e (le-ltb x 0 (omega arith)))

pub way-last : (k x : ℕ) (xs : List ℕ) → (k ≡ 0 → ⊥) → k ≤ length xs → ltb x (get_or xs (k - 1) 0) ≡ ltb x (largest (take k xs))
way-last k x xs n h = sym (ap (ltb x) (largest-first k xs (omega arith) h))

pub record Settling (L : Layout) (a b over : List ℕ) (kept taken gone i : ℕ) : Type 0 where
  pub some-kept : kept ≤ length a
  pub some-taken : taken ≤ i
  pub some-done : i ≤ length b
  pub room : kept + taken ≤ L.front_slots
  pub some-gone : gone ≤ i
  pub long : length over ≡ most_members L
  pub front : added_all (take kept a) (take taken b) ≡ stays L.front_slots (take i b) a
  pub leaves : take gone over ≡ goes L.front_slots (take i b) a
  -- the first key of b that did not stay, and with it all later ones, are at least what is kept of a
  pub turn : taken < i → (kept + taken ≡ L.front_slots) × (largest (take kept a) ≤ get_or b taken 0)

module _ {L : Layout} {a b spare : List ℕ} (share : Sharing L a b spare) where
  pub settling-start : Settling L a b spare (length a) 0 0 0
  unfolding stays goes
  settling-start = record {
    some-kept = omega arith;
    some-taken = omega arith;
    some-done = omega arith;
    room = omega (arith, share.front.room);
    some-gone = omega arith;
    long = share.spare;
    front = rw (take_all (length a) a (omega arith)) (added_all-nil a share.front.order);
    leaves = refl;
    turn = λ h. absurd (omega arith);
  }

  module _ {over : List ℕ} {kept taken gone i : ℕ} (s : Settling L a b over kept taken gone i) where
    pub settling-end : length b ≤ i → Settled L a b (record { kept = kept; taken = taken; gone = gone }) over
    settling-end h = record {
      kept = s.some-kept;
      taken = omega (arith, s.some-taken, s.some-done);
      room = s.room;
      gone = omega (arith, s.some-gone, s.some-done, share.after.room);
      front = s.front ∙ ap (λ (l : List ℕ). stays L.front_slots l a) (take_all i b h);
      leaves = s.leaves ∙ ap (λ (l : List ℕ). goes L.front_slots l a) (take_all i b h);
    }

    module _ (h : i < length b) where
      abbrev x : ℕ
      x = get_or b i 0

      abbrev mine : List ℕ
      mine = take kept a

      abbrev theirs : List ℕ
      theirs = take taken b

      abbrev ws : List ℕ
      ws = added_all mine theirs

      ws-order : T (ascending ws)
      ws-order = ascending-added_all mine theirs (ascending-take taken b share.after.order)

      ws-length : length ws ≡ kept + taken
      ws-length =
          omega (
            arith,
            length-added_all mine theirs,
            length-take-le kept a s.some-kept,
            length-take-le taken b (omega (arith, s.some-taken, s.some-done)),
          )

      -- key x comes after the first i
      next-stays : stays L.front_slots (take (i + 1) b) a ≡ stays L.front_slots (x ∷ []) ws
      next-stays = rw (add-one i, take-suc b i 0 h, stays-append L.front_slots (take i b) (x ∷ []) a, s.front)

      next-goes : goes L.front_slots (take (i + 1) b) a ≡ goes L.front_slots (take i b) a ++ goes L.front_slots (x ∷ []) ws
      next-goes = rw (add-one i, take-suc b i 0 h, goes-append L.front_slots (take i b) (x ∷ []) a, s.front)

      gone-in : gone < most_members L
      gone-in = omega (arith, s.some-gone, share.after.room)

      -- and v leaves
      left-on : (v : ℕ) → goes L.front_slots (x ∷ []) ws ≡ v ∷ [] → take (gone + 1) (set over gone v) ≡ goes L.front_slots (take (i + 1) b) a
      left-on v e = rw (add-one gone, take-suc-set over gone v (omega (arith, s.long, gone-in)), next-goes, e, s.leaves)

      -- x stays: all of b so far do
      module _ (e : taken ≡ i) where
        theirs-next : take (taken + 1) b ≡ theirs ++ (x ∷ [])
        theirs-next = rw (e, add-one i, take-suc b i 0 h)

        copies-theirs : (z : ℕ) → copies z (take (taken + 1) b) ≡ copies z theirs + copies z (x ∷ [])
        copies-theirs z = rw theirs-next (copies-append z theirs (x ∷ []))

        with-x : added_all mine (take (taken + 1) b) ≡ added x ws
        with-x =
            ascending-unique (added_all mine (take (taken + 1) b)) (added x ws)
            (ascending-added_all mine (take (taken + 1) b) (ascending-take (taken + 1) b share.after.order)) (ascending-added x ws ws-order)
            (λ z. omega (
              arith,
              copies-added_all z mine (take (taken + 1) b),
              copies-theirs z,
              copies-one z x,
              copies-added z x ws,
              copies-added_all z mine theirs,
            ))

      pub settling-room : kept + taken < L.front_slots → Settling L a b over kept (taken + 1) gone (i + 1)
      unfolding stays goes
      settling-room r =
          let e : taken ≡ i =
          elim (dec_le i taken) [ yes l ↦ omega (arith, s.some-taken) | no n ↦ absurd (omega (arith, (s.turn (omega arith)).0)) ] in
          let l : length ws < L.front_slots = omega (arith, ws-length) in
          record {
            some-kept = s.some-kept;
            some-taken = omega (arith, s.some-taken);
            some-done = omega arith;
            room = omega arith;
            some-gone = omega (arith, s.some-gone);
            long = s.long;
            front = with-x e ∙ sym (next-stays ∙ stays-room L.front_slots x [] ws l);
            leaves = s.leaves ∙ sym (next-goes ∙ rw (goes-room L.front_slots x [] ws l) (append-nil (goes L.front_slots (take i b) a)));
            turn = λ k. absurd (omega arith);
          }

      theirs-le : (z : ℕ) → 0 < copies z theirs → z ≤ x
      theirs-le z c = first-le z taken i b share.after.order s.some-taken h c

      mine-le : (z : ℕ) → 0 < copies z mine → z ≤ largest mine
      mine-le z c = largest-max z mine (ascending-take kept a share.front.order) c

      either-le : (m z : ℕ) → largest mine ≤ m → x ≤ m → 0 < copies z ws → z ≤ m
      either-le m z p q c = elim (ℕ_discrete (copies z mine) 0) [
        | yes n ↦ omega (arith, theirs-le z (omega (arith, copies-added_all z mine theirs)))
        | no n ↦ omega (arith, mine-le z (omega arith))
      ]

      -- x leaves
      pub settling-stop : L.front_slots ≤ kept + taken → ltb x (largest mine) ≡ false
          → (gone < most_members L) × Settling L a b (set over gone x) kept taken (gone + 1) (i + 1)
      unfolding stays goes
      settling-stop r f =
          let g : largest mine ≤ x = ltb-false x (largest mine) f in
          let l : L.front_slots ≤ length ws = omega (arith, ws-length) in
          let up : largest (added x ws) ≡ x = largest-added-most x ws ws-order (λ z c. either-le x z g (omega arith) c) in (
            gone-in,
            record {
              some-kept = s.some-kept;
              some-taken = omega (arith, s.some-taken);
              some-done = omega arith;
              room = s.room;
              some-gone = omega (arith, s.some-gone);
              long = length-set over gone x ∙ s.long;
              front = sym (next-stays ∙ stays-full L.front_slots x [] ws l ∙ rw up (removed-added x ws));
              leaves = left-on x (goes-full L.front_slots x [] ws l ∙ rw up);
              turn = λ k. (
                omega (arith, s.room),
                elim (dec_le i taken) [
                  | yes q ↦ let e : taken ≡ i = omega (arith, s.some-taken) in rw e g
                  | no n ↦ (s.turn (omega arith)).1
                ],
              );
            },
          )

      -- the last that is kept of a leaves
      module _ (r : L.front_slots ≤ kept + taken) (f : ltb x (largest mine) ≡ true) where
        less : x < largest mine
        less = ltb-true x (largest mine) f

        pub way-kept : 0 < kept
        way-kept = go kept less
          where
            go : (k : ℕ) → x < largest (take k a) → 0 < k
            go zero l = unfold largest in absurd (omega arith)
            go (suc k) l = omega arith

        way-all : taken ≡ i
        way-all = elim (dec_le i taken) [
          | yes l ↦ omega (arith, s.some-taken)
          | no n ↦ absurd (omega (arith, less, (s.turn (omega arith)).1, ascending-at taken i b share.after.order s.some-taken h))
        ]

        abbrev last : ℕ
        last = get_or a (kept - 1) 0

        kept-suc : kept ≡ suc (kept - 1)
        kept-suc = omega (arith, way-kept)

        last-in : kept - 1 < length a
        last-in = omega (arith, way-kept, s.some-kept)

        mine-largest : largest mine ≡ last
        mine-largest = largest-first kept a way-kept s.some-kept

        mine-parts : mine ≡ take (kept - 1) a ++ (last ∷ [])
        mine-parts = ap (λ (k : ℕ). take k a) kept-suc ∙ take-suc a (kept - 1) 0 last-in

        copies-mine : (z : ℕ) → copies z mine ≡ copies z (take (kept - 1) a) + copies z (last ∷ [])
        copies-mine z = ap (copies z) mine-parts ∙ copies-append z (take (kept - 1) a) (last ∷ [])

        last-in-ws : 0 < copies last ws
        last-in-ws = omega (arith, copies-added_all last mine theirs, copies-mine last, copies-one last last, hit_same last)

        most : largest (added x ws) ≡ last
        most =
            let e : largest ws ≡ last =
            largest-is last ws ws-order last-in-ws (λ z c. either-le last z (omega (arith, mine-largest)) (omega (arith, mine-largest, less)) c) in
            omega (arith, largest-added x ws ws-order, e, mine-largest, less)

        without : added_all (take (kept - 1) a) (take (taken + 1) b) ≡ removed last (added x ws)
        without =
            ascending-unique (added_all (take (kept - 1) a) (take (taken + 1) b)) (removed last (added x ws))
            (ascending-added_all (take (kept - 1) a) (take (taken + 1) b) (ascending-take (taken + 1) b share.after.order))
            (ascending-removed last (added x ws) (ascending-added x ws ws-order))
            (λ z. omega (
              arith,
              copies-added_all z (take (kept - 1) a) (take (taken + 1) b),
              copies-theirs way-all z,
              copies-one z x,
              copies-removed z last (added x ws) (omega (arith, copies-added last x ws, last-in-ws)),
              copies-added z x ws,
              copies-added_all z mine theirs,
              copies-mine z,
              copies-one z last,
            ))

        pub settling-way : (gone < most_members L) × Settling L a b (set over gone last) (kept - 1) (taken + 1) (gone + 1) (i + 1)
        unfolding stays goes
        settling-way =
            let l : L.front_slots ≤ length ws = omega (arith, ws-length) in (
              gone-in,
              record {
                some-kept = omega (arith, s.some-kept);
                some-taken = omega (arith, s.some-taken);
                some-done = omega arith;
                room = omega (arith, s.room, way-kept);
                some-gone = omega (arith, s.some-gone);
                long = length-set over gone last ∙ s.long;
                front = without ∙ sym (next-stays ∙ stays-full L.front_slots x [] ws l ∙ rw most);
                leaves = left-on last (goes-full L.front_slots x [] ws l ∙ rw most);
                turn = λ k. absurd (omega (arith, way-all));
              },
            )

-- ---- two lists of keys that share a front bucket

module _ {L : Layout} {a b over : List ℕ} {r : Split} (s : Settled L a b r over) where
  kept-length : length (take r.kept a) ≡ r.kept
  kept-length = length-take-le r.kept a s.kept

  taken-length : length (take r.taken b) ≡ r.taken
  taken-length = length-take-le r.taken b s.taken

  pub settled-mergeable : T (ascending a) → T (ascending b)
      → T (ascending (take r.kept a)) × T (ascending (take r.taken b))
      × (length (take r.kept a) + length (take r.taken b) ≤ L.front_slots)
  settled-mergeable p q =
      (ascending-take r.kept a p, ascending-take r.taken b q, omega (arith, kept-length, taken-length, s.room))

  -- merged, they are what stays
  pub settled-front : (rest keys : List ℕ) → keys ≡ added_all (take r.kept a) (take r.taken b) ++ rest
      → take (r.kept + r.taken) keys ≡ stays L.front_slots b a
  settled-front rest keys e =
      let both : List ℕ = added_all (take r.kept a) (take r.taken b) in
      let n : length both ≡ r.kept + r.taken = omega (arith, length-added_all (take r.kept a) (take r.taken b), kept-length, taken-length) in
      rw e (take_at both rest (r.kept + r.taken) n ∙ s.front)
