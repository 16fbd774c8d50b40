-- An ask's numbers stand beside each other in its value, so that each is taken out again: `ask-unpacks`.
use mathlib.Core.Path.{◌≡◌, refl}
use Prim.Native.Nat.{ℕ, ◌+◌, ◌*◌, ◌≤◌, ◌<◌}
use mathlib.Core.Bool.{◌&&◌}
use mathlib.Core.List.{List}
use mathlib.Core.Option.{Option, none, some}
use native.Mathlib.Omega.{arith}
use lib.ListN.{length}
use lib.Dec.{eqb, ltb}
use Rattle.multiset.specs.Multisets.{found_in, largest}
use Rattle.crumbmap.specs.Layouts.{layout1, known, fronts}
use Rattle.crumbmap.specs.Fingerprints.{front_of, key_of}
use Rattle.crumbmap.specs.CrumbMap.{first_bucket, second_bucket, first_crumb, second_crumb}
use Rattle.buckets.specs.Buckets.{front_members, back_members}
use Rattle.machine.specs.Results.{Result, accepted, refused, and_then, or_refused}
use Rattle.machine.specs.Images.{size_of, bucket_at, front_at, back_at}
use Rattle.machine.specs.Machine.{Place, nowhere, front, first, second, Asked, reads_behind, ask_second, ask_at}
use Rattle.machine.specs.Calls as M
use Rattle.machine.proofs.AcceptedLaws.{and_then-accepted}
use Rattle.machine.proofs.ChoiceLaws.{reads-most}
use Rattle.machine.proofs.RoomLaws.{front_at-room, back_at-room, found-room}
use Rattle.machine.proofs.RowLaws.{of-read, of-search, of_test}
use Rattle.form.specs.Tails.{body, opened}
use Rattle.form.specs.Calls.{ask_of}
use Rattle.form.proofs.TailLaws.{opened-known}
use Rattle.answers.specs.Rows.{place_number, slot_number}
use Rattle.packing.specs.Packing.{place_word, ask_word, Unpacks}

-- an accepted ask's reads and slot are small
abbrev Small : Result Asked → Type 0
Small (accepted a) = (a.reads < 16) × (slot_number a.place < 256)
Small (refused n i) = Unit {0}

ask_at-small : (B f x : ℕ) (img : List ℕ) → Small (ask_at layout1 B f x img)
unfolding ask_at ask_second front_at back_at
ask_at-small B f x img =
    of-read Small f (front_members layout1 (bucket_at f img)) tt λ xs e.
    of-search Small (found_in x xs) (λ s d. (omega arith, omega (arith, (found-room x xs s d).0, front_at-room layout1 f img xs e)))
    (of_test Small (eqb (length xs) layout1.front_slots && ltb (largest xs) x)
    (of-read Small (fronts B + first_bucket f) (back (first_bucket f)) tt λ ys e.
    of-search Small (found_in (x * 16 + first_crumb f) ys)
    (λ s d. (omega arith, omega (arith, (found-room (x * 16 + first_crumb f) ys s d).0, back_at-room layout1 B (first_bucket f) img ys e)))
    (of-read Small (fronts B + second_bucket B f) (back (second_bucket B f)) tt λ zs e.
    of-search Small (found_in (x * 16 + second_crumb f) zs)
    (λ s d. (few, omega (arith, (found-room (x * 16 + second_crumb f) zs s d).0, back_at-room layout1 B (second_bucket B f) img zs e)))
    (few, omega arith)))
    (omega arith, omega arith))
  where
    back : ℕ → Option (List ℕ)
    back j = back_members layout1 B j (bucket_at (fronts B + j) img)

    few : reads_behind B f < 16
    few = omega (arith, reads-most B f)

place-word : (p : Place) → (place_word p ≡ 16 * place_number p + 256 * slot_number p) × (place_number p ≤ 3)
place-word nowhere = (refl, omega arith)
place-word (front i) = (omega arith, omega arith)
place-word (first i) = (omega arith, omega arith)
place-word (second i) = (omega arith, omega arith)

unpacked : (a : Asked) → Small (accepted a) → Unpacks (ask_word a) a
unpacked a s =
    let p = place-word a.place in
    record {
      reads = omega (arith, s.0, p.0);
      place = omega (arith, s.0, p.0, p.1);
      slot = omega (arith, s.0, s.1, p.0, p.1);
      copies = omega (arith, s.0, s.1, p.0, p.1);
    }

ask-small : (b : List ℕ) (hash : ℕ) → Small (M.ask_of layout1 b hash)
unfolding M.ask_of
ask-small b hash = go (size_of (length b))
  where
    go : (o : Option ℕ) → Small (and_then (or_refused 1 o) λ B. ask_at layout1 B (front_of B hash) (key_of layout1 hash) b)
    go none = tt
    go (some B) = ask_at-small B (front_of B hash) (key_of layout1 hash) b

-- whoever takes an accepted ask's value apart has its reads, place, slot and copies
pub ask-unpacks : (img : List ℕ) (hash : ℕ) (a : Asked) → ask_of known img hash ≡ accepted a → Unpacks (ask_word a) a
unfolding ask_of
ask-unpacks img hash a e =
    let p = and_then-accepted (opened known img) _ a e in
    let q : M.ask_of layout1 (body img) hash ≡ accepted a = rw (opened-known img p.0 p.1) at p.2 in
    unpacked a (rw q at (ask-small (body img) hash))
