-- The endings of an ask, for any layout. In front: `ask-here`, `ask-few`, `ask-low`; behind a full front bucket: `ask-first`, `ask-second` and
-- `ask-same`, by what seeking in b0 and then in b1 finds.
use mathlib.Core.Path.{◌≡◌, refl, sym, ◌∙◌}
use Prim.Native.Nat.{ℕ, ◌+◌, ◌*◌, ◌≤◌, ◌<◌}
use mathlib.Core.Bool.{Bool, true, false}
use mathlib.Core.List.{List}
use mathlib.Core.Option.{Option, none, some}
use native.Mathlib.Omega.{arith}
use lib.ListN.{length}
use borrow.Author.Tests.{eq-eqb, ne_eqb, le-ltb}
use Rattle.std.specs.Prelude as S
use Rattle.multiset.specs.Multisets as M
use Rattle.multiset.specs.Multisets.{found_in, largest}
use Rattle.crumbmap.specs.Layouts.{Layout, fronts}
use Rattle.crumbmap.specs.CrumbMap.{bucket_of, crumb_of, coincide}
use Rattle.crumbmap.specs.Steps.Places.{Leads}
use Rattle.crumbmap.specs.declared.Overflow.{Overflow}
use Rattle.buckets.specs.Buckets.{back_members}
use Rattle.search.specs.Steps.Searches.{search_of}
use Rattle.search.specs.declared.Found.{Found}
use Rattle.search.proofs.FoundLaws.{search-some, search-none}
use Rattle.answers.specs.declared.UnsoundBucket.{UnsoundBucket}
use Rattle.machine.specs.Results.{Result, refused, and_then, or_unsound}
use Rattle.machine.specs.Images.{bucket_at, back_at, in_front}
use Rattle.machine.specs.Machine.{Asked, asked, denied, front, first, second, found, reads_behind, ask_second, ask_at}
use Rattle.machine.proofs.AskLaws.{ask_behind}
use Rattle.machine.proofs.CoincideLaws.{behind-same}
use Rattle.image.specs.Steps.ImageReads.{FrontRead, Exceeds}
use Rattle.image.proofs.ImageReadLaws.{front-full, ask-exceeds}
use Rattle.lookup.specs.Steps.Lookups.{Sought}

-- ---- in front

-- the bucket was read, holds n members, and was searched for x
module _ {L : Layout} (B x : ℕ) {f n : ℕ} {img : List ℕ} (read : FrontRead L f img) (many : length (in_front L f img) ≡ n) {r : S.Option Found}
    (said : r ≡ search_of (found_in x (in_front L f img))) where
  pub ask-here : {s : Found} → r ≡ S.Some s → asked 1 front (record { slot = s.slot; copies = s.copies }) ≡ ask_at L B f x img
  unfolding ask_at
  ask-here e = rw (read.accepts, search-some (found_in x (in_front L f img)) said e)

  pub ask-few : r ≡ S.None → n < L.front_slots → denied 1 ≡ ask_at L B f x img
  unfolding ask_at
  ask-few e l = rw (
    read.accepts,
    search-none (found_in x (in_front L f img)) said e,
    ne_eqb (length (in_front L f img)) L.front_slots (λ e. omega (arith, many)),
  )

  pub ask-low : r ≡ S.None → L.front_slots ≤ n → {top : ℕ} → top ≡ largest (in_front L f img) → x ≤ top → denied 1 ≡ ask_at L B f x img
  unfolding ask_at
  ask-low e full most l = rw (
    read.accepts,
    search-none (found_in x (in_front L f img)) said e,
    eq-eqb (length (in_front L f img)) L.front_slots (front-full read many full).full,
    le-ltb (largest (in_front L f img)) x (omega (arith, most)),
  )

-- ---- behind it

-- what an ask gives by what was found in a backyard bucket
abbrev pub sought : (M.Found → Result Asked) → Result Asked → S.Result (S.Option Found) UnsoundBucket → Result Asked
sought at other (S.Ok (S.Some s)) = at (record { slot = s.slot; copies = s.copies })
sought at other (S.Ok S.None) = other
sought at other (S.Err i) = refused 3 i.0

by-found : (at : M.Found → Result Asked) (other : Result Asked) (o : Option M.Found) → found o at other ≡ sought at other (S.Ok (search_of o))
by-found at other none = refl
by-found at other (some s) = refl

seeking : (i y : ℕ) (at : M.Found → Result Asked) (other : Result Asked) (o : Option (List ℕ)) (r : S.Result (S.Option Found) UnsoundBucket)
    → Sought y (or_unsound i o) r → and_then (or_unsound i o) (λ ys. found (found_in y ys) at other) ≡ sought at other r
seeking i y at other none r e = rw e
seeking i y at other (some ys) r e = rw e (by-found at other (found_in y ys))

-- the bucket that a choice leads to was sought in, and r was found
module _ (L : Layout) (B f x : ℕ) (img : List ℕ) {w : Overflow} (r : S.Result (S.Option Found) UnsoundBucket)
    (said : Sought (x * 16 + w.crumb) (back_at L B w.bucket.0 img) r) where
  seeks : (t : Bool) → Leads t B f w → (at : M.Found → Result Asked) (other : Result Asked)
      → and_then (back_at L B (bucket_of t B f) img) (λ ys. found (found_in (x * 16 + crumb_of t f) ys) at other) ≡ sought at other r
  unfolding back_at
  seeks t leads at other = seeking (fronts B + bucket_of t B f) (x * 16 + crumb_of t f) at other
      (back_members L B (bucket_of t B f) (bucket_at (fronts B + bucket_of t B f) img)) r (rw (leads.bucket, leads.crumb) at said)

  pub ask-first : Exceeds L f x img → Leads true B f w → sought (asked 2 first) (ask_second L B f x img) r ≡ ask_at L B f x img
  unfolding ask_behind
  ask-first e leads = sym (ask-exceeds B e ∙ seeks true leads (asked 2 first) (ask_second L B f x img))

  pub ask-second : Leads false B f w → {n : ℕ} → n ≡ reads_behind B f → sought (asked n second) (denied n) r ≡ ask_second L B f x img
  unfolding ask_second
  ask-second leads {n} e = rw (← e) (sym (seeks false leads (asked n second) (denied n)))

-- where b0 = b1, seeking in the one bucket settles it
pub ask-same : {L : Layout} (B : ℕ) {f x : ℕ} {img : List ℕ} → f < fronts B → Exceeds L f x img → coincide B f ≡ true → ask_second L B f x img ≡ ask_at L B f x img
ask-same {L} B {f} {x} {img} h e c = sym (ask-exceeds B e ∙ behind-same L B f x img c h)
