-- A row of asks, for any layout: the sums of groups (`apart`, `alike`, `least`, `unopened`), how an ask ends (`ask-ends`, `asked-most`, `asked-few`,
-- `ask-refused`), how a row ends (`row-answered`, `asks-split`), and how large its results are (`row-total`, `row-refused`).
use mathlib.Core.Path.{◌≡◌, refl, sym, ◌∙◌}
use Prim.Native.Nat.{ℕ, ◌+◌, ◌*◌, ◌^◌, ◌≤◌, ◌<◌, max}
use mathlib.Core.Bool.{Bool, true, false, cond, ◌&&◌}
use mathlib.Core.List.{List, [], ◌∷◌, map}
use mathlib.Core.Option.{Option, none, some}
use native.Mathlib.Nat.{le_refl}
use native.Mathlib.Omega.{arith}
use lib.ListN.{length}
use lib.Dec.{eqb, ltb}
use borrow.Author.Tests.{ltb-true, ltb-false, eq-eqb, ne_eqb}
use Rattle.multiset.specs.Multisets.{Below, Found, found_in, largest}
use Rattle.crumbmap.specs.Layouts.{Layout, fronts, backyards}
use Rattle.crumbmap.specs.Fingerprints.{front_of, key_of}
use Rattle.crumbmap.specs.CrumbMap.{first_bucket, second_bucket, first_crumb, second_crumb, coincide}
use Rattle.crumbmap.proofs.CrumbMapLaws.{bucket_of-lt}
use Rattle.crumbmap.proofs.FingerprintLaws.{front_of-lt}
use Rattle.buckets.specs.Buckets.{front_members, back_members}
use Rattle.machine.specs.Results.{Result, accepted, refused, and_then, or_unsound}
use Rattle.machine.specs.Images.{size_of, bucket_at, front_at, back_at}
use Rattle.machine.specs.Machine.{Asked, found, reads_behind, ask_second, ask_at}
use Rattle.machine.specs.Calls.{ask_of}
use Rattle.machine.specs.Rows.{Row, Group, descends, joined, groups, reads_of, asks_of, row_of}
use Rattle.machine.proofs.AcceptedLaws.{same_answer, never-refused}
use Rattle.machine.proofs.ImageLaws.{size_of-some}
use Rattle.machine.proofs.ChoiceLaws.{reads-least, reads-most, reads_same, reads-apart}

-- ---- sums of groups

-- an ask before group h, where their front buckets are one or not
abbrev before : ℕ → ℕ → Group → List Group → Bool → List Group
before f n h gs b = cond b (record { front = f; reads = max n h.reads } ∷ gs) (record { front = f; reads = n } ∷ (h ∷ gs))

-- an open group, of front bucket g with r reads, before an ask of another front bucket, and before one of its own
pub apart : (g r f n : ℕ) (gs : List Group) → eqb g f ≡ false → reads_of (joined g r (joined f n gs)) ≡ r + reads_of (joined f n gs)
apart g r f n [] e = rw e
apart g r f n (h ∷ gs) e = go (eqb f h.front)
  where
    go : (b : Bool) → reads_of (joined g r (before f n h gs b)) ≡ r + reads_of (before f n h gs b)
    go true = rw e
    go false = rw e

pub alike : (f r n : ℕ) (gs : List Group) → reads_of (joined f r (joined f n gs)) ≡ reads_of (joined f (max r n) gs)
alike f r n [] = rw (eq-eqb f f refl)
alike f r n (h ∷ gs) = go (eqb f h.front)
  where
    go : (b : Bool) → reads_of (joined f r (before f n h gs b)) ≡ reads_of (before f (max r n) h gs b)
    go true = rw (eq-eqb f f refl) (omega arith)
    go false = rw (eq-eqb f f refl)

-- its reads are in the sum; before the first ask there are none
pub least : (g r : ℕ) (gs : List Group) → r ≤ reads_of (joined g r gs)
least g r [] = omega arith
least g r (h ∷ gs) = go (eqb g h.front)
  where
    go : (b : Bool) → r ≤ reads_of (before g r h gs b)
    go true = omega arith
    go false = omega arith

pub unopened : (gs : List Group) → reads_of (joined 0 0 gs) ≡ reads_of gs
unopened [] = refl
unopened (h ∷ gs) = go (eqb 0 h.front)
  where
    go : (b : Bool) → reads_of (before 0 0 h gs b) ≡ reads_of (h ∷ gs)
    go true = omega arith
    go false = omega arith

-- ---- the endings of an ask

-- what is true of both ways on is true of a read, of a search, and of a test
module _ {A : Type 0} (P : Result A → Type 0) where
  pub of-read : (i : ℕ) (o : Option (List ℕ)) {k : List ℕ → Result A} → P (refused 3 i) → ((xs : List ℕ) → or_unsound i o ≡ accepted xs → P (k xs))
      → P (and_then (or_unsound i o) k)
  of-read i none p q = p
  of-read i (some xs) p q = q xs refl

  pub of-search : (o : Option Found) {at : Found → Result A} {other : Result A} → ((s : Found) → o ≡ some s → P (at s)) → P other → P (found o at other)
  of-search none p q = q
  of-search (some s) p q = p s refl

  pub of_test : (b : Bool) {r s : Result A} → P r → P s → P (cond b r s)
  of_test true p q = p
  of_test false p q = q

-- an ask of front bucket f ends with one bucket read or more, up to both behind it, of which R is then true, or refuses one that is unsound
abbrev pub Ends : ℕ → ℕ → (ℕ → Type 0) → Result Asked → Type 0
Ends B f R (accepted a) = R a.reads × (0 < a.reads) × (a.reads ≤ reads_behind B f)
Ends B f R (refused n i) = (n ≡ 3) × (f < fronts B → i < fronts B + backyards B)

module _ (L : Layout) (B f x : ℕ) (img : List ℕ) (R : ℕ → Type 0) where
  pub ask-ends : ((xs : List ℕ) → front_at L f img ≡ accepted xs → R 1)
      → ((ys : List ℕ) → R 1 → back_at L B (first_bucket f) img ≡ accepted ys → R 2)
      → ((zs : List ℕ) → R 2 → back_at L B (second_bucket B f) img ≡ accepted zs → R 3)
      → Ends B f R (ask_at L B f x img)
  unfolding ask_at ask_second front_at back_at
  ask-ends one two three =
      of-read P f (front_members L (bucket_at f img)) (refl, λ h. omega arith) λ xs e.
      let r1 = one xs e in
      of-search P (found_in x xs) (λ s e. (r1, omega arith, omega (arith, least))) (of_test P (eqb (length xs) L.front_slots && ltb (largest xs) x)
      (of-read P (fronts B + first_bucket f) (back (first_bucket f)) (refl, λ h. omega (arith, bucket_of-lt true B f h)) λ ys e'.
      let r2 = two ys r1 e' in
      of-search P (found_in (x * 16 + first_crumb f) ys) (λ s e. (r2, omega arith, least))
      (of-read P (fronts B + second_bucket B f) (back (second_bucket B f)) (refl, λ h. omega (arith, bucket_of-lt false B f h)) λ zs e''.
      let r3 = last r2 (three zs r2 e'') in
      of-search P (found_in (x * 16 + second_crumb f) zs) (λ s e. (r3, omega (arith, least), le_refl (reads_behind B f)))
      (r3, omega (arith, least), le_refl (reads_behind B f))))
      (r1, omega arith, omega (arith, least)))
    where
      back : ℕ → Option (List ℕ)
      back j = back_members L B j (bucket_at (fronts B + j) img)

      P : Result Asked → Type 0
      P = Ends B f R

      least : 2 ≤ reads_behind B f
      least = reads-least B f

      -- b1 is read besides, or is the bucket that was
      last : R 2 → R 3 → R (reads_behind B f)
      last r2 r3 = go (coincide B f) refl
        where
          go : (b : Bool) → coincide B f ≡ b → R (reads_behind B f)
          go true c = rw (reads_same B f c) r2
          go false c = rw (reads-apart B f c) r3

-- an ask reads one bucket at least, and three at most, two where b0 = b1, and is refused with 3 and a table number only
module _ (L : Layout) (B f x : ℕ) (img : List ℕ) where
  ends : Ends B f (λ n. Unit {0}) (ask_at L B f x img)
  ends = ask-ends L B f x img (λ n. Unit {0}) (λ xs e. tt) (λ ys r e. tt) (λ zs r e. tt)

  pub asked-most : {a : Asked} → ask_at L B f x img ≡ accepted a → a.reads ≤ reads_behind B f
  asked-most e = (rw e at ends).2

  pub asked-few : {a : Asked} → ask_at L B f x img ≡ accepted a → a.reads ≤ 3
  asked-few e = omega (arith, asked-most e, reads-most B f)

  pub asked-some : {a : Asked} → ask_at L B f x img ≡ accepted a → 0 < a.reads
  asked-some e = (rw e at ends).1

  pub ask-refused : {n i : ℕ} → ask_at L B f x img ≡ refused n i → (n ≡ 3) × (f < fronts B → i < fronts B + backyards B)
  ask-refused e = rw e at ends

-- ---- a row

module _ (L : Layout) (img : List ℕ) where
  -- an ask of an image of size B
  pub ask-at : {B : ℕ} → size_of (length img) ≡ some B → (k : ℕ) → ask_of L img k ≡ ask_at L B (front_of B k) (key_of L k) img
  unfolding ask_of
  ask-at e k = rw e

  -- the endings of a row
  module _ (ks : List ℕ) (P : Result Row → Type 0) where
    of_row : (size_of (length img) ≡ none → P (refused 1 0))
        → ((B : ℕ) → size_of (length img) ≡ some B → descends 0 (map (front_of B) ks) ≡ true → P (refused 10 0))
        → ((B : ℕ) → size_of (length img) ≡ some B → descends 0 (map (front_of B) ks) ≡ false → (rs : List Asked) → asks_of L img ks ≡ accepted rs
        → P (accepted (record { answers = rs; total = reads_of (groups (map (front_of B) ks) rs) })))
        → ((B : ℕ) → size_of (length img) ≡ some B → (n i : ℕ) → asks_of L img ks ≡ refused n i → P (refused n i))
        → P (row_of L img ks)
    unfolding row_of
    of_row wrong down all one = go (size_of (length img)) refl
      where
        asks : (B : ℕ) → size_of (length img) ≡ some B → (b : Bool) → descends 0 (map (front_of B) ks) ≡ b
            → (q : Result (List Asked)) → asks_of L img ks ≡ q → P (row_of L img ks)
        asks B s true d q h = rw (s, d) (down B s d)
        asks B s false d (accepted rs) h = rw (s, d, h) (all B s d rs h)
        asks B s false d (refused n i) h = rw (s, d, h) (one B s n i h)

        go : (o : Option ℕ) → size_of (length img) ≡ o → P (row_of L img ks)
        go none s = rw s (wrong s)
        go (some B) s = asks B s (descends 0 (map (front_of B) ks)) refl (asks_of L img ks) refl

  -- a row that is accepted: its order, its answers and its total
  pub record Answered (ks : List ℕ) (w : Row) : Type 0 where
    pub size : ℕ
    pub sized : size_of (length img) ≡ some size
    pub order : descends 0 (map (front_of size) ks) ≡ false
    pub asks : asks_of L img ks ≡ accepted w.answers
    pub total : w.total ≡ reads_of (groups (map (front_of size) ks) w.answers)

  pub row-answered : (ks : List ℕ) {w : Row} → row_of L img ks ≡ accepted w → Answered ks w
  row-answered ks {w} e = of_row ks (λ r. r ≡ accepted w → Answered ks w)
      (λ s e. absurd (never-refused (sym e)))
      (λ B s d e. absurd (never-refused (sym e)))
      (λ B s d rs h e. rw (← same_answer e) (record { size = B; sized = s; order = d; asks = h; total = refl }))
      (λ B s n i h e. absurd (never-refused (sym e)))
      e

  -- asks that are accepted: the first, and the others
  pub asks-split : (k : ℕ) (ks : List ℕ) {rs : List Asked} → asks_of L img (k ∷ ks) ≡ accepted rs
      → (a : Asked) × (others : List Asked) × (ask_of L img k ≡ accepted a) × (asks_of L img ks ≡ accepted others) × (rs ≡ a ∷ others)
  unfolding asks_of
  asks-split k ks {rs} e = go (ask_of L img k) (asks_of L img ks) refl refl e
    where
      go : (p : Result Asked) (q : Result (List Asked)) → ask_of L img k ≡ p → asks_of L img ks ≡ q
          → and_then p (λ a. and_then q λ rs. accepted (a ∷ rs)) ≡ accepted rs
          → (a : Asked) × (others : List Asked) × (ask_of L img k ≡ accepted a) × (asks_of L img ks ≡ accepted others) × (rs ≡ a ∷ others)
      go (accepted a) (accepted others) h g e = (a, others, h, g, sym (same_answer e))
      go (accepted a) (refused n i) h g e = absurd (never-refused (sym e))
      go (refused n i) q h g e = absurd (never-refused (sym e))

  -- ---- how large its results are

  -- three reads at most for each front bucket from the open one on
  most : {B : ℕ} → size_of (length img) ≡ some B → 0 < B → (ks : List ℕ) {rs : List Asked} (g r : ℕ) → Below (2 ^ 64) ks
      → asks_of L img ks ≡ accepted rs → descends g (map (front_of B) ks) ≡ false → g < fronts B → r ≤ 3
      → reads_of (joined g r (groups (map (front_of B) ks) rs)) + 3 * g ≤ 3 * fronts B
  most e pos [] g r small q d h few = omega arith
  most {B} e pos (k ∷ ks) g r small q d h few =
      let p = asks-split k ks q in
      let n = asked-few L B f (key_of L k) img (sym (ask-at e k) ∙ p.2) in
      rw p.4 (go p.0.reads (groups fs p.1) n (ltb f g) (ltb g f) refl refl d
      (λ m l o. most e pos ks f m small.1 p.3 o (front_of-lt B k pos small.0) l))
    where
      f : ℕ
      f = front_of B k

      fs : List ℕ
      fs = map (front_of B) ks

      go : (n : ℕ) (gs : List Group) → n ≤ 3 → (b c : Bool) → ltb f g ≡ b → ltb g f ≡ c → cond b true (descends f fs) ≡ false
          → ((m : ℕ) → m ≤ 3 → descends f fs ≡ false → reads_of (joined f m gs) + 3 * f ≤ 3 * fronts B)
          → reads_of (joined g r (joined f n gs)) + 3 * g ≤ 3 * fronts B
      go n gs l true c x y d rest = let z : ◌≡◌ {A = ℕ} 0 1 = cc in absurd (omega arith)
      go n gs l false true x y d rest =
          let less = ltb-true g f y in
          omega (arith, rest n l d, apart g r f n gs (ne_eqb g f (λ q. omega arith)))
      go n gs l false false x y d rest =
          let same : g ≡ f = omega (arith, ltb-false f g x, ltb-false g f y) in
          rw same (omega (arith, rest (max r n) (omega arith) d, alike f r n gs))

  pub row-total : (ks : List ℕ) → Below (2 ^ 64) ks → {w : Row} → row_of L img ks ≡ accepted w
      → (B : ℕ) × (size_of (length img) ≡ some B) × (w.total ≤ 3 * fronts B)
  unfolding fronts
  row-total ks small {w} e =
      let a = row-answered ks e in
      let h = size_of-some (length img) a.size a.sized in (
        a.size,
        a.sized,
        omega (
          arith,
          unopened (groups (map (front_of a.size) ks) w.answers),
          most a.sized h.1 ks 0 0 small a.asks a.order (omega arith) (omega arith),
        ),
      )

  -- refused with 3 and a table number only
  asks-refused : {B : ℕ} → size_of (length img) ≡ some B → 0 < B → (ks : List ℕ) → Below (2 ^ 64) ks → {n i : ℕ} → asks_of L img ks ≡ refused n i
      → (n ≡ 3) × (i < fronts B + backyards B)
  unfolding asks_of
  asks-refused e pos [] small q = absurd (never-refused q)
  asks-refused {B} e pos (k ∷ ks) small {n} {i} q = go (ask_of L img k) (asks_of L img ks) (ask-at e k) (λ h. asks-refused e pos ks small.1 h) q
    where
      go : (p : Result Asked) (r : Result (List Asked)) → p ≡ ask_at L B (front_of B k) (key_of L k) img
          → (r ≡ refused n i → (n ≡ 3) × (i < fronts B + backyards B))
          → and_then p (λ a. and_then r λ rs. accepted (a ∷ rs)) ≡ refused n i → (n ≡ 3) × (i < fronts B + backyards B)
      go (accepted a) (accepted rs) h rest q = absurd (never-refused q)
      go (accepted a) (refused m j) h rest q = rest cc
      go (refused m j) r h rest q =
          let z = ask-refused L B (front_of B k) (key_of L k) img {n = n} {i = i} cc in
          (z.0, z.1 (front_of-lt B k pos small.0))

  pub row-refused : (ks : List ℕ) → Below (2 ^ 64) ks → {n i : ℕ} → row_of L img ks ≡ refused n i → (n < 11) × (i < 9 * 65536 + 7)
  unfolding fronts backyards
  row-refused ks small {n} {i} e = of_row ks (λ r. r ≡ refused n i → (n < 11) × (i < 9 * 65536 + 7))
      (λ s e. let z = same-refusal e in (omega arith, omega arith))
      (λ B s d e. let z = same-refusal e in (omega arith, omega arith))
      (λ B s d rs h e. absurd (never-refused e))
      (λ B s m j h e.
      let w = size_of-some (length img) B s in
      let z = same-refusal e in
      let r = asks-refused s w.1 ks small h in
      (omega arith, omega arith))
      e
    where
      same-refusal : {m j : ℕ} → ◌≡◌ {A = Result Row} (refused m j) (refused n i) → (m ≡ n) × (j ≡ i)
      same-refusal e = (cc, cc)
