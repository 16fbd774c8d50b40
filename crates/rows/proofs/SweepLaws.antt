-- A row swept three times is the row of an image with its tail, for any layout. Main results: each entry is ready in its turn (`first-ready`,
-- `second-ready`, `third-ready`), and what three sweeps leave (`all-swept`).
use mathlib.Core.Path.{◌≡◌, refl, sym, ◌∙◌, ap, subst}
use Prim.Native.Nat.{ℕ, ◌+◌, ◌-◌, max}
use mathlib.Core.Bool.{Bool, true, false, cond}
use mathlib.Core.List.{List, [], ◌∷◌, map}
use mathlib.Core.Option.{Option, none, some}
use native.Mathlib.Omega.{arith}
use lib.ListN.{length}
use lib.Dec.{eqb, ltb}
use borrow.Author.Tests.{ltb-true, ltb-false, ne_eqb}
use Rattle.crumbmap.specs.Layouts.{Layout, Numbering}
use Rattle.crumbmap.specs.Fingerprints.{front_of, key_of}
use Rattle.buckets.specs.Buckets.{Fits64}
use Rattle.machine.specs.Results.{Result, accepted, refused, and_then, number}
use Rattle.machine.specs.Images.{size_of}
use Rattle.machine.specs.Machine.{Asked, ask_at}
use Rattle.machine.specs.Rows as R
use Rattle.machine.specs.Rows.{Row, Group, descends, joined, groups, reads_of, asks_of}
use Rattle.machine.proofs.AcceptedLaws.{never-refused}
use Rattle.machine.proofs.RowLaws.{apart, alike, least, unopened, ask-at, ask-refused, row-answered, asks-split}
use Rattle.form.specs.Tails.{Header, body, opened}
use Rattle.form.specs.Calls.{row_of}
use Rattle.answers.specs.Rows.{hashes, received_of, received_all, entries_of, total_of}
use Rattle.answers.specs.declared.Entry.{Entry}
use Rattle.image.specs.Steps.ImageReads.{Whole}
use Rattle.image.proofs.ImageReadLaws.{whole_of}
use Rattle.grouping.specs.Steps.Grouping.{Bytes, held, fetched, sharing, descended, passed, advanced, tested, Known, told, turned, started_at, begun, settled, resumed, refusal_of, result_of}
use Rattle.grouping.specs.declared.State.{State}
use Rattle.grouping.proofs.GroupLaws.{of-tested, known-started, known-tested}
use Rattle.rows.specs.Steps.Sweeps.{state_from, row_from, ReadyFrom, state_after, row_after, AllReady, tested_state, tested_row, told_state, told_row}
use Rattle.rows.proofs.FormRowLaws.{Only, tail-refused, row-unsized, row_opened, row-barred, row-accepted}

-- ---- sums

-- what an ask of front bucket f with n reads adds: those that its group has read besides, then what the rest adds to them
adds : (s : State) (f n : ℕ) (gs : List Group) → ltb f s.front ≡ false
    → reads_of (joined s.front s.reads (joined f n gs)) - s.reads
    ≡ max (held s f) n - held s f + (reads_of (joined f (max (held s f) n) gs) - max (held s f) n)
adds s f n gs d = go (ltb s.front f) refl
  where
    rest : ℕ → ℕ
    rest m = max m n - m + (reads_of (joined f (max m n) gs) - max m n)

    go : (b : Bool) → ltb s.front f ≡ b → reads_of (joined s.front s.reads (joined f n gs)) - s.reads ≡ rest (cond b 0 s.reads)
    go true e =
        let z : max 0 n ≡ n = omega arith in
        rw z (omega (arith, apart s.front s.reads f n gs (ne_eqb s.front f (λ q. omega (arith, ltb-true s.front f e))), least f n gs))
    go false e =
        let same : s.front ≡ f = omega (arith, ltb-false f s.front d, ltb-false s.front f e) in
        rw same (omega (arith, alike f s.reads n gs, least f (max s.reads n) gs))

-- two ways that come to one
either : {A : Type 0} (b : Bool) (x : A) → cond b x x ≡ x
either true x = refl
either false x = refl

-- a refusal is no answer
refusal-never : (s : State) {n : ℕ} → refusal_of s ≡ accepted n → ⊥
refusal-never s e = go (eqb s.number 1) (eqb s.number 10) (eqb s.number 11) e
  where
    go : (b c d : Bool) {n : ℕ} → cond b (refused 1 0) (cond c (refused 10 0) (cond d (refused 11 0) (refused 3 s.table))) ≡ accepted n → ⊥
    go true c d e = never-refused (sym e)
    go false true d e = never-refused (sym e)
    go false false true e = never-refused (sym e)
    go false false false e = never-refused (sym e)

-- ---- a sweep in each phase

module _ (L : Layout) (img : List ℕ) where
  -- the state after hashes that are fetched, and after hashes that are tested
  abbrev fetches : State → List ℕ → State
  fetches s [] = s
  fetches s (k ∷ ks) = fetches (fetched img s k) ks

  abbrev runs : State → List ℕ → State
  runs s [] = s
  runs s (k ∷ ks) = runs (tested L img s k) ks

  -- neither changes phase or size, nor does fetching change the number
  fetches-keeps : (ks : List ℕ) (s : State)
      → ((fetches s ks).phase ≡ s.phase) × ((fetches s ks).size ≡ s.size) × ((fetches s ks).number ≡ s.number)
  fetches-keeps [] s = (refl, refl, refl)
  fetches-keeps (k ∷ ks) s = fetches-keeps ks (fetched img s k)

  advanced-keeps : (s : State) (f : ℕ) (r : Result ℕ) → ((advanced L img s f r).phase ≡ s.phase) × ((advanced L img s f r).size ≡ s.size)
  advanced-keeps s f (accepted n) = (refl, refl)
  advanced-keeps s f (refused n i) = (refl, refl)

  tested-keeps : (s : State) (k : ℕ) → ((tested L img s k).phase ≡ s.phase) × ((tested L img s k).size ≡ s.size)
  tested-keeps s k =
      let f = front_of s.size k in
      of-tested L img s f (key_of L k) (λ t. (t.phase ≡ s.phase) × (t.size ≡ s.size))
      (λ d. (refl, refl)) (λ d e. advanced-keeps s f (sharing L s.size f (key_of L k) img (held s f))) (λ d e. (refl, refl))

  runs-keeps : (ks : List ℕ) (s : State) → ((runs s ks).phase ≡ s.phase) × ((runs s ks).size ≡ s.size)
  runs-keeps [] s = (refl, refl)
  runs-keeps (k ∷ ks) s =
      let r = runs-keeps ks (tested L img s k) in
      let t = tested-keeps s k in
      (r.0 ∙ t.0, r.1 ∙ t.1)

  -- a turn
  fetching : (s : State) (e : Entry) → turned L img 0 s e ≡ record { state = fetched img s e.hash; entry = e }
  unfolding turned
  fetching s e = refl

  testing : (s : State) (e : Entry) → turned L img 1 s e ≡ record { state = tested L img s e.hash; entry = e }
  unfolding turned
  testing s e = refl

  telling : (s : State) (e : Entry) → turned L img 2 s e ≡ record { state = s; entry = told L img e }
  unfolding turned
  telling s e = refl

  passing : (s : State) (e : Entry) → turned L img 3 s e ≡ record { state = s; entry = e }
  unfolding turned
  passing s e = refl

  -- a sweep
  all-fetched : (es : List Entry) (s : State) → (state_from L img 0 s es ≡ fetches s (hashes es)) × (row_from L img 0 s es ≡ es)
  all-fetched [] s = (refl, refl)
  all-fetched (e ∷ es) s =
      let r = all-fetched es (fetched img s e.hash) in
      rw (fetching s e) (r.0, ap (λ (l : List Entry). e ∷ l) r.1)

  all_tested : (es : List Entry) (s : State) → (state_from L img 1 s es ≡ runs s (hashes es)) × (row_from L img 1 s es ≡ es)
  all_tested [] s = (refl, refl)
  all_tested (e ∷ es) s =
      let r = all_tested es (tested L img s e.hash) in
      rw (testing s e) (r.0, ap (λ (l : List Entry). e ∷ l) r.1)

  all_told : (es : List Entry) (s : State) → (state_from L img 2 s es ≡ s) × (row_from L img 2 s es ≡ map (told L img) es)
  all_told [] s = (refl, refl)
  all_told (e ∷ es) s = let r = all_told es s in rw (telling s e) (r.0, ap (λ (l : List Entry). told L img e ∷ l) r.1)

  all-passed : (es : List Entry) (s : State) → (state_from L img 3 s es ≡ s) × (row_from L img 3 s es ≡ es)
  all-passed [] s = (refl, refl)
  all-passed (e ∷ es) s = let r = all-passed es s in rw (passing s e) (r.0, ap (λ (l : List Entry). e ∷ l) r.1)

  -- ---- readiness

  -- in a row that is refused, in one that is fetched, and in one that is tested
  passed-ready : (es : List Entry) (s : State) → ReadyFrom L img 3 s es
  passed-ready [] s = tt
  passed-ready (e ∷ es) s = (
    record { fetching = λ z. absurd (omega arith); testing = λ z. absurd (omega arith); telling = λ z. absurd (omega arith) },
    λ small. rw (passing s e) (passed-ready es s),
  )

  fetched-ready : (es : List Entry) (s : State) → Whole s.size img → ReadyFrom L img 0 s es
  fetched-ready [] s w = tt
  fetched-ready (e ∷ es) s w = (
    record { fetching = λ z. w; testing = λ z. absurd (omega arith); telling = λ z. absurd (omega arith) },
    λ small. rw (fetching s e) (fetched-ready es (fetched img s e.hash) w),
  )

  tested-ready : Fits64 L → (es : List Entry) (s : State) → (Bytes img → Known L img s) → ReadyFrom L img 1 s es
  tested-ready fits [] s known = tt
  tested-ready fits (e ∷ es) s known = (
    record { fetching = λ z. absurd (omega arith); testing = λ z. known; telling = λ z. absurd (omega arith) },
    λ small. rw (testing s e) (tested-ready fits es (tested L img s e.hash) (λ bytes. known-tested fits bytes (known bytes) e.hash small)),
  )

  -- ---- what the test comes to

  -- the total with the asks that are still to come: the open group stands before their groups
  abbrev totalled : State → List ℕ → List Asked → ℕ
  totalled s fs rs = s.total + (reads_of (joined s.front s.reads (groups fs rs)) - s.reads)

  -- the result that is to come
  abbrev awaited : State → List ℕ → Result ℕ
  awaited s ks =
      let fs : List ℕ = map (front_of s.size) ks in
      cond (descends s.front fs) (refused 10 0)
      (cond (eqb s.number 0) (and_then (asks_of L img ks) λ rs. accepted (totalled s fs rs)) (refusal_of s))

  -- an entry in its order, before any refusal, where the claim holds of those behind it
  module _ (k : ℕ) (ks : List ℕ) (s : State) (e : size_of (length img) ≡ some s.size) (d : ltb (front_of s.size k) s.front ≡ false)
      (z : eqb s.number 0 ≡ true) (rest : (t : State) → size_of (length img) ≡ some t.size → result_of (runs t ks) ≡ awaited t ks) where
    advanced-outcome : (r : Result Asked) → ask_at L s.size (front_of s.size k) (key_of L k) img ≡ r
        → result_of (runs (advanced L img s (front_of s.size k) (and_then r λ a. accepted (max (held s (front_of s.size k)) a.reads))) ks)
        ≡ awaited s (k ∷ ks)
    unfolding asks_of
    advanced-outcome (accepted a) h = rest t e ∙ rw (d, z, ask-at L img e k, h) (ap (cond (descends f fs) (refused 10 0)) (go (asks_of L img ks)))
      where
        f : ℕ
        f = front_of s.size k

        fs : List ℕ
        fs = map (front_of s.size) ks

        t : State
        t = advanced L img s f (accepted (max (held s f) a.reads))

        go : (q : Result (List Asked)) → and_then q (λ rs. accepted (totalled t fs rs))
            ≡ and_then (and_then q λ rs. accepted (a ∷ rs)) (λ rs. accepted (totalled s (f ∷ fs) rs))
        go (accepted rs) = ap accepted (omega (arith, adds s f a.reads (groups fs rs) d))
        go (refused n i) = refl
    advanced-outcome (refused n i) h =
        let f = front_of s.size k in
        rest (advanced L img s f (refused n i)) e ∙ rw (d, z, ask-at L img e k, h, (ask-refused L s.size f (key_of L k) img h).0)

  -- the result is the one that was to come
  runs-outcome : (ks : List ℕ) (s : State) → size_of (length img) ≡ some s.size → result_of (runs s ks) ≡ awaited s ks
  unfolding asks_of
  runs-outcome [] s e = let t : totalled s [] [] ≡ s.total = omega arith in rw t
  runs-outcome (k ∷ ks) s e =
      let f = front_of s.size k in
      of-tested L img s f (key_of L k) (λ t. result_of (runs t ks) ≡ awaited s (k ∷ ks))
      (λ d. runs-outcome ks (descended L s f) e ∙ rw d (either (descends f (map (front_of s.size) ks)) (refused 10 0)))
      (λ d z. advanced-outcome k ks s e d z (runs-outcome ks) (ask_at L s.size f (key_of L k) img) refl)
      (λ d z. runs-outcome ks (passed L s f) e ∙ rw (d, z))

  -- entries whose asks are accepted receive their answers, and are ready to
  told-all : (es : List Entry) {rs : List Asked} → asks_of L img (hashes es) ≡ accepted rs → map (told L img) es ≡ received_all es rs
  told-all [] e = refl
  told-all (e ∷ es) q =
      let p = asks-split L img e.hash (hashes es) q in
      rw (p.4, p.2) (ap (λ (l : List Entry). received_of e p.0 ∷ l) (told-all es p.3))

  told-ready : (es : List Entry) {rs : List Asked} → asks_of L img (hashes es) ≡ accepted rs → (s : State) → Whole s.size img → ReadyFrom L img 2 s es
  told-ready [] q s w = tt
  told-ready (e ∷ es) q s w =
      let p = asks-split L img e.hash (hashes es) q in (
        record { fetching = λ z. absurd (omega arith); testing = λ z. absurd (omega arith); telling = λ z. (w, rw p.2) },
        λ small. rw (telling s e) (told-ready es p.3 s w),
      )

  -- ---- the sweeps of a row, from the states before them

  -- the first leaves the row as it is, and the test starts afresh
  fetched-resumed : (s : State) → s.phase ≡ 0 → resumed s ≡ started_at 1 (some s.size) s.number
  fetched-resumed s h = rw h

  fetched-swept : (es : List Entry) (o : Option ℕ) (n : ℕ)
      → (resumed (state_after L img (started_at 0 o n) es) ≡ started_at 1 o n) × (row_after L img (started_at 0 o n) es ≡ es)
  fetched-swept es none n = let p = all-passed es (started_at 0 none n) in (ap resumed p.0, p.1)
  fetched-swept es (some B) n =
      let s = started_at 0 (some B) n in
      let p = all-fetched es s in
      let k = fetches-keeps (hashes es) s in
      (ap resumed p.0 ∙ fetched-resumed (fetches s (hashes es)) k.0 ∙ (λ i. started_at 1 (some (k.1 i)) (k.2 i)), p.1)

  -- where the second tested it, the entries are told next, or the row is refused
  tested-resumed : (s : State) → s.phase ≡ 1 → resumed s ≡ settled s
  tested-resumed s h = rw h

  tested-swept : (es : List Entry) (o : Option ℕ) (n : ℕ)
      → (resumed (state_after L img (started_at 1 o n) es) ≡ settled (state_after L img (started_at 1 o n) es)) × (row_after L img (started_at 1 o n) es ≡ es)
  tested-swept es none n = let p = all-passed es (started_at 1 none n) in (ap resumed p.0 ∙ sym (ap settled p.0), p.1)
  tested-swept es (some B) n =
      let s = started_at 1 (some B) n in
      let p = all_tested es s in
      (tested-resumed (state_after L img s es) (ap (λ (t : State). t.phase) p.0 ∙ (runs-keeps (hashes es) s).0), p.1)

  -- the third leaves the state as it is, and the row too where it is refused
  told-swept : (b : Bool) (es : List Entry) (s : State) → s.phase ≡ cond b 2 3
      → (state_after L img s es ≡ s) × (row_after L img s es ≡ cond b (map (told L img) es) es)
  told-swept true es s h = subst (λ (p : ℕ). (state_from L img p s es ≡ s) × (row_from L img p s es ≡ map (told L img) es)) (sym h) (all_told es s)
  told-swept false es s h = subst (λ (p : ℕ). (state_from L img p s es ≡ s) × (row_from L img p s es ≡ es)) (sym h) (all-passed es s)

  -- what the test of an image of size B comes to, where no number stood before it and where one did
  good-outcome : {B : ℕ} → size_of (length img) ≡ some B → (ks : List ℕ) → result_of (runs (started_at 1 (some B) 0) ks) ≡ total_of (R.row_of L img ks)
  unfolding R.row_of
  good-outcome {B} e ks = runs-outcome ks s e ∙ rw e (go (descends 0 fs) (asks_of L img ks))
    where
      s : State
      s = started_at 1 (some B) 0

      fs : List ℕ
      fs = map (front_of B) ks

      go : (b : Bool) (q : Result (List Asked)) → cond b (refused 10 0) (and_then q λ rs. accepted (totalled s fs rs))
          ≡ total_of (cond b (refused 10 0) (and_then q λ rs. accepted (record { answers = rs; total = reads_of (groups fs rs) })))
      go true q = refl
      go false (accepted rs) = ap accepted (omega (arith, unopened (groups fs rs)))
      go false (refused n i) = refl

  bad-outcome : {B : ℕ} → size_of (length img) ≡ some B → (ks : List ℕ)
      → result_of (runs (started_at 1 (some B) 11) ks) ≡ total_of (cond (descends 0 (map (front_of B) ks)) (refused 10 0) (refused 11 0))
  bad-outcome {B} e ks = runs-outcome ks (started_at 1 (some B) 11) e ∙ go (descends 0 (map (front_of B) ks))
    where
      go : (b : Bool) → cond b (refused 10 0) (refused 11 0) ≡ total_of (cond b (refused 10 0) (refused 11 0))
      go true = refl
      go false = refl

-- ---- three sweeps of an image with its tail
module _ (L : Layout) (layouts : Numbering) (img : List ℕ) where
  -- its size, and the number that stands before the test
  abbrev size : Option ℕ
  size = size_of (length (body img))

  abbrev stands : ℕ
  stands = number (opened layouts img)

  -- what the second leaves
  abbrev run : List Entry → State
  run es = state_after L (body img) (started_at 1 size stands) es

  tested-is : (es : List Entry) → (tested_state L (body img) (begun layouts img) es ≡ run es) × (tested_row L (body img) (begun layouts img) es ≡ es)
  tested-is es =
      let f = fetched-swept L (body img) es size stands in (
        (λ i. state_after L (body img) (f.0 i) (f.1 i)),
        (λ i. row_after L (body img) (f.0 i) (f.1 i)) ∙ (tested-swept L (body img) es size stands).1,
      )

  run-size : (es : List Entry) {B : ℕ} → size ≡ some B → (run es).size ≡ B
  run-size es {B} e =
      rw (e, (all_tested L (body img) es (started_at 1 (some B) stands)).0) (runs-keeps L (body img) (hashes es) (started_at 1 (some B) stands)).1

  -- so the third starts with what the second came to
  third-starts : (es : List Entry) → resumed (tested_state L (body img) (begun layouts img) es) ≡ settled (run es)
  third-starts es = ap resumed (tested-is es).0 ∙ (tested-swept L (body img) es size stands).0

  -- each entry is ready in its turn, in the first and in the second
  pub first-ready : (es : List Entry) → AllReady L (body img) (begun layouts img) es
  first-ready es = go size refl
    where
      go : (o : Option ℕ) → size ≡ o → AllReady L (body img) (started_at 0 o stands) es
      go none e = passed-ready L (body img) es (started_at 0 none stands)
      go (some B) e = fetched-ready L (body img) es (started_at 0 (some B) stands) (whole_of (body img) e)

  pub second-ready : Fits64 L → (es : List Entry)
      → AllReady L (body img) (resumed (state_after L (body img) (begun layouts img) es)) (row_after L (body img) (begun layouts img) es)
  second-ready fits es =
      let f = fetched-swept L (body img) es size stands in
      rw (f.0, f.1) (go size refl)
    where
      go : (o : Option ℕ) → size ≡ o → AllReady L (body img) (started_at 1 o stands) es
      go none e = passed-ready L (body img) es (started_at 1 none stands)
      go (some B) e = tested-ready L (body img) fits es (started_at 1 (some B) stands) (λ bytes. known-started L (body img) e stands)

  -- where it can be opened it is of layout L
  module _ (only : Only L layouts img) where
    -- so the test comes to the row of the image with its tail
    run-outcome : (es : List Entry) → result_of (run es) ≡ total_of (row_of layouts img (hashes es))
    run-outcome es = go size (opened layouts img) refl refl
      where
        go : (o : Option ℕ) (r : Result Header) → size ≡ o → opened layouts img ≡ r
            → result_of (state_after L (body img) (started_at 1 o (number r)) es) ≡ total_of (row_of layouts img (hashes es))
        go none r s q = rw ((all-passed L (body img) es (started_at 1 none (number r))).0, row-unsized layouts img (hashes es) s)
        go (some B) (accepted h) s q =
            rw ((all_tested L (body img) es (started_at 1 (some B) 0)).0, row_opened layouts img (hashes es) q, only h q) (good-outcome L (body img) s (hashes es))
        go (some B) (refused n i) s q =
            rw (tail-refused layouts img s q, (all_tested L (body img) es (started_at 1 (some B) 11)).0, row-barred layouts img (hashes es) s q)
            (bad-outcome L (body img) s (hashes es))

    -- each entry is ready in the third
    pub third-ready : (es : List Entry)
        → AllReady L (body img) (resumed (tested_state L (body img) (begun layouts img) es)) (tested_row L (body img) (begun layouts img) es)
    third-ready es =
        rw (third-starts es, (tested-is es).1) (go (eqb (run es).number 0) (row_of layouts img (hashes es)) refl refl (run-outcome es))
      where
        -- in the phase that the test led to
        in-phase : (b : Bool) → eqb (run es).number 0 ≡ b → ReadyFrom L (body img) (cond b 2 3) (settled (run es)) es
            → AllReady L (body img) (settled (run es)) es
        in-phase b z = subst (λ (c : Bool). ReadyFrom L (body img) (cond c 2 3) (settled (run es)) es) (sym z)

        go : (b : Bool) (r : Result Row) → eqb (run es).number 0 ≡ b → row_of layouts img (hashes es) ≡ r
            → cond b (accepted (run es).total) (refusal_of (run es)) ≡ total_of r → AllReady L (body img) (settled (run es)) es
        go true (accepted w) z h e =
            let a = row-answered L (body img) (hashes es) (row-accepted layouts img (hashes es) only h) in
            in-phase true z (told-ready L (body img) es a.asks (settled (run es)) (rw (run-size es a.sized) (whole_of (body img) a.sized)))
        go true (refused n i) z h e = absurd (never-refused e)
        go false r z h e = in-phase false z (passed-ready L (body img) es (settled (run es)))

    -- the entries after the third
    entries-swept : (es : List Entry) → cond (eqb (run es).number 0) (map (told L (body img)) es) es ≡ entries_of (row_of layouts img (hashes es)) es
    entries-swept es = go (eqb (run es).number 0) (row_of layouts img (hashes es)) refl (run-outcome es)
      where
        go : (b : Bool) (r : Result Row) → row_of layouts img (hashes es) ≡ r → cond b (accepted (run es).total) (refusal_of (run es)) ≡ total_of r
            → cond b (map (told L (body img)) es) es ≡ entries_of r es
        go true (accepted w) h e =
            told-all L (body img) es (row-answered L (body img) (hashes es) (row-accepted layouts img (hashes es) only h)).asks
        go true (refused n i) h e = absurd (never-refused e)
        go false (accepted w) h e = absurd (refusal-never (run es) e)
        go false (refused n i) h e = refl

    -- what the three leave is the row of the image with its tail
    pub all-swept : (es : List Entry) → (result_of (told_state L (body img) (begun layouts img) es) ≡ total_of (row_of layouts img (hashes es)))
        × (told_row L (body img) (begun layouts img) es ≡ entries_of (row_of layouts img (hashes es)) es)
    all-swept es =
        let t = third-starts es in
        let r = (tested-is es).1 in
        let told = told-swept L (body img) (eqb (run es).number 0) es (settled (run es)) refl in (
          ap result_of ((λ i. state_after L (body img) (t i) (r i)) ∙ told.0) ∙ run-outcome es,
          (λ i. row_after L (body img) (t i) (r i)) ∙ told.1 ∙ entries-swept es,
        )
