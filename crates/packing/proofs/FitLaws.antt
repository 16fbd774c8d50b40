-- The value of each call on an image is below 2^56: answers and table numbers are small, and members are few. First the calls on a body.
-- Main results: fresh-fits, check-fits, tail-fits, insert-fits, delete-fits, ask-fits, row_fits, count_fits, page-fits, occupancy-fits,
-- merge-fits, attach-fits, detach-fits.
use mathlib.Core.Path.{◌≡◌, refl, sym}
use Prim.Native.Nat.{ℕ, zero, suc, ◌+◌, ◌*◌, ◌-◌, ◌^◌, ◌≤◌, ◌<◌}
use mathlib.Core.Bool.{Bool, true, false, cond, ◌&&◌}
use mathlib.Core.List.{List, [], ◌∷◌, map}
use mathlib.Core.Option.{Option, none, some}
use native.Mathlib.Omega.{arith}
use lib.ListN.{length, drop}
use lib.Dec.{leb, ltb, eqb}
use borrow.Author.Tests.{ltb-true, ltb-false}
use Rattle.multiset.specs.Multisets.{Below, copies, all_zero, Found, found_in, largest, added, removed}
use Rattle.multiset.proofs.MultisetLaws.{copies-le-length}
use Rattle.crumbmap.specs.Layouts.{layout1, known, fronts, backyards}
use Rattle.crumbmap.specs.Fingerprints.{front_of, key_of}
use Rattle.crumbmap.specs.CrumbMap.{first_bucket, second_bucket, first_crumb, second_crumb, bucket_of, crumb_of}
use Rattle.crumbmap.proofs.CrumbMapLaws.{bucket_of-lt}
use Rattle.crumbmap.proofs.FingerprintLaws.{front_of-lt}
use Rattle.buckets.specs.Buckets.{carrying, front_members, back_members}
use Rattle.machine.specs.Results.{Result, accepted, refused, and_then, or_unsound, or_refused}
use Rattle.machine.specs.Images.{sized, size_of, front_at, back_at, put_back, bucket_at}
use Rattle.machine.specs.Bags.{has, from_first}
use Rattle.machine.specs.Machine.{Change, Place, front, first, second, Asked, changed, asked, counted, backyard, overflow, taker, take_in, insert_at, take_out, refill, delete_at, reads_behind, ask_second, ask_at, count_at, members_at}
use Rattle.machine.specs.Pages.{Run, run_from, page_from}
use Rattle.machine.specs.Checks.{or_later, unsound_front, unsound_back, bucket_in_turn, early, check_sized}
use Rattle.machine.specs.Merges.{insert_all, merge_from}
use Rattle.machine.specs.Calls as M
use Rattle.machine.specs.Rows as R
use Rattle.machine.specs.Rows.{Row, descends}
use Rattle.machine.specs.OccupancyPages as O
use Rattle.machine.specs.OccupancyPages.{page_lines, page_bytes, blank_line, line_at, lines_from, print_from}
use Rattle.machine.proofs.ImageLaws.{size_of-some}
use Rattle.machine.proofs.ChoiceLaws.{reads-most}
use Rattle.machine.proofs.OccupancyLaws.{line-members}
use Rattle.machine.proofs.RowLaws.{of-search, row-total, row-refused}
use Rattle.machine.proofs.RoomLaws.{front_at-room, back_at-room, backyard-room, run-count, found-room}
use Rattle.form.specs.Tails.{Tail, Header, body, rest, tail_in, mark_of, slots, members, raised, lowered, header_by, headed, opened, top}
use Rattle.form.specs.Calls.{changed_by, checked_by, merged_by, unchanged, fresh_of, insert_of, delete_of, ask_of, count_of, row_of, page_of, occupancy_of, check_of, tail_of, merge_sized_of, merge_of}
use Rattle.form.specs.Moves.{attach_of, detach_of}
use Rattle.answers.specs.Pairs.{answer_value}
use Rattle.packing.specs.Packing.{Within, taken, barred, nothing, place_word, ask_word, count_word, run_word, row_word}
use Rattle.packing.specs.Totals.{tail_into}
use Rattle.packing.proofs.ResultLaws.{within-accepted, within-then, within-cond, within-unless}

abbrev cap : ℕ
cap = 2 ^ 56

-- ---- answers that are small

bar : {A : Type 0} {v : A → ℕ} (m i : ℕ) → m < 256 → i < cap → Within v cap (refused m i)
bar m i h k = barred h k

pass : {A : Type 0} (a : A) → Within nothing cap (accepted a)
pass a = taken {a = a} (omega arith)

changed-fits : (n : ℕ) (img : List ℕ) → n < cap → Within answer_value cap (changed n img)
changed-fits n img h = taken h

asked-fits : (a : Asked) → ask_word a < cap → Within ask_word cap (accepted a)
asked-fits a h = taken h

-- what was found in a bucket of at most 64 members
found-fits : (n x : ℕ) (xs : List ℕ) (bag : ℕ → Place) (s : Found) → found_in x xs ≡ some s → length xs ≤ 64
    → n + place_word (bag s.slot) ≤ 64 + 256 * s.slot → Within ask_word cap (asked n bag s)
found-fits n x xs bag s e few h = let r = found-room x xs s e in asked-fits _ (omega (arith, r.0, r.1))

counted-fits : (n c : ℕ) → c + 2 ^ 32 * n < cap → Within count_word cap (counted n c)
counted-fits n c h = taken h

run_fits : (r : Run) → run_word r < cap → Within run_word cap (accepted r)
run_fits r h = taken h

-- ---- reads

sound-or_unsound : (i : ℕ) (o : Option (List ℕ)) → i < cap → Within nothing cap (or_unsound i o)
sound-or_unsound i none h = bar 3 i (omega arith) h
sound-or_unsound i (some xs) h = pass xs

-- an image of any length, then a call on one of size B
sized-fits : {A : Type 0} {v : A → ℕ} (img : List ℕ) (k : ℕ → Result A) → ((B : ℕ) → 0 < B → B ≤ 65536 → Within v cap (k B))
    → Within v cap (and_then (sized img) k)
sized-fits {A} {v} img k g = go (size_of (length img)) refl
  where
    go : (o : Option ℕ) → size_of (length img) ≡ o → Within v cap (and_then (or_refused 1 o) k)
    go none e = bar 1 0 (omega arith) (omega arith)
    go (some B) e = let s = size_of-some (length img) B e in g B s.1 s.2

module _ (B f : ℕ) (img : List ℕ) (l : B ≤ 65536) (h : f < fronts B) where
  front_at-sound : Within nothing cap (front_at layout1 f img)
  unfolding front_at fronts
  front_at-sound = sound-or_unsound f (front_members layout1 (bucket_at f img)) (omega arith)

  back_at-sound : (j : ℕ) → j < backyards B → Within nothing cap (back_at layout1 B j img)
  unfolding back_at fronts backyards
  back_at-sound j k = sound-or_unsound (8 * B + j) (back_members layout1 B j (bucket_at (8 * B + j) img)) (omega arith)

  backyard-sound : Within nothing cap (backyard layout1 B f img)
  backyard-sound =
      within-then (back_at layout1 B (first_bucket f) img) _ (back_at-sound (first_bucket f) (bucket_of-lt true B f h)) (λ ys e.
      within-then (back_at layout1 B (second_bucket B f) img) _ (back_at-sound (second_bucket B f) (bucket_of-lt false B f h)) (λ zs g. pass (ys, zs)))

  -- "1 + the backyard number"
  answer_lt : (t : Bool) → 1 + bucket_of t B f < cap
  unfolding backyards
  answer_lt t = omega (arith, bucket_of-lt t B f h)

  take_in-fits : (v : ℕ) (b : List ℕ × List ℕ) (i : List ℕ) → Within answer_value cap (take_in layout1 B f v b i)
  unfolding take_in
  take_in-fits v b i = go (taker layout1 (length b.0) (length b.1))
    where
      go : (o : Option Bool) → Within answer_value cap (and_then (or_refused 4 o) λ t.
          changed (1 + bucket_of t B f) (put_back layout1 B (bucket_of t B f) (added (v * 16 + crumb_of t f) (cond t b.0 b.1)) i))
      go none = bar 4 0 (omega arith) (omega arith)
      go (some t) = changed-fits (1 + bucket_of t B f) _ (answer_lt t)

  insert_at-fits : (x : ℕ) → Within answer_value cap (insert_at layout1 B f x img)
  unfolding insert_at
  insert_at-fits x =
      within-then (front_at layout1 f img) _ front_at-sound (λ xs e.
      within-cond (ltb (length xs) layout1.front_slots) _ _ (λ _. changed-fits 0 _ (omega arith)) (λ _.
      within-then (backyard layout1 B f img) _ backyard-sound (λ b g.
      take_in-fits (largest (added x xs)) b _)))

  take_out-fits : (v : ℕ) (b : List ℕ × List ℕ) (i : List ℕ) → Within answer_value cap (take_out layout1 B f v b i)
  unfolding take_out
  take_out-fits v b i =
      let t : Bool = from_first v (carrying (first_crumb f) b.0) (carrying (second_crumb f) b.1) (length b.0) (length b.1) in
      changed-fits (1 + bucket_of t B f) _ (answer_lt t)

  refill-fits : (xs vs : List ℕ) (b : List ℕ × List ℕ) (i : List ℕ) → Within answer_value cap (refill layout1 B f xs vs b i)
  unfolding refill
  refill-fits xs [] b i = changed-fits 0 _ (omega arith)
  refill-fits xs (v ∷ vs) b i = take_out-fits v b _

  delete_at-fits : (x : ℕ) → Within answer_value cap (delete_at layout1 B f x img)
  unfolding delete_at
  delete_at-fits x =
      within-then (front_at layout1 f img) _ front_at-sound (λ xs e.
      within-cond (has x xs) _ _
      (λ _. within-cond (ltb (length xs) layout1.front_slots) _ _ (λ _. changed-fits 0 _ (omega arith)) (λ _.
      within-then (backyard layout1 B f img) _ backyard-sound (λ b g. refill-fits (removed x xs) (overflow layout1 B f b) b img)))
      (λ _. within-cond (eqb (length xs) layout1.front_slots && ltb (largest xs) x) _ _ (λ _.
      within-then (backyard layout1 B f img) _ backyard-sound (λ b g.
      within-cond (has x (overflow layout1 B f b)) _ _ (λ _. take_out-fits x b img) (λ _. bar 5 0 (omega arith) (omega arith))))
      (λ _. bar 5 0 (omega arith) (omega arith))))

  ask_at-fits : (x : ℕ) → Within ask_word cap (ask_at layout1 B f x img)
  unfolding ask_at ask_second
  ask_at-fits x =
      within-then (front_at layout1 f img) _ front_at-sound (λ xs e.
      of-search (Within ask_word cap) (found_in x xs) (λ s d. found-fits 1 x xs front s d (omega (arith, front_at-room layout1 f img xs e)) (omega arith))
      (within-cond (eqb (length xs) layout1.front_slots && ltb (largest xs) x) _ _
      (λ _. within-then (back_at layout1 B (first_bucket f) img) _ (back_at-sound (first_bucket f) (bucket_of-lt true B f h)) (λ ys d.
      of-search (Within ask_word cap) (found_in (x * 16 + first_crumb f) ys)
      (λ s g. found-fits 2 (x * 16 + first_crumb f) ys first s g (omega (arith, back_at-room layout1 B (first_bucket f) img ys d)) (omega arith))
      (within-then (back_at layout1 B (second_bucket B f) img) _ (back_at-sound (second_bucket B f) (bucket_of-lt false B f h)) (λ zs g.
      of-search (Within ask_word cap) (found_in (x * 16 + second_crumb f) zs)
      (λ s k. found-fits (reads_behind B f) (x * 16 + second_crumb f) zs second s k (omega (arith, back_at-room layout1 B (second_bucket B f) img zs g))
      (omega (arith, reads-most B f)))
      (asked-fits _ (omega (arith, reads-most B f)))))))
      (λ _. asked-fits _ (omega arith))))

  count_at-fits : (x : ℕ) → Within count_word cap (count_at layout1 B f x img)
  unfolding count_at
  count_at-fits x =
      within-then (front_at layout1 f img) _ front_at-sound (λ xs e.
      within-cond (eqb (length xs) layout1.front_slots && leb (largest xs) x) _ _
      (λ _. within-then (backyard layout1 B f img) _ backyard-sound (λ b g.
      let r = backyard-room layout1 B f img b g in
      counted-fits (reads_behind B f) (copies x xs + copies (x * 16 + first_crumb f) b.0 + copies (x * 16 + second_crumb f) b.1)
      (omega (
        arith,
        copies-le-length x xs,
        front_at-room layout1 f img xs e,
        copies-le-length (x * 16 + first_crumb f) b.0,
        r.0,
        copies-le-length (x * 16 + second_crumb f) b.1,
        r.1,
        reads-most B f,
      ))))
      (λ _. counted-fits 1 (copies x xs) (omega (arith, copies-le-length x xs, front_at-room layout1 f img xs e))))

  members_at-sound : Within nothing cap (members_at layout1 B f img)
  unfolding members_at
  members_at-sound =
      within-then (front_at layout1 f img) _ front_at-sound (λ xs e.
      within-cond (ltb (length xs) layout1.front_slots) _ _ (λ _. pass xs) (λ _.
      within-then (backyard layout1 B f img) _ backyard-sound (λ b g. pass _)))

-- ---- calls at one front bucket

front_fits : {A : Type 0} {v : A → ℕ} (img : List ℕ) (hash : ℕ) (k : ℕ → ℕ → ℕ → Result A) → hash < 2 ^ 64
    → ((B f : ℕ) → B ≤ 65536 → f < fronts B → (x : ℕ) → Within v cap (k B f x))
    → Within v cap (and_then (sized img) λ B. k B (front_of B hash) (key_of layout1 hash))
front_fits img hash k h g = sized-fits img _ (λ B p l. g B (front_of B hash) l (front_of-lt B hash p h) (key_of layout1 hash))

insert-body : (b : List ℕ) (hash : ℕ) → hash < 2 ^ 64 → Within answer_value cap (M.insert_of layout1 b hash)
unfolding M.insert_of
insert-body b hash h = front_fits b hash (λ B f x. insert_at layout1 B f x b) h (λ B f l k x. insert_at-fits B f b l k x)

delete-body : (b : List ℕ) (hash : ℕ) → hash < 2 ^ 64 → Within answer_value cap (M.delete_of layout1 b hash)
unfolding M.delete_of
delete-body b hash h = front_fits b hash (λ B f x. delete_at layout1 B f x b) h (λ B f l k x. delete_at-fits B f b l k x)

ask-body : (b : List ℕ) (hash : ℕ) → hash < 2 ^ 64 → Within ask_word cap (M.ask_of layout1 b hash)
unfolding M.ask_of
ask-body b hash h = front_fits b hash (λ B f x. ask_at layout1 B f x b) h (λ B f l k x. ask_at-fits B f b l k x)

count-body : (b : List ℕ) (hash : ℕ) → hash < 2 ^ 64 → Within count_word cap (M.count_of layout1 b hash)
unfolding M.count_of
count-body b hash h = front_fits b hash (λ B f x. count_at layout1 B f x b) h (λ B f l k x. count_at-fits B f b l k x)

-- ---- pages

run_sound : (B n s room : ℕ) (img : List ℕ) → B ≤ 65536 → s + n ≤ fronts B → Within nothing cap (run_from layout1 B n s room img)
unfolding run_from
run_sound B zero s room img l h = pass _
run_sound B (suc n) s room img l h =
    within-then (members_at layout1 B s img) _ (members_at-sound B s img l (omega arith)) (λ xs e.
    within-cond (leb (length xs) room) _ _
    (λ _. within-then (run_from layout1 B n (suc s) (room - length xs) img) _ (run_sound B n (suc s) (room - length xs) img l (omega arith))
    (λ r g. pass _))
    (λ _. pass _))

page-body : (img : List ℕ) (start room : ℕ) → Within run_word cap (M.page_of layout1 img start room)
unfolding M.page_of page_from fronts
page-body img s room =
    sized-fits img _ (λ B p l.
    within-cond (ltb (8 * B) s) _ _ (λ _. bar 6 0 (omega arith) (omega arith)) (λ e.
    let k : s ≤ 8 * B = ltb-false (8 * B) s e in
    within-then (run_from layout1 B (8 * B - s) s room img) _ (run_sound B (8 * B - s) s room img l (omega arith)) (λ r g.
    let c = run-count layout1 B (8 * B - s) s room img r g in
    within-cond (eqb r.next s && ltb s (8 * B)) _ _ (λ _. bar 7 0 (omega arith) (omega arith)) (λ _. run_fits r (omega (arith, c.0, c.1))))))

-- ---- occupancy pages

lines-sound : (B n f : ℕ) (img : List ℕ) → B ≤ 65536 → Within nothing cap (lines_from layout1 B n f img)
unfolding lines_from
lines-sound B zero f img l = pass _
lines-sound B (suc n) f img l =
    within-then (cond (ltb f (fronts B)) (line_at layout1 B f img) (accepted (blank_line layout1))) _
    (within-cond (ltb f (fronts B)) _ _
    (λ e. rw (line-members layout1 B f img)
    (within-then (members_at layout1 B f img) _ (members_at-sound B f img l (ltb-true f (fronts B) e)) (λ xs g. pass _)))
    (λ _. pass _))
    (λ t e. within-then (lines_from layout1 B n (suc f) img) _ (lines-sound B n (suc f) img l) (λ ts g. pass _))

occupancy-body : (img : List ℕ) (p room : ℕ) → Within nothing cap (O.occupancy_of layout1 img p room)
unfolding O.occupancy_of print_from
occupancy-body img p room =
    sized-fits img _ (λ B q l.
    within-cond (leb (fronts B) (page_lines * p)) _ _ (λ _. bar 6 0 (omega arith) (omega arith)) (λ _.
    within-then (lines_from layout1 B page_lines (page_lines * p) img) _ (lines-sound B page_lines (page_lines * p) img l) (λ text e.
    within-cond (ltb room (page_bytes layout1)) _ _ (λ _. bar 7 0 (omega arith) (omega arith)) (λ _. pass text))))

-- ---- check, merge

or_later-lt : (n i : ℕ) (r : Result (List ℕ)) (o : Option ℕ) → Within nothing n r → ((j : ℕ) → o ≡ some j → j < n) → or_later r o ≡ some i → i < n
or_later-lt n i (accepted xs) o w g e = g i e
or_later-lt n i (refused m j) o (barred p q) g e = let s : j ≡ i = cc in rw (sym s) q

unsound_front-lt : (B n f : ℕ) (img : List ℕ) (i : ℕ) → B ≤ 65536 → f + n ≤ fronts B → unsound_front layout1 n f img ≡ some i → i < cap
unfolding unsound_front
unsound_front-lt B zero f img i l h e = let z : ◌≡◌ {A = ℕ} 0 1 = cc in absurd (omega arith)
unsound_front-lt B (suc n) f img i l h e =
    or_later-lt cap i (front_at layout1 f img) _ (front_at-sound B f img l (omega arith)) (λ j. unsound_front-lt B n (suc f) img j l (omega arith)) e

fronts-pos : (B : ℕ) → 0 < B → 0 < fronts B
unfolding fronts
fronts-pos B p = omega arith

unsound_back-lt : (B n j : ℕ) (img : List ℕ) (i : ℕ) → 0 < B → B ≤ 65536 → j + n ≤ backyards B → unsound_back layout1 B n j img ≡ some i → i < cap
unfolding unsound_back
unsound_back-lt B zero j img i p l h e = let z : ◌≡◌ {A = ℕ} 0 1 = cc in absurd (omega arith)
unsound_back-lt B (suc n) j img i p l h e =
    or_later-lt cap i (back_at layout1 B j img) _ (back_at-sound B 0 img l (fronts-pos B p) j (omega arith))
    (λ k. unsound_back-lt B n (suc j) img k p l (omega arith)) e

early-lt : (B n j : ℕ) (img : List ℕ) (i : ℕ) → B ≤ 65536 → j + n ≤ backyards B → early layout1 B n j img ≡ some i → i < cap
unfolding early fronts backyards
early-lt B zero j img i l h e = let z : ◌≡◌ {A = ℕ} 0 1 = cc in absurd (omega arith)
early-lt B (suc n) j img i l h e = go (bucket_in_turn layout1 B j img (back_at layout1 B j img)) _ (λ k. early-lt B n (suc j) img k l (omega arith)) e
  where
    go : (b : Bool) (o : Option ℕ) → ((k : ℕ) → o ≡ some k → k < cap) → cond b o (some (8 * B + j)) ≡ some i → i < cap
    go true o more g = more i g
    go false o more g = let s : 8 * B + j ≡ i = cc in omega arith

check_sized-fits : (B : ℕ) (img : List ℕ) → 0 < B → B ≤ 65536 → Within nothing cap (check_sized layout1 B img)
unfolding check_sized
check_sized-fits B img p l =
    within-unless _ _ (omega arith) (λ i. unsound_front-lt B (fronts B) 0 img i l (omega arith))
    (within-unless _ _ (omega arith) (λ i. unsound_back-lt B (backyards B) 0 img i p l (omega arith))
    (within-unless _ _ (omega arith) (λ i. early-lt B (backyards B) 0 img i l (omega arith)) (pass tt)))

insert_all-fits : (B f : ℕ) (xs img : List ℕ) → B ≤ 65536 → f < fronts B → Within nothing cap (insert_all layout1 B f xs img)
unfolding insert_all
insert_all-fits B f [] img l h = pass img
insert_all-fits B f (x ∷ xs) img l h =
    within-then (insert_at layout1 B f x img) _ (insert_at-fits B f img l h x) (λ c e. insert_all-fits B f xs c.image l h)

merge_from-fits : (B n f : ℕ) (a b img : List ℕ) → B ≤ 65536 → f + n ≤ fronts B → Within nothing cap (merge_from layout1 B n f a b img)
unfolding merge_from
merge_from-fits B zero f a b img l h = pass img
merge_from-fits B (suc n) f a b img l h =
    let k : f < fronts B = omega arith in
    within-then (members_at layout1 B f a) _ (members_at-sound B f a l k) (λ xs d.
    within-then (members_at layout1 B f b) _ (members_at-sound B f b l k) (λ ys e.
    within-then (insert_all layout1 B f xs img) _ (insert_all-fits B f xs img l k) (λ i g.
    within-then (insert_all layout1 B f ys i) _ (insert_all-fits B f ys i l k) (λ j m. merge_from-fits B n (suc f) a b j l (omega arith)))))

-- ---- a row

row-body : (b ks : List ℕ) → Below (2 ^ 64) ks → Within row_word cap (R.row_of layout1 b ks)
unfolding fronts
row-body b ks small = go (R.row_of layout1 b ks) refl
  where
    go : (r : Result Row) → R.row_of layout1 b ks ≡ r → Within row_word cap r
    go (accepted w) e =
        let t = row-total layout1 b ks small e in
        taken {a = w} (omega (arith, t.2, size_of-some (length b) t.0 t.1))
    go (refused n i) e = let z = row-refused layout1 b ks small e in bar n i (omega arith) (omega arith)

-- ---- an image opened

-- the header of an image of size B
abbrev header : ℕ → List ℕ → Header
header B img = record { size = B; number = mark_of img; layout = layout1; tail = tail_in (rest img) }

-- its tail, then what goes on with the header
headed-fits : {A : Type 0} {v : A → ℕ} (B : ℕ) (img : List ℕ) (k : Header → Result A) → Within v cap (k (header B img))
    → Within v cap (and_then (headed known B img) k)
unfolding headed
headed-fits {A} {v} B img k g = go (eqb (mark_of img) 1)
  where
    tested : (b : Bool) → Within v cap (and_then (cond b (accepted (header B img)) (refused 11 0)) k)
    tested true = g
    tested false = bar 11 0 (omega arith) (omega arith)

    go : (b : Bool) → Within v cap (and_then (header_by (cond b (some layout1) none) B img) k)
    go true = tested (all_zero (drop 17 (rest img)) && leb (tail_in (rest img)).total (slots layout1 B))
    go false = bar 11 0 (omega arith) (omega arith)

-- an image of any length
opened-fits : {A : Type 0} {v : A → ℕ} (img : List ℕ) (k : Header → Result A) → ((B : ℕ) → 0 < B → B ≤ 65536 → Within v cap (k (header B img)))
    → Within v cap (and_then (opened known img) k)
unfolding opened
opened-fits {A} {v} img k g = go (size_of (length (body img))) refl
  where
    go : (o : Option ℕ) → size_of (length (body img)) ≡ o → Within v cap (and_then (and_then (or_refused 1 o) λ B. headed known B img) k)
    go none e = bar 1 0 (omega arith) (omega arith)
    go (some B) e = let s = size_of-some (length (body img)) B e in headed-fits B img k (g B s.1 s.2)

-- a change of the body and of the tail
changed_by-fits : (h : Header) (m : Result Change) (u : Result Tail) → Within answer_value cap m → Within nothing cap u
    → Within answer_value cap (changed_by h m u)
unfolding changed_by
changed_by-fits h m u f g =
    within-cond (eqb h.tail.changes top) _ _ (λ _. bar 13 0 (omega arith) (omega arith)) (λ _.
    within-then m _ f (λ c d.
    within-then u _ g (λ t e. changed-fits c.answer _ (within-accepted (rw d at f)))))

raised-fits : (B : ℕ) (t : Tail) → Within nothing cap (raised layout1 B t)
unfolding raised
raised-fits B t = within-cond (ltb t.total (slots layout1 B)) _ _ (λ _. pass _) (λ _. bar 12 0 (omega arith) (omega arith))

lowered-fits : (t : Tail) → Within nothing cap (lowered t)
unfolding lowered
lowered-fits t = within-cond (eqb t.total 0) _ _ (λ _. bar 12 0 (omega arith) (omega arith)) (λ _. pass _)

-- the body checked, and the total
checked_by-fits : (B : ℕ) (img b : List ℕ) → 0 < B → B ≤ 65536 → Within nothing cap (checked_by (header B img) b)
unfolding checked_by
checked_by-fits B img b p l =
    within-then (check_sized layout1 B b) _ (check_sized-fits B b p l) (λ _ e.
    within-cond (eqb (tail_in (rest img)).total (members layout1 B b)) _ _ (λ _. pass tt) (λ _. bar 12 0 (omega arith) (omega arith)))

-- ---- the calls

pub fresh-fits : (img : List ℕ) → Within nothing cap (fresh_of known 1 img)
unfolding fresh_of
fresh-fits img = sized-fits (body img) _ (λ B p l. pass _)

pub check-fits : (img : List ℕ) → Within nothing cap (check_of known img)
unfolding check_of
check-fits img = opened-fits img _ (λ B p l. checked_by-fits B img (body img) p l)

tail-sound : (img : List ℕ) → Within nothing cap (tail_of known img)
unfolding tail_of
tail-sound img = opened-fits img _ (λ B p l. pass _)

pub tail-fits : (img : List ℕ) (room : ℕ) → Within nothing cap (tail_into known img room)
tail-fits img room =
    within-then (tail_of known img) _ (tail-sound img) (λ t e.
    within-cond (ltb room 2) _ _ (λ _. bar 7 0 (omega arith) (omega arith)) (λ _. pass _))

pub insert-fits : (img : List ℕ) (hash : ℕ) → hash < 2 ^ 64 → Within answer_value cap (insert_of known img hash)
unfolding insert_of
insert-fits img hash h =
    opened-fits img _ (λ B p l. changed_by-fits (header B img) _ _ (insert-body (body img) hash h) (raised-fits B (tail_in (rest img))))

pub delete-fits : (img : List ℕ) (hash : ℕ) → hash < 2 ^ 64 → Within answer_value cap (delete_of known img hash)
unfolding delete_of
delete-fits img hash h =
    opened-fits img _ (λ B p l. changed_by-fits (header B img) _ _ (delete-body (body img) hash h) (lowered-fits (tail_in (rest img))))

pub ask-fits : (img : List ℕ) (hash : ℕ) → hash < 2 ^ 64 → Within ask_word cap (ask_of known img hash)
unfolding ask_of
ask-fits img hash h = opened-fits img _ (λ B p l. ask-body (body img) hash h)

pub count_fits : (img : List ℕ) (hash : ℕ) → hash < 2 ^ 64 → Within count_word cap (count_of known img hash)
unfolding count_of
count_fits img hash h = opened-fits img _ (λ B p l. count-body (body img) hash h)

pub row_fits : (img ks : List ℕ) → Below (2 ^ 64) ks → Within row_word cap (row_of known img ks)
unfolding row_of
row_fits img ks small =
    sized-fits (body img) _ (λ B p l.
    within-cond (descends 0 (map (front_of B) ks)) _ _ (λ _. bar 10 0 (omega arith) (omega arith)) (λ _.
    headed-fits B img _ (row-body (body img) ks small)))

pub page-fits : (img : List ℕ) (start changes room : ℕ) → Within run_word cap (page_of known img start changes room)
unfolding page_of unchanged
page-fits img s n room =
    opened-fits img _ (λ B p l.
    within-cond (eqb (tail_in (rest img)).changes n) _ _ (λ _. page-body (body img) s room) (λ _. bar 14 0 (omega arith) (omega arith)))

pub occupancy-fits : (img : List ℕ) (p room : ℕ) → Within nothing cap (occupancy_of known img p room)
unfolding occupancy_of
occupancy-fits img p room = opened-fits img _ (λ B q l. occupancy-body (body img) p room)

pub merge-fits : (a b target : List ℕ) → Within nothing cap (merge_of known a b target)
unfolding merge_of merge_sized_of merged_by
merge-fits a b target =
    sized-fits (body a) _ (λ B p l.
    sized-fits (body b) _ (λ C q m.
    sized-fits (body target) _ (λ D r n.
    within-cond (eqb B C && eqb B D) _ _ (λ _.
    headed-fits B a _
    (headed-fits B b _
    (within-cond (eqb (mark_of a) (mark_of b)) _ _ (λ _.
    within-then (checked_by (header B a) (body a)) _ (checked_by-fits B a (body a) p l) (λ _ d.
    within-then (checked_by (header B b) (body b)) _ (checked_by-fits B b (body b) p l) (λ _ e.
    within-then (merge_from layout1 B (fronts B) 0 (body a) (body b) _) _ (merge_from-fits B (fronts B) 0 (body a) (body b) _ l (omega arith))
    (λ c g. pass _))))
    (λ _. bar 2 0 (omega arith) (omega arith)))))
    (λ _. bar 2 0 (omega arith) (omega arith)))))

-- ---- the moves

pub attach-fits : (old target : List ℕ) → Within nothing cap (attach_of known 1 old target)
unfolding attach_of
attach-fits old target =
    sized-fits old _ (λ B p l.
    sized-fits (body target) _ (λ C q m.
    within-cond (eqb B C) _ _ (λ _. within-then (check_sized layout1 B old) _ (check_sized-fits B old p l) (λ _ e. pass _))
    (λ _. bar 2 0 (omega arith) (omega arith))))

pub detach-fits : (img target : List ℕ) → Within nothing cap (detach_of known 1 img target)
unfolding detach_of
detach-fits img target =
    sized-fits (body img) _ (λ B p l.
    sized-fits target _ (λ C q m.
    within-cond (eqb B C) _ _ (λ _.
    headed-fits B img _
    (within-cond (eqb (mark_of img) 1) _ _
    (λ _. within-then (checked_by (header B img) (body img)) _ (checked_by-fits B img (body img) p l) (λ _ e. pass _))
    (λ _. bar 11 0 (omega arith) (omega arith))))
    (λ _. bar 2 0 (omega arith) (omega arith))))
