-- A stretch xs whose members from `at` on move up or down by `gap`, n of them a turn: `mixed at xs ys`, where ys is xs moved, zeros coming in.
-- Main results: `up-part`, `up_turn`, `up-last`, `up-stored` of one that moves up, `down-part`, `down_turn`, `last_turn`, `down-whole` of one that moves down.
use Rattle.std.proofs.Common.{◌≡◌, ℕ, zero, suc, ◌+◌, ◌-◌, ◌≤◌, List, [], ◌∷◌, ◌++◌, length, take, drop, replicate, sym, ap, ◌∙◌, ap₂, append_assoc, append-nil, zero-add, arith, length-append, length-drop, take-append-drop, drop_of_length-le, length-take-le, take_all, take-take, drop-drop, take_at, take-add, drop_at}
use native.Mathlib.Nat.{sub-zero, suc-sub-suc, zero-sub}
use lib.ListN.{length-replicate}
use lib.Seq.{take-nil, take-append-le, drop-append-le, drop-append-add}
use Rattle.shifts.specs.Steps.Shifts.{inserted, taken_out, mixed}
use Rattle.buckets.proofs.PieceLaws.{take-over}
use Rattle.shifts.proofs.LaneLaws.{length-mixed, mixed-part}

-- ---- parts

drop-take : (p k : ℕ) (l : List ℕ) → drop p (take k l) ≡ take (k - p) (drop p l)
drop-take zero k l = rw (sub-zero k)
drop-take (suc p) zero l = rw (zero-sub (suc p))
drop-take (suc p) (suc k) [] = sym (take-nil {A = ℕ} (suc k - suc p))
drop-take (suc p) (suc k) (x ∷ l) = rw (suc-sub-suc k p) (drop-take p k l)

-- n members from p on, all in front of k
part-take : (n p k : ℕ) (l : List ℕ) → p + n ≤ k → take n (drop p (take k l)) ≡ take n (drop p l)
part-take n p k l h = rw (drop-take p k l) (take-take n (k - p) (drop p l) (omega arith))

part-front : (n p k : ℕ) (s l : List ℕ) → p + n ≤ k → take k s ≡ take k l → take n (drop p s) ≡ take n (drop p l)
part-front n p k s l h e = sym (part-take n p k s h) ∙ ap (λ (r : List ℕ). take n (drop p r)) e ∙ part-take n p k l h

module _ (k : ℕ) (xs ys : List ℕ) where
  mixed-front : k ≤ length xs → take k (mixed k xs ys) ≡ take k xs
  mixed-front h = take_at (take k xs) (drop k ys) k (length-take-le k xs h)

  pub mixed-under : (o : ℕ) → o ≤ k → k ≤ length xs → take o (mixed k xs ys) ≡ take o xs
  mixed-under o l h = sym (take-take o k (mixed k xs ys) l) ∙ ap (take o) (mixed-front h) ∙ take-take o k xs l

  pub mixed-back : (o : ℕ) → k ≤ length xs → k ≤ o → drop o (mixed k xs ys) ≡ drop o ys
  mixed-back o h l =
      let all : k + (o - k) ≡ o = omega arith in
      let back : drop k (mixed k xs ys) ≡ drop k ys = drop_at (take k xs) (drop k ys) k (length-take-le k xs h) in
      rw (sym all) (sym (drop-drop (o - k) k (mixed k xs ys)) ∙ ap (drop (o - k)) back ∙ drop-drop (o - k) k ys)

-- ---- a turn

module _ (n o : ℕ) (xs s w t : List ℕ) (long : length t ≡ length xs) (room : o + n ≤ length xs) (part : w ≡ take n (drop o t)) where
  -- the members from o + n on are done: those at o are next
  pub up_turn : s ≡ mixed (o + n) xs t → take o s ++ (w ++ drop (o + n) s) ≡ mixed o xs t
  up_turn e =
      let front : take o s ≡ take o xs = ap (take o) e ∙ mixed-under (o + n) xs t o (omega arith) room in
      let back : drop (o + n) s ≡ drop n (drop o t) = ap (drop (o + n)) e ∙ mixed-back (o + n) xs t (o + n) room (omega arith) ∙ sym (drop-drop n o t) in
      rw (front, part, back, take-append-drop n (drop o t))

  -- the members in front of o are done
  pub down_turn : s ≡ mixed o t xs → take o s ++ (w ++ drop (o + n) s) ≡ mixed (o + n) t xs
  down_turn e =
      let front : take o s ≡ take o t = ap (take o) e ∙ mixed-front o t xs (omega arith) in
      let back : drop (o + n) s ≡ drop (o + n) xs = ap (drop (o + n)) e ∙ mixed-back o t xs (o + n) (omega arith) (omega arith) in
      rw (front, part, back, take-add o n t) (sym (append_assoc (take o t) (take n (drop o t)) (drop (o + n) xs)))

-- the last n members are put in, though some of them may be done
pub last_turn : (n o last : ℕ) (xs s w t : List ℕ) → length t ≡ length xs → last + n ≡ length xs → last ≤ o → o ≤ length xs
    → w ≡ take n (drop last t) → s ≡ mixed o t xs → take last s ++ (w ++ drop (last + n) s) ≡ t
last_turn n o last xs s w t long all h k part e =
    let front : take last s ≡ take last t = ap (take last) e ∙ mixed-under o t xs last h (omega arith) in
    let same : length s ≡ length xs = ap length e ∙ length-mixed o t xs long ∙ long in
    let none : drop (last + n) s ≡ [] = drop_of_length-le s {i = last + n} (omega arith) in
    let whole : take n (drop last t) ≡ drop last t = take_all n (drop last t) (rw (length-drop last t) (omega arith)) in
    rw (front, part, none, whole, append-nil (drop last t)) (take-append-drop last t)

-- the first n members, and then the last n, of a stretch that is done between them
pub up-last : (n end last : ℕ) (xs s s2 s3 low top t : List ℕ) → length t ≡ length xs → last + n ≡ length xs → n ≤ end → last ≤ end → end ≤ length xs
    → s ≡ mixed n xs (mixed end t xs) → low ≡ take n t → s2 ≡ take 0 s ++ (low ++ drop n s)
    → top ≡ take n (drop last t) → s3 ≡ take last s2 ++ (top ++ drop (last + n) s2) → s3 ≡ t
up-last n end last xs s s2 s3 low top t long all h k l e first f part g =
    let u : List ℕ = mixed end t xs in
    let same : length u ≡ length xs = length-mixed end t xs long ∙ long in
    let low2 : low ≡ take n u = first ∙ sym (mixed-under end t xs n h (omega arith)) in
    let most : s2 ≡ u = f ∙ rw (zero-add n) at (up_turn n 0 xs s low u same (omega arith) low2 (rw (zero-add n) e)) in
    g ∙ last_turn n end last xs s2 top t long all k l part most

-- ---- moved up and down

-- all members by `gap` further on, zeros in front, and by `gap` back, zeros behind
abbrev pub moved_up : ℕ → List ℕ → List ℕ
moved_up gap xs = take (length xs) (replicate {A = ℕ} gap 0 ++ xs)

abbrev pub moved_down : ℕ → List ℕ → List ℕ
moved_down gap xs = drop gap xs ++ replicate {A = ℕ} gap 0

module _ (gap : ℕ) (xs : List ℕ) (fits : gap ≤ length xs) where
  pub length_up : length xs ≡ length (moved_up gap xs)
  length_up = sym (length-take-le (length xs) (replicate {A = ℕ} gap 0 ++ xs) (omega (arith, length-append (replicate {A = ℕ} gap 0) xs)))

  pub length-down : length xs ≡ length (moved_down gap xs)
  length-down = omega (arith, length-append (drop gap xs) (replicate {A = ℕ} gap 0), length-drop gap xs, length-replicate {A = ℕ} gap 0)

  -- behind the zeros
  moved_back : (o : ℕ) → gap ≤ o → drop o (replicate {A = ℕ} gap 0 ++ xs) ≡ drop (o - gap) xs
  moved_back o h =
      let all : length (replicate {A = ℕ} gap 0) + (o - gap) ≡ o = omega (arith, length-replicate {A = ℕ} gap 0) in
      rw all at (drop-append-add (replicate {A = ℕ} gap 0) xs (o - gap))

  -- n members of the one moved are those `gap` in front, and those `gap` behind
  part_up : (n o : ℕ) → gap ≤ o → o + n ≤ length xs → take n (drop o (moved_up gap xs)) ≡ take n (drop (o - gap) xs)
  part_up n o h l = part-take n o (length xs) (replicate {A = ℕ} gap 0 ++ xs) l ∙ ap (take n) (moved_back o h)

  part-down : (n o : ℕ) → o + gap + n ≤ length xs → take n (drop o (moved_down gap xs)) ≡ take n (drop (o + gap) xs)
  part-down n o l =
      let turned : gap + o ≡ o + gap = omega arith in
      rw (drop-append-le o (drop gap xs) (replicate {A = ℕ} gap 0) (rw (length-drop gap xs) (omega arith)), drop-drop o gap xs, turned)
      (take-append-le n (drop (o + gap) xs) (replicate {A = ℕ} gap 0) (rw (length-drop (o + gap) xs) (omega arith)))

  -- the members at o are those of xs and of xs moved, as the turns read them
  pub up-part : (at n o k : ℕ) (s t w : List ℕ) → gap ≤ o → o + n ≤ k → k ≤ length xs → take k s ≡ take k xs → take k t ≡ take k (mixed at xs (moved_up gap xs))
      → w ≡ mixed (at - o) (take n (drop o s)) (take n (drop (o - gap) s)) → w ≡ take n (drop o t)
  up-part at n o k s t w h l r e f word =
      word ∙ ap₂ (mixed (at - o)) (part-front n o k s xs l e) (part-front n (o - gap) k s xs (omega arith) e ∙ sym (part_up n o h (omega arith)))
      ∙ sym (mixed-part n o at xs (moved_up gap xs) length_up) ∙ sym (part-front n o k t (mixed at xs (moved_up gap xs)) l f)

  pub down-part : (at n o : ℕ) (s w : List ℕ) → o + gap + n ≤ length xs → drop o s ≡ drop o xs
      → w ≡ mixed (at - o) (take n (drop o s)) (take n (drop (o + gap) s)) → w ≡ take n (drop o (mixed at xs (moved_down gap xs)))
  down-part at n o s w l e word =
      let far : drop (o + gap) s ≡ drop (o + gap) xs = sym (drop-drop gap o s) ∙ ap (drop gap) e ∙ drop-drop gap o xs in
      word ∙ ap₂ (mixed (at - o)) (ap (take n) e) (ap (take n) far ∙ sym (part-down n o l))
      ∙ sym (mixed-part n o at xs (moved_down gap xs) length-down)

  -- what is put in takes the place of the members that did not move
  pub up-stored : (at : ℕ) (vs : List ℕ) → length vs ≡ gap → at + gap ≤ length xs → let t : List ℕ = mixed at xs (moved_up gap xs) in
      take at t ++ (vs ++ drop (at + gap) t) ≡ take (length xs) (inserted at vs xs)
  up-stored at vs e h =
      let t : List ℕ = mixed at xs (moved_up gap xs) in
      let front : length (take at xs) ≡ at = length-take-le at xs (omega arith) in
      let here : at + gap - gap ≡ at = omega arith in
      let room : length xs - at - gap ≡ length xs - (at + gap) = omega arith in
      let back : drop (at + gap) t ≡ take (length xs - (at + gap)) (drop at xs) =
      mixed-back at xs (moved_up gap xs) (at + gap) (omega arith) (omega arith) ∙ drop-take (at + gap) (length xs) (replicate {A = ℕ} gap 0 ++ xs)
      ∙ ap (take (length xs - (at + gap))) (rw here at (moved_back (at + gap) (omega arith))) in
      let rest : take (length xs - at) (vs ++ drop at xs) ≡ vs ++ take (length xs - (at + gap)) (drop at xs) =
      rw (e, room) at (take-over (length xs - at) vs (drop at xs) (omega arith)) in
      rw (mixed-front at xs (moved_up gap xs) (omega arith), back)
      (sym (rw (front, rest) at (take-over (length xs) (take at xs) (vs ++ drop at xs) (omega arith))))

  pub down-whole : (at : ℕ) → at + gap ≤ length xs → mixed at xs (moved_down gap xs) ≡ taken_out at gap xs
  down-whole at h =
      let turned : gap + at ≡ at + gap = omega arith in
      ap (λ (r : List ℕ). take at xs ++ r)
      (drop-append-le at (drop gap xs) (replicate {A = ℕ} gap 0) (rw (length-drop gap xs) (omega arith)) ∙ rw (drop-drop at gap xs, turned))
