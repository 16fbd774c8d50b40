-- The turns that the program has made, one more at a time. Main result: ran-whole.
use mathlib.Core.Path.{◌≡◌}
use Prim.Native.Nat.{ℕ, ◌+◌, ◌-◌, ◌≤◌, ◌<◌}
use mathlib.Core.List.{List, [], ◌∷◌, ◌++◌}
use native.Mathlib.Omega.{arith}
use lib.ListN.{length, take, drop}
use lib.Seq.{length-take-le, length-slice}
use Rattle.lines.specs.Inputs.{start_image, image_of_input}
use Rattle.lines.specs.Steps.Turns.{Steps, Taken, none, step, start, piece, joined}
use Rattle.lines.specs.declared.Step.{Step}
use Rattle.lines.proofs.TurnLaws.{whole}
use Rattle.frames.specs.Steps.Runs.{Took, Came, Ran}

pub took-none : (img held p : List ℕ) → Took img held p 0 img held
took-none img held p = record { text = []; taken = none }

pub took_more : {img held p img₁ held₁ img₂ line out : List ℕ} {at : ℕ} {s : Step} → Took img held p at img₁ held₁
    → Steps img₁ held₁ (drop at p) s img₂ line out → Took img held p (at + s.used) img₂ (take s.held line)
took_more t u = record { text = _; taken = step t.taken u }

-- a step takes in at least one of the bytes that are left, and no more than those
pub used-within : {img held img' line out : List ℕ} {s : Step} (buffer : List ℕ) (at n : ℕ) → n ≤ length buffer → at < n
    → Steps img held (drop at (take n buffer)) s img' line out → (at + s.used ≤ n) × (0 < s.used)
used-within buffer at n h l p =
    let e : length (drop at (take n buffer)) ≡ n - at = length-slice at n buffer h in
    (omega (arith, p.within), p.some (omega arith))

pub came-none : (img line : List ℕ) → img ≡ start_image → Came img (take 0 line)
came-none img line e = rw e (record { pieces = []; text = []; run = start })

pub came-more : {img held img' held' : List ℕ} (buffer : List ℕ) (n : ℕ) → n ≤ length buffer → Came img held
    → Took img held (take n buffer) n img' held' → Came img' held'
came-more {img} {held} {img'} {held'} buffer n h c t =
    let w : Taken img held (take n buffer) (length (take n buffer)) t.text img' held' = rw (length-take-le n buffer h) t.taken in
    record { pieces = c.pieces ++ (take n buffer ∷ []); text = c.text ++ t.text; run = piece c.run w }

-- the image that the program leaves is the one that its input leaves
pub ran-whole : {img : List ℕ} → (r : Ran img) → img ≡ image_of_input (joined r.came.pieces)
ran-whole r = (whole r.came.run r.ends).1

-- what is known of what was taken in
pub ruleset taken = (took-none, used-within, came-none)
