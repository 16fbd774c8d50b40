-- A history as the calls' contracts tell it: each call got the bytes that the one before left, and kept its contract.
-- Nothing here but the contracts is assumed of the code.
use Rattle.std.specs.Prelude.{◌≡◌, ℕ, List, length}
use Rattle.std.specs.Prelude as S
use Rattle.crumbmap.specs.Layouts.{known}
use Rattle.machine.specs.Results.{number}
use Rattle.form.specs.Calls.{ask_of, count_of}
use Rattle.answers.specs.Answers.{outcome_of, change_of, asked_of, counted_of, paged_of, Freshens, Inserts, Deletes, Pages, Merges}
use Rattle.answers.specs.declared.Refusal.{Refusal}
use Rattle.answers.specs.declared.Asked.{Asked}
use Rattle.answers.specs.declared.Counted.{Counted}
use Rattle.answers.specs.declared.Paged.{Paged}
use Rattle.history.specs.Histories as H
use Rattle.history.specs.Histories.{Call, History, Fits}

-- one call of a list on an image, by its contract: the number that it gave, and the image after it
pub data Performed (img : List ℕ) : Call → ℕ → List ℕ → Type 0 where
  inserted : (k : ℕ) (r : S.Result ℕ Refusal) (new : List ℕ) → Inserts img k r new → Performed img (H.insert k) (number (change_of r)) new
  deleted : (k : ℕ) (r : S.Result ℕ Refusal) (new : List ℕ) → Deletes img k r new → Performed img (H.delete k) (number (change_of r)) new
  asked : (k : ℕ) (r : S.Result Asked Refusal) → asked_of r ≡ ask_of known img k → Performed img (H.ask k) (number (asked_of r)) img
  counted : (k : ℕ) (r : S.Result Counted Refusal) → counted_of r ≡ count_of known img k → Performed img (H.count k) (number (counted_of r)) img
  paged : (s changes : ℕ) (old : List ℕ) (r : S.Result Paged Refusal) (new : List ℕ) → Pages img s changes old r new
      → Performed img (H.page s changes (length old)) (number (paged_of r)) img

-- a start that was accepted, then calls; the image that they left. A fresh is of layout 1
pub data Happened : History → List ℕ → Type 0 where
  fresh : (old new : List ℕ) (r : S.Result (Unit {0}) Refusal) → Freshens old r new → number (outcome_of r) ≡ 0 → Happened (H.fresh 1 old) new
  merge : {a b : History} {x y : List ℕ} (old new : List ℕ) (r : S.Result (Unit {0}) Refusal) → Happened a x → Happened b y → Merges x y old r new → number (outcome_of r) ≡ 0
      → Happened (H.merge a b old) new
  followed : {h : History} {img : List ℕ} (c : Call) (n : ℕ) (new : List ℕ) → Happened h img → Fits c → Performed img c n new → Happened (H.followed h c) new
