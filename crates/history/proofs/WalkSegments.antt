-- Walks: the change count only grows, and while it is the walk's the ledger is still N, so the entries so far are the segment of N up to the next
-- bucket. Main result: `full-walk`, a full walk lists every g N(g) times, ascending.
use mathlib.Core.Path.{◌≡◌, refl, sym, ◌∙◌}
use Prim.Native.Nat.{ℕ, zero, suc, ◌+◌, ◌*◌, ◌≤◌}
use mathlib.Core.Bool.{Bool, true, false}
use mathlib.Core.List.{List}
use mathlib.Core.Option.{some}
use native.Mathlib.Omega.{arith}
use native.Mathlib.Nat.{zero-mul, mul-le-mul_right}
use lib.Dec.{ltb, T}
use borrow.Author.Tests.{ltb-true, ltb-false}
use Rattle.multiset.specs.Multisets.{copies, ascending}
use Rattle.crumbmap.specs.Layouts.{Layout, Numbering, keys, fronts}
use Rattle.machine.specs.Results.{accepted}
use Rattle.machine.specs.Pages.{Run, page_from}
use Rattle.machine.specs.Calls as M
use Rattle.machine.proofs.Segments.{Segment, segment-append}
use Rattle.machine.proofs.PageLaws.{Paged, beyond, unfit, listed, page-good}
use Rattle.form.specs.Tails.{Tail, body}
use Rattle.form.specs.Calls.{page_of}
use Rattle.form.proofs.WalkLaws.{unchanged-accepted}
use Rattle.history.specs.Histories.{Call, insert, delete, ask, count, page, History, followed, blocks, layout_number, number_of, bytes_after, Started}
use Rattle.history.specs.Ledgers.{adjusted, entered, ledger, filed}
use Rattle.history.specs.Walks.{Walk, begun, continued, meanwhile, FullWalk}
use Rattle.history.specs.Demand.{AllFit}
use Rattle.history.proofs.LedgerLaws.{Keeps, page_of-at}
use Rattle.history.proofs.StepLaws.{page_of-body}
use Rattle.history.proofs.HistoryLaws.{StandsAfter, stands_at}

-- ---- one call

-- a call that gave the number m leaves the ledger and the count, or adds 1 to the count
data Counts (L : Layout) (B m : ℕ) (c : Call) (N : ℕ → ℕ) (t : Tail) : Type 0 where
  still : (adjusted m c t).changes ≡ t.changes → ((g : ℕ) → entered L B m c N g ≡ N g) → Counts L B m c N t
  more : (adjusted m c t).changes ≡ t.changes + 1 → Counts L B m c N t

call-counts : (L : Layout) (B m : ℕ) (c : Call) (N : ℕ → ℕ) (t : Tail) → Counts L B m c N t
unfolding adjusted entered
call-counts L B zero (insert k) N t = more refl
call-counts L B (suc m) (insert k) N t = still refl (λ g. refl)
call-counts L B zero (delete k) N t = more refl
call-counts L B (suc m) (delete k) N t = still refl (λ g. refl)
call-counts L B m (ask k) N t = still refl (λ g. refl)
call-counts L B m (count k) N t = still refl (λ g. refl)
call-counts L B m (page s n room) N t = still refl (λ g. refl)

-- ---- a walk

-- a walk so far with change count n, up to bucket s: the count is not below n, while it is n the ledger is still N, and the entries are N's segment
pub record Walked (layouts : Numbering) (L : Layout) (n : ℕ) (h : History) (N : ℕ → ℕ) (gs : List ℕ) (s : ℕ) : Type 0 where
  pub from : n ≤ (filed layouts h).changes
  pub same : (filed layouts h).changes ≡ n → (g : ℕ) → ledger layouts L h g ≡ N g
  pub segment : Segment N 0 (s * keys L) gs
  pub none-past : (g : ℕ) → fronts (blocks h) * keys L ≤ g → N g ≡ 0

module _ (layouts : Numbering) (L : Layout) where
  -- an accepted page of the walk finds its count, and gives the segment up to the next bucket
  page-segment : (h : History) (N : ℕ → ℕ) (s n room : ℕ) (r : Run) → StandsAfter layouts L h
      → ((filed layouts h).changes ≡ n → (g : ℕ) → ledger layouts L h g ≡ N g) → page_of layouts (bytes_after layouts h) s n room ≡ accepted r
      → ((filed layouts h).changes ≡ n) × (s ≤ r.next) × Segment N (s * keys L) (r.next * keys L) r.entries
  page-segment h N s n room r st same e =
      let p = go (page-good L (blocks h) img keep.good N (λ f x l k. sym (same told.0 _) ∙ keep.says f x l k) s room) in (told.0, p.0, p.1)
    where
      img : List ℕ
      img = body (bytes_after layouts h)

      keep : Keeps L (blocks h) img (ledger layouts L h)
      keep = st.keep

      told : ((filed layouts h).changes ≡ n) × (M.page_of L img s room ≡ accepted r)
      told = unchanged-accepted (filed layouts h).changes n (M.page_of L img s room) (sym (page_of-body st s n room) ∙ e)

      at : page_from L (blocks h) s room img ≡ accepted r
      at = sym (page_of-at keep s room) ∙ told.1

      go : Paged L (blocks h) N s room img → (s ≤ r.next) × Segment N (s * keys L) (r.next * keys L) r.entries
      go (beyond q l) = let z : ◌≡◌ {A = ℕ} 0 1 = cc at in absurd (omega arith)
      go (unfit q l o) = let z : ◌≡◌ {A = ℕ} 0 1 = cc at in absurd (omega arith)
      go (listed t q l o a b g) = let z : t ≡ r = cc at in rw (← z) (a, g)

  -- any call after a walk so far
  walked_on : {n : ℕ} {h : History} {N : ℕ → ℕ} {gs : List ℕ} {s : ℕ} (c : Call) → Walked layouts L n h N gs s → Walked layouts L n (followed h c) N gs s
  unfolding ledger filed blocks
  walked_on {n} {h} {N} {gs} {s} c before =
      go (call-counts L (blocks h) (number_of layouts (bytes_after layouts h) c) c (ledger layouts L h) (filed layouts h))
    where
      go : Counts L (blocks h) (number_of layouts (bytes_after layouts h) c) c (ledger layouts L h) (filed layouts h) → Walked layouts L n (followed h c) N gs s
      go (still e l) =
          record {
            from = omega (arith, e, before.from);
            same = λ q g. l g ∙ before.same (sym e ∙ q) g;
            segment = before.segment;
            none-past = before.none-past;
          }
      go (more e) =
          record {
            from = omega (arith, e, before.from);
            same = λ q g. absurd (omega (arith, e, before.from));
            segment = before.segment;
            none-past = before.none-past;
          }

module _ (layouts : Numbering) (fit : AllFit layouts) (L : Layout) where
  walk-so-far : {n : ℕ} {h : History} {N : ℕ → ℕ} {gs : List ℕ} {s : ℕ} → Walk layouts L n h N gs s → Started layouts h
      → layouts (layout_number h) ≡ some L → Walked layouts L n h N gs s
  unfolding layout_number ledger filed adjusted entered blocks
  walk-so-far {n} (begun h room r e) st l =
      let stood = stands_at layouts fit h L st.0 l in
      let p = page-segment layouts L h (ledger layouts L h) 0 n room r stood (λ q g. refl) e in
      record { from = omega (arith, p.0); same = λ q g. refl; segment = rw zero-mul at p.2; none-past = stood.keep.none-past }
  walk-so-far {n} (continued h N gs s room r w e) st l =
      let before = walk-so-far w st.0 l in
      let p = page-segment layouts L h N s n room r (stands_at layouts fit h L st.0 l) before.same e in
      record {
        from = before.from;
        same = before.same;
        segment = segment-append N 0 (s * keys L) (r.next * keys L) gs r.entries
            (omega arith) (mul-le-mul_right (keys L) p.1) before.segment p.2;
        none-past = before.none-past;
      }
  walk-so-far (meanwhile h N gs s c w) st l = walked_on layouts L c (walk-so-far w st.0 l)

  pub full-walk : {h : History} {N : ℕ → ℕ} {gs : List ℕ} → FullWalk layouts L h N gs → Started layouts h → layouts (layout_number h) ≡ some L
      → T (ascending gs) × ((g : ℕ) → copies g gs ≡ N g)
  full-walk {h} {N} {gs} w st l = (walked.segment.order, λ g. each g (ltb g (fronts (blocks h) * keys L)) refl)
    where
      walked : Walked layouts L w.0 h N gs (fronts (blocks h))
      walked = walk-so-far w.1 st l

      -- N is 0 past the last fingerprint
      each : (g : ℕ) (t : Bool) → ltb g (fronts (blocks h) * keys L) ≡ t → copies g gs ≡ N g
      each g true e = walked.segment.inside g (omega arith) (ltb-true _ _ e)
      each g false e =
          let k : fronts (blocks h) * keys L ≤ g = ltb-false _ _ e in
          walked.segment.past g k ∙ sym (walked.none-past g k)
