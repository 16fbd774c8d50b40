-- `grouping::share::advance` meets its contract: the entry is out of its order, or the row is refused already, or it joins the state.
use Rattle.std.proofs.Common.{◌≡◌, sym, le-ltb, lt-ltb, eq-eqb, ne_eqb}
use Rattle.grouping.specs.Steps.Grouping.{held, tested_at}
use Rattle.grouping.proofs.GroupLaws.{extends}
use Rattle.grouping.proofs.share.advance.Goals.{Joined-s-f, then-s-f, else-s-f}
use Rattle.grouping.proofs.share.advance.Goals as goal

same : (c : Joined-s-f) → let a = c.args in c.if-s-f.held ≡ held a.s a.front.0
same c = elim c.if-s-f.branch [ then-s-f w ↦ rw (lt-ltb _ _ w.if-s-f.true) w.held-is | else-s-f w ↦ rw (le-ltb _ _ w.if-s-f.false) w.held-is ]

pub returns-then-f-s : goal.returns-then-f-s
unfolding tested_at
returns-then-f-s c = let a = c.args in rw (lt-ltb a.front.0 a.s.front c.if-f-s.true)

pub returns-then-s-ne0 : goal.returns-then-s-ne0
unfolding tested_at
returns-then-s-ne0 c =
    let a = c.args in
    rw (le-ltb a.front.0 a.s.front c.if-f-s.false, ne_eqb a.s.number 0 c.if-s-ne0.true)

pub extend-requires : goal.extend-requires
extend-requires c =
    let p = c.requires in
    extends p.0 p.1 p.2 c.if-f-s.false c.if-s-ne0.false (same c)

pub returns : goal.returns
unfolding tested_at
returns c =
    let a = c.args in
    rw (le-ltb a.front.0 a.s.front c.if-f-s.false, eq-eqb a.s.number 0 c.if-s-ne0.false, sym (same (goal.at.returns c).Joined-s-f)) c.extend.ensures
