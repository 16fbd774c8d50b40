-- `paging::page::number_all` meets its contract. The loop's invariant: the numbers of the keys passed stand in front of what `out` held.
use native.Mathlib.Omega.{arith}
use Rattle.crumbmap.specs.Layouts.{layout1, keys}
use Rattle.crumbmap.specs.Fingerprints.{fingerprint}
use Rattle.multiset.proofs.MultisetLaws.{below_at}
use Rattle.listing.proofs.MergedLists.{mapped-on, mapped-all}
use Rattle.paging.proofs.page.number_all.Goals as goal

pub number_of-requires : goal.number_of-requires
number_of-requires c =
    (c.requires.0, below_at (keys layout1) c.loop-i.i c.args.keys.now c.requires.1 (omega arith))

pub loop-i-preserved : goal.loop-i-preserved
loop-i-preserved c =
    let l = c.loop-i in
    let on = mapped-on (fingerprint layout1 c.args.front.0) c.args.keys.now c.args.out.now l.out l.i in
    rw c.number_of.ensures (on (omega arith) c.requires.2 l.invariant)

pub returns : goal.returns
returns c =
    let l = c.loop-i in
    let a = c.args in
    mapped-all (fingerprint layout1 a.front.0) a.keys.now a.out.now l.out l.i (omega arith) l.invariant
