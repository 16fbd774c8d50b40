-- `words::select::select` meets its contract: the table has the rank's place in the byte that `approach` found.
use mathlib.Core.Path.{◌≡◌, sym}
use Prim.Native.Nat.{◌+◌}
use native.Mathlib.Omega.{arith}
use Rattle.words.specs.Select.{select_in}
use Rattle.words.proofs.SelectLaws.{select-le}
use Rattle.words.proofs.ByteLaws.{select-found, select-none}
use Rattle.words.proofs.select.select.Goals.{After-at_rank}
use Rattle.words.proofs.select.select.Goals as goal

found : (c : After-at_rank) → c.approach-spot.result.place + c.at_rank.result ≡ select_in 64 c.args.word c.args.rank
found c =
    let n = c.approach-spot in
    select-found c.args.word c.args.rank n.result.place n.result.left c.at_rank.result n.ensures.0 n.ensures.1 c.at_rank.ensures

pub returns-then-spot-ge8 : goal.returns-then-spot-ge8
returns-then-spot-ge8 c =
    let n = c.approach-spot in
    sym (select-none c.args.word c.args.rank n.result.place n.ensures.0 (rw n.ensures.1 at c.if-spot-ge8.true))

pub overflow_add-result : goal.overflow_add-result
overflow_add-result c = omega (arith, found c, select-le 64 c.args.word c.args.rank)

pub returns : goal.returns
returns c = found c
