-- `words::select::place_of` meets its contract: the byte that `approach` found has the rank (`near-left`), and its place there.
use mathlib.Core.Path.{◌≡◌}
use Prim.Native.Nat.{◌+◌}
use native.Mathlib.Omega.{arith}
use Rattle.words.specs.Select.{select_in}
use Rattle.words.proofs.SelectLaws.{select-le}
use Rattle.words.proofs.ByteLaws.{select-found, near-left}
use Rattle.words.proofs.select.place_of.Goals.{After-in_byte}
use Rattle.words.proofs.select.place_of.Goals as goal

found : (c : After-in_byte) → c.approach-spot.result.place + c.in_byte.result ≡ select_in 64 c.args.word c.args.rank
found c =
    let n = c.approach-spot in
    select-found c.args.word c.args.rank n.result.place n.result.left c.in_byte.result n.ensures.0 n.ensures.1 c.in_byte.ensures

pub in_byte-requires : goal.in_byte-requires
in_byte-requires c =
    let n = c.approach-spot in
    (omega arith, rw n.ensures.1 (near-left c.args.word c.args.rank n.result.place n.ensures.0 c.ranges.word.fits c.requires))

pub overflow_add-result : goal.overflow_add-result
overflow_add-result c = omega (arith, found c, select-le 64 c.args.word c.args.rank)

pub returns : goal.returns
returns c = found c
