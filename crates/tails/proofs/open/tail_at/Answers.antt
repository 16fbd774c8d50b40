-- `tails::open::tail_at` meets its contract: the tail is lent to the end, and what reading it says is what the image says.
use mathlib.Core.Path.{refl}
use Rattle.form.proofs.TailLaws.{length_rest}
use Rattle.tails.proofs.OpenLaws.{whole_long, tail-said}
use Rattle.tails.proofs.PartLaws.{tail-part}
use Rattle.tails.proofs.open.tail_at.Goals as goal

pub overflow_sub-end : goal.overflow_sub-end
overflow_sub-end c = whole_long c.args.image.now c.requires

pub read_tail-requires : goal.read_tail-requires
read_tail-requires c =
    let img = c.args.image.now in
    rw (tail-part img refl) (length_rest img (whole_long img c.requires))

pub returns : goal.returns
returns c =
    let a = c.args in
    tail-said a.size a.image.now (rw (c.slots_of.ensures, tail-part a.image.now refl) at c.read_tail.ensures)
