-- `of_bytes` goes byte by byte: the checksum of all is that of the rest from here on.
use Rattle.std.proofs.Common.{sym, ◌∙◌, arith}
use Rattle.stored.proofs.ChecksumLaws.{checksum-more, checksum-end}
use Rattle.stored.proofs.sum.of_bytes.Goals as goal

pub loop-byte-preserved : goal.loop-byte-preserved
loop-byte-preserved c =
    let at = c.loop-byte in
    let more = checksum-more at.s at.byte-index c.args.bytes.now (omega arith) in
    at.invariant ∙ more ∙ rw c.mixed-s.ensures

pub returns : goal.returns
returns c =
    let at = c.loop-byte in
    sym (at.invariant ∙ checksum-end at.s at.byte-index c.args.bytes.now (omega arith))
