-- The checksum of all bytes is that of the rest from here on.
use Rattle.std.proofs.Common.{◌≡◌, drop}
use Rattle.stored.specs.Checksums.{checksum}
use Rattle.stored.proofs.sum.of_bytes.Given as goal

abbrev pub invariant-loop-byte : goal.invariant-loop-byte
invariant-loop-byte l = checksum l.sum l.bytes ≡ checksum l.s (drop l.byte-index l.bytes)
