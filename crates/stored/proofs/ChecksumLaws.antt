-- FNV-1a byte by byte. Main results: checksum-more, checksum-end.
use Rattle.std.proofs.Common.{◌≡◌, ℕ, ◌+◌, ◌<◌, ◌≤◌, List, length, get_or, drop, add-one, drop_of_length-le, drop-cons}
use Rattle.stored.specs.Checksums.{mix, checksum}

pub checksum-more : (s i : ℕ) (bs : List ℕ) → i < length bs → checksum s (drop i bs) ≡ checksum (mix s (get_or bs i 0)) (drop (i + 1) bs)
unfolding checksum
checksum-more s i bs h = rw (add-one, drop-cons bs i 0)

pub checksum-end : (s i : ℕ) (bs : List ℕ) → length bs ≤ i → checksum s (drop i bs) ≡ s
unfolding checksum
checksum-end s i bs h = rw (drop_of_length-le bs h)
