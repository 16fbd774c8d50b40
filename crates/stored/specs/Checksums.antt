-- FNV-1a with 64 bits.
use Rattle.std.specs.Prelude.{ℕ, ◌*◌, ◌%◌, ◌^◌, List, [], ◌∷◌, bit_xor}

-- "each byte b turns s into (s xor b) × hex 100000001B3 mod 2^64"
abbrev pub mix : ℕ → ℕ → ℕ
mix s b = (bit_xor s b * 1099511628211) % 2 ^ 64

-- s with all bytes mixed in
unfoldable pub checksum : ℕ → List ℕ → ℕ
checksum s [] = s
checksum s (b ∷ bs) = checksum (mix s b) bs
