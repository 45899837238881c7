-- Hashes by a seed: the value of a polynomial, modulo 2^61 - 1. The project's own choice.
use Rattle.std.specs.Prelude.{ℕ, ◌+◌, ◌*◌, ◌/◌, ◌%◌, ◌^◌, List, length, nat_le, drop, if◌then◌else◌, fold}
use Rattle.std.specs.Int.{from_le_bytes, w64}
use Rattle.brl_pairs.specs.declared.seed.Seed.{Seed}
use Rattle.brl_pairs.specs.declared.seed.SeededHasher.{SeededHasher}

-- the number that eight bytes of a digest spell from a place on, the lowest first
abbrev pub number_at : ℕ → List ℕ → ℕ
number_at place digest = from_le_bytes w64 (drop place digest)

-- a smaller number with the same remainder modulo 2^61 - 1
unfoldable pub folded : ℕ → ℕ
folded n = n % 2 ^ 61 + n / 2 ^ 61

-- the hasher before the first number
abbrev pub hasher_of : Seed → SeededHasher
hasher_of seed = record { state = seed.start; point = seed.point }

-- the hasher after a number, which is the next coefficient of the polynomial
unfoldable pub after_number : SeededHasher → ℕ → SeededHasher
after_number h number = record { state = folded (folded h.state * (h.point % 2 ^ 61) + number); point = h.point }

-- The hasher after a write. Up to eight bytes are one number, and else each byte is a number.
unfoldable pub after_write : SeededHasher → List ℕ → SeededHasher
after_write h bytes = if nat_le (length bytes) 8 then after_number h (from_le_bytes w64 bytes) else fold after_number h bytes
