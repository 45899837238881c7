-- A write of up to eight bytes goes on by the number that they spell.
use Rattle.std.proofs.Common.{◌≡◌, ℕ, ◌^◌, ◌<◌, ◌≤◌, List, [], ◌∷◌, length, take, ap, ◌∙◌, arith, take_all, fold}
use Rattle.std.proofs.lemmas.Bool.Decides.{nat_tests}
use Rattle.std.proofs.lemmas.Nat.{from_le_bytes-to_le_bytes_4, from_le_bytes-to_le_bytes_8}
use Rattle.std.specs.Hash.{le_bytes}
use Rattle.std.specs.Int.{from_le_bytes, w64}
use Rattle.brl_pairs.specs.Seed.{after_number, after_write}
use Rattle.brl_pairs.specs.declared.seed.SeededHasher.{SeededHasher}

pub after_write-short : (h : SeededHasher) (bytes : List ℕ) → length bytes ≤ 8 → after_write h bytes ≡ after_number h (from_le_bytes w64 bytes)
unfolding after_write
after_write-short h bytes short = grind (arith, nat_tests)

-- one byte
pub after_write-u8 : (h : SeededHasher) (i : ℕ) → after_write h (i ∷ []) ≡ after_number h i
after_write-u8 h i = after_write-short h (i ∷ []) (omega arith) ∙ ap (after_number h) (let e : from_le_bytes w64 (i ∷ []) ≡ i = omega arith in e)

-- four bytes
number-4 : (i : ℕ) → i < 2 ^ 32 → from_le_bytes w64 (le_bytes 4 i) ≡ i
unfolding le_bytes
number-4 i small = let e = from_le_bytes-to_le_bytes_4 i small in omega (arith, e)

pub after_write-u32 : (h : SeededHasher) (i : ℕ) → i < 2 ^ 32 → after_write h (le_bytes 4 i) ≡ after_number h i
unfolding le_bytes
after_write-u32 h i small = after_write-short h (le_bytes 4 i) (omega arith) ∙ ap (after_number h) (number-4 i small)

-- eight bytes
number-8 : (i : ℕ) → i < 2 ^ 64 → from_le_bytes w64 (le_bytes 8 i) ≡ i
unfolding le_bytes
number-8 i small = from_le_bytes-to_le_bytes_8 i small

pub after_write-u64 : (h : SeededHasher) (i : ℕ) → i < 2 ^ 64 → after_write h (le_bytes 8 i) ≡ after_number h i
unfolding le_bytes
after_write-u64 h i small = after_write-short h (le_bytes 8 i) (omega arith) ∙ ap (after_number h) (number-8 i small)

-- more bytes: each is a number
pub after_write-long : (h after : SeededHasher) (bytes : List ℕ) (place : ℕ) → 8 < length bytes → after ≡ fold after_number h (take place bytes) → length bytes ≤ place → after ≡ after_write h bytes
unfolding after_write
after_write-long h after bytes place long is end =
    let numbers : fold after_number h bytes ≡ after_write h bytes = grind (arith, nat_tests) in
    is ∙ ap (fold after_number h) (take_all place bytes end) ∙ numbers
