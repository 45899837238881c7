use Rattle.std.proofs.Common.{◌≡◌, take, fold}
use Rattle.brl_pairs.specs.Seed.{after_number}
use Rattle.brl_pairs.proofs.seed.SeededHasherHasher.write.Given as goal

abbrev pub invariant-loop-byte : goal.invariant-loop-byte
invariant-loop-byte l = l.self ≡ fold after_number l.initial.self (take l.byte-index l.bytes)
