use Rattle.std.proofs.Common.{◌≡◌, flat_map, map, string_bytes, take}
use Rattle.brl_accepted.specs.Pairs.{whole_line}
use Rattle.brl_accepted.proofs.words.write_pairs.Given as goal

-- the lines of the pairs so far
abbrev pub invariant-loop-pair : goal.invariant-loop-pair
invariant-loop-pair l = string_bytes l.text ≡ flat_map (whole_line (map string_bytes l.words)) (take l.pair-index l.pairs)
