use Rattle.std.proofs.Common.{map, string_bytes, take}
use Rattle.brl_accepted.specs.Words.{IsIndex}
use Rattle.brl_accepted.proofs.index.index_of.Given as goal

-- the rules so far are looked up by what they say
abbrev pub invariant-loop-number : goal.invariant-loop-number
invariant-loop-number l = IsIndex (map string_bytes l.words) (take l.number-index l.numbers) l.index
