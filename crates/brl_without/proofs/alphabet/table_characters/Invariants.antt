use Rattle.std.proofs.Common.{◌≡◌, take}
use Rattle.brl_without.specs.Alphabet.{table_characters as characters_of}
use Rattle.brl_without.proofs.alphabet.table_characters.Given as goal

-- the characters so far
abbrev pub invariant-loop-number : goal.invariant-loop-number
invariant-loop-number l = l.characters.items ≡ take l.number (characters_of l.table)
