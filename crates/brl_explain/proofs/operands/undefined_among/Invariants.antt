use Rattle.std.proofs.Common.{◌≡◌, flat_map, string_bytes, take}
use Rattle.brl_explain.specs.Operands.{spelled_unless}
use Rattle.brl_explain.proofs.operands.undefined_among.Given as goal

-- the characters so far
abbrev pub invariant-loop-character : goal.invariant-loop-character
invariant-loop-character l = string_bytes l.text ≡ flat_map (spelled_unless l.known.entries) (take l.character-index l.characters)
