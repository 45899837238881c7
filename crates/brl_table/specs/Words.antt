-- The words of opcodes, and the indicators whose cells their lines give. The project's own choice.
use Rattle.std.specs.Prelude.{ℕ, List, ◌++◌, map, Option, Some, None}
use Rattle.brl_rules.specs.declared.signs.Sign.{Sign}
use Rattle.brl_table.specs.Opcodes.{character_opcodes, other_opcodes, place_opcodes}
use Rattle.brl_table.specs.declared.opcode.Opcode.{Opcode}
use Rattle.brl_table.specs.declared.opcode.Opcode.TheVariants.{Indicator}

-- the words of all opcodes
unfoldable pub opcode_words : List (List ℕ)
opcode_words = map (λ entry. entry.0) (character_opcodes ++ place_opcodes ++ other_opcodes)

-- the indicator whose cells an opcode's lines give, if they do
abbrev pub sign_given : Option Opcode → Option Sign
sign_given (Some (Indicator sign)) = Some sign
sign_given opcode = None
