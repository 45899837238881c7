-- Whose opcode a word is: of the profile, of liblouis alone, or of neither. The table of liblouis'
-- opcodes is the constant `OPCODES`. The project's own choice.
use Rattle.std.specs.Prelude.{ℕ, Bool, is_some, if◌then◌else◌, nat_eq, List, bytes_eq}
use Rattle.std.specs.List.{after_first, list_any}
use Rattle.brl_table.specs.Opcodes.{entry_of, opcode_of, place_opcodes}
use Rattle.brl_table.specs.declared.liblouis.OpcodeOrigin.{OpcodeOrigin}
use Rattle.brl_table.specs.declared.liblouis.OpcodeOrigin.TheVariants.{Profile, Liblouis, Unknown}
use Rattle.brl_table.specs.declared.liblouis.TheConstants.{OPCODES}

-- whether a word is an opcode of liblouis
unfoldable pub is_opcode : List ℕ → Bool
is_opcode word = list_any (λ opcode. bytes_eq word opcode.now) OPCODES

-- whose opcode a word is, given whether it is read
abbrev pub origin_if : Bool → List ℕ → OpcodeOrigin
origin_if is_read word = if is_read then Profile else if is_opcode word then Liblouis else Unknown

-- a blank
abbrev pub is_blank : ℕ → Bool
is_blank byte = nat_eq byte 32

-- whose opcode this is: a word, or what follows a prefix and a blank
abbrev pub origin_of : List ℕ → OpcodeOrigin
origin_of opcode =
    if list_any is_blank opcode then origin_if (is_some (entry_of place_opcodes (after_first is_blank opcode))) (after_first is_blank opcode)
    else origin_if (is_some (opcode_of opcode)) opcode
