-- What a survey or a cut finds that was hardly meant so. The project's own choice.
use Rattle.std.specs.Prelude.{Bool, true, false, ◌||◌, not, List}
use Rattle.std.specs.List.{list_any}
use Rattle.brl_table.specs.Liblouis.{origin_of}
use Rattle.brl_table.specs.Survey.{FaultyLineView, FindingsView}
use Rattle.brl_table.specs.declared.liblouis.OpcodeOrigin.{OpcodeOrigin}
use Rattle.brl_table.specs.declared.liblouis.OpcodeOrigin.TheVariants.{Unknown}

-- whether an opcode is none of liblouis'
abbrev pub is_unknown : OpcodeOrigin → Bool
is_unknown Unknown = true
is_unknown origin = false

-- whether the opcode of one of the lines that aren't read is none of liblouis'
abbrev pub has_unknown_opcode : List FaultyLineView → Bool
has_unknown_opcode found = list_any (λ faulty. is_unknown (origin_of faulty.opcode)) found

-- whether a survey finds such a line, or no line that defines a character
abbrev pub is_suspect : FindingsView → Bool
is_suspect found = has_unknown_opcode found.faulty || not found.has_characters
